use Rattle.std.proofs.Common.{◌+◌, List, map, sym, subst}
use Rattle.dc_cert.specs.NamedRows.{named_input}
use Rattle.dc_cert.specs.declared.certificate.InputRow.{InputRow}
use Rattle.dc_find.proofs.Lists.{AreRows, row_pushed}
use Rattle.dc_find.specs.Found.{IsFoundInput}
use Rattle.dc_find.proofs.reached.found_inputs.Goals as goal

pub loop-bus-preserved : goal.loop-bus-preserved
loop-bus-preserved c =
    subst (λ (l : List InputRow). AreRows (IsFoundInput c.args.tables.now) (c.loop-bus.bus + 1) (map named_input l)) (sym c.in_ok-push.ensures.items)
    (row_pushed named_input (IsFoundInput c.args.tables.now) c.loop-bus.bus c.loop-bus.rows.items c.found_input.result c.loop-bus.invariant c.found_input.ensures)
