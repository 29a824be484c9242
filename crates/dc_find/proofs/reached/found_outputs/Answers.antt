use Rattle.std.proofs.Common.{◌+◌, List, map, sym, subst}
use Rattle.dc_cert.specs.NamedRows.{named_output}
use Rattle.dc_cert.specs.declared.certificate.OutputRow.{OutputRow}
use Rattle.dc_find.proofs.Lists.{AreRows, row_pushed}
use Rattle.dc_find.specs.Found.{IsFoundOutput}
use Rattle.dc_find.proofs.reached.found_outputs.Goals as goal

pub loop-output-preserved : goal.loop-output-preserved
loop-output-preserved c =
    subst (λ (l : List OutputRow). AreRows (IsFoundOutput c.args.tables.now) (c.loop-output.output + 1) (map named_output l)) (sym c.in_ok-push.ensures.items)
    (row_pushed named_output (IsFoundOutput c.args.tables.now) c.loop-output.output c.loop-output.rows.items c.found_output.result c.loop-output.invariant c.found_output.ensures)
