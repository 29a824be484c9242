use Rattle.std.proofs.Common.{Some, None, ap, sym, ◌∙◌, w64, arith}
use Rattle.std.specs.Prelude.{if◌then◌else◌}
use Rattle.std.proofs.lemmas.Bool.{le-leb}
use Rattle.std.proofs.lemmas.Int.{to_z-of_z}
use Rattle.dc_margin.specs.Margins.{room}
use Rattle.dc_margin.proofs.queues.delay_slack.Goals as goal

pub returns : goal.returns
returns c =
    ap (λ z. Some z) (to_z-of_z w64 c.difference.result (record { sfits = c.difference.type_inv }) ∙ c.difference.ensures ∙ ap (λ d. room d c.args.needed) c.from-2.ensures)
    ∙ sym (ap (λ b. if b then Some (room c.args.delay c.args.needed) else None) (le-leb c.args.needed 100000 (omega (arith, c.if-needed-from.false, c.from.ensures))))
