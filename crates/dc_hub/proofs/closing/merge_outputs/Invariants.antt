use Rattle.std.specs.Prelude.{◌≡◌, ◌+◌}
use Rattle.dc_hub.specs.Views.{parts_needed, receipts_in}
use Rattle.dc_hub.proofs.closing.merge_outputs.Given as goal

abbrev pub invariant-loop-output : goal.invariant-loop-output
invariant-loop-output g l =
    (l.all.parts + parts_needed g.L.Charter.certified g.L.Charter.whole l.outputs.items ≡ l.fn.all.parts + parts_needed g.L.Charter.certified g.L.Charter.whole l.fn.outputs.items)
    × (l.all.amount + receipts_in l.outputs.items ≡ l.fn.all.amount + receipts_in l.fn.outputs.items)

abbrev pub decreases-loop-output : goal.decreases-loop-output
decreases-loop-output g l = goal.left-loop-output g l
