use Rattle.std.specs.Prelude.{◌≡◌, ◌+◌}
use Rattle.dc_hub.specs.Views.{parts_needed, receipts_in}
use Rattle.dc_hub.proofs.closing.merge_routers.Given as goal

abbrev pub invariant-loop-router : goal.invariant-loop-router
invariant-loop-router g l =
    (l.all.parts + parts_needed g.L.Charter.certified g.L.Charter.whole l.routers.items ≡ l.fn.all.parts + parts_needed g.L.Charter.certified g.L.Charter.whole l.fn.routers.items)
    × (l.all.amount + receipts_in l.routers.items ≡ l.fn.all.amount + receipts_in l.fn.routers.items)

abbrev pub decreases-loop-router : goal.decreases-loop-router
decreases-loop-router g l = goal.left-loop-router g l
