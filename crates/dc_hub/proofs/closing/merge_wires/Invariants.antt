use Rattle.std.specs.Prelude.{◌≡◌, ◌+◌, length}
use Rattle.std.specs.List.{sum_by}
use Rattle.dc_hub.specs.Views.{WireView, parts_for}
use Rattle.dc_hub.proofs.closing.merge_wires.Given as goal

abbrev pub invariant-loop-wire : goal.invariant-loop-wire
invariant-loop-wire g l =
    (l.all.parts + sum_by (λ (w : WireView). parts_for g.L.Charter.certified g.L.Charter.whole w.seat.actor) l.wires.items
    ≡ l.fn.all.parts + sum_by (λ (w : WireView). parts_for g.L.Charter.certified g.L.Charter.whole w.seat.actor) l.fn.wires.items)
    × (l.all.amount + sum_by (λ (w : WireView). length w.seat.receipts) l.wires.items ≡ l.fn.all.amount + sum_by (λ (w : WireView). length w.seat.receipts) l.fn.wires.items)

abbrev pub decreases-loop-wire : goal.decreases-loop-wire
decreases-loop-wire g l = goal.left-loop-wire g l
