use Rattle.std.proofs.Common.{◌≡◌, ◌≤◌, length}
use Rattle.dc_bound.specs.Rounds.{among, is_at}
use Rattle.dc_bound.proofs.service.visits_in_front.Given as goal

abbrev pub invariant-loop-i : goal.invariant-loop-i
invariant-loop-i l = (l.count ≡ among (λ i. is_at l.visits l.bus i) (length l.visits) 0 l.i) × (l.count ≤ l.i)
