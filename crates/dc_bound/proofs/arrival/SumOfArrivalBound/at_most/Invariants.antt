use Rattle.std.proofs.Common.{◌≡◌, ◌≤◌, length, take}
use Rattle.std.specs.List.{sum_by}
use Rattle.dc_bound.proofs.arrival.SumOfArrivalBound.at_most.Given as goal

abbrev pub invariant-loop-member : goal.invariant-loop-member
invariant-loop-member g l = (l.member-items ≡ l.self.members.now) × (l.member-index ≤ length l.member-items) × (l.total ≡ sum_by (λ b. g.B.ArrivalBound.cap b l.d) (take l.member-index l.member-items))
