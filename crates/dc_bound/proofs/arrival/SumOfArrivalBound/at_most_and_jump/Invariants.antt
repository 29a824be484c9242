use Rattle.std.proofs.Common.{◌≡◌, ℕ, ◌≤◌, Option, length, take}
use Rattle.std.specs.List.{sum_by}
use Rattle.dc_bound.specs.Window.{IsKept, IsNextJump}
use Rattle.dc_bound.proofs.arrival.SumOfArrivalBound.at_most_and_jump.Given as goal

abbrev pub invariant-loop-member : goal.invariant-loop-member
invariant-loop-member g l = record {
  same : l.member-items ≡ l.self.members.now;
  inside : l.member-index ≤ length l.member-items;
  total : l.total ≡ sum_by (λ b. g.B.ArrivalBound.cap b l.d) (take l.member-index l.member-items);
  jump : (o : Option ℕ) × IsKept l.jump o × IsNextJump (λ e. sum_by (λ b. g.B.ArrivalBound.cap b e) (take l.member-index l.member-items)) l.d o;
}
