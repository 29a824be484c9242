use Rattle.std.proofs.Common.{◌≡◌, ◌+◌, ◌≤◌, drop}
use Rattle.dc_order.specs.Rings.{missing}
use Rattle.dc_order.proofs.order.missing_in.Given as goal

-- so many are missing so far
abbrev pub invariant-loop-is : goal.invariant-loop-is
invariant-loop-is l = (l.count ≤ l.is-index) × (l.count + missing (drop l.is-index l.reached) ≡ missing l.reached)
