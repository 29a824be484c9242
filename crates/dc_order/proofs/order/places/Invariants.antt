use Rattle.std.proofs.Common.{◌≡◌, ℕ, ◌<◌, vec_len, get_or}
use Rattle.dc_order.specs.Rings.{IsMissing, IsOnRing}
use Rattle.dc_order.proofs.order.places.Given as goal

-- those so far are on no ring, and have as a place how many they do not lead to
abbrev pub invariant-loop-i : goal.invariant-loop-i
invariant-loop-i l = record {
  size : vec_len l.places ≡ l.count;
  free : (k : ℕ) → k < l.i → IsOnRing l.hops k → ⊥;
  missing : (k : ℕ) → k < l.i → IsMissing l.count l.hops k (get_or l.places.items k 0);
}
