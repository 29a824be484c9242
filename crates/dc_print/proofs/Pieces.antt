-- Digits put one after another.
use Rattle.std.proofs.Common.{◌≡◌, ℕ, ◌+◌, ◌-◌, List, ◌++◌, length, take, drop, arith}
use Rattle.std.proofs.Math.Seq.{take-append_seam}

-- digits that end at a place
pub digits_put : (digits after buffer : List ℕ) (start : ℕ) → start + length digits ≡ 20 → drop start buffer ≡ digits ++ after → take (20 - start) (drop start buffer) ≡ digits
digits_put digits after buffer start e f =
    let h : 20 - start ≡ length digits = omega arith in
    rw (f, h) (take-append_seam digits after)
