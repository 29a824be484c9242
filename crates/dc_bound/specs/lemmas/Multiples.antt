-- A cap times a number of sources.
use Rattle.std.proofs.Common.{◌≡◌, ℕ, ◌*◌, ◌^◌, ◌≤◌, ap, ◌∙◌, arith}
use Rattle.std.proofs.Math.Nat.{mul-zero, mul-le-mul_left, mul-le-mul_right}
use Rattle.dc_bound.specs.Early.{jitter_cap}
use Rattle.dc_bound.specs.lemmas.Caps.{jitter_cap-le}

pub multiple_zero : (n c : ℕ) → c ≡ 0 → n * c ≡ 0
multiple_zero n c h = ap (λ k. n * k) h ∙ mul-zero n

pub multiple_mono : (n c e : ℕ) → c ≤ e → n * c ≤ n * e
multiple_mono n c e h = mul-le-mul_left n h

-- 1,024 sources bring at most 2^40 words in the longest window
pub multiple_bounded : (n m j d : ℕ) → n ≤ 1024 → 1 ≤ m → j ≤ 1000000000 → d ≤ 1000000 → n * jitter_cap m j d ≤ 2 ^ 40
multiple_bounded n m j d few some small short =
    let cap : jitter_cap m j d ≤ 1001000000 = omega (arith, jitter_cap-le m j d some) in
    omega (arith, mul-le-mul_left n cap, mul-le-mul_right 1001000000 few)
