-- The number of ones, and the parity bit.
use Rattle.std.proofs.Common.{◌≡◌, ℕ, zero, suc, ◌+◌, ◌-◌, ◌*◌, ◌/◌, ◌%◌, ◌^◌, ◌<◌, refl, sym, ap, ◌∙◌, arith}
use lib.Count.{ones, ones_step, ones_cat}
use lib.Arith.{lt-one}
use native.Mathlib.Nat.{pow-suc}
use Rattle.dc_word.specs.Word.{ones_in, IsOddParity}

-- the ones of a number of k binary digits, counted as std does
pub ones_in-ones : (k n : ℕ) → n < 2 ^ k → ones_in k n ≡ ones n
unfolding ones_in ones
ones_in-ones zero n fits = ap ones (sym (lt-one fits))
ones_in-ones (suc k) n fits =
    let half : n / 2 < 2 ^ k = omega (arith, pow-suc 2 k, fits) in
    ap (λ ones. n % 2 + ones) (ones_in-ones k (n / 2) half) ∙ sym (ones_step n)

ones_of_bit : (a : ℕ) → a < 2 → ones a ≡ a
unfolding ones
ones_of_bit zero fits = refl
ones_of_bit (suc zero) fits = refl
ones_of_bit (suc (suc a)) fits = absurd (omega (arith, fits))

-- a bit above 31 others counts for itself
ones_with_top : (n a : ℕ) → n < 2 ^ 31 → a < 2 → ones_in 32 (n + a * 2 ^ 31) ≡ ones_in 32 n + a
ones_with_top n a fits bit =
    let swap : n + a * 2 ^ 31 ≡ a * 2 ^ 31 + n = omega arith in
    let whole : n + a * 2 ^ 31 < 2 ^ 32 = omega arith in
    let low : n < 2 ^ 32 = omega arith in
    ones_in-ones 32 (n + a * 2 ^ 31) whole ∙ ap ones swap ∙ ones_cat 31 a n fits
    ∙ omega (arith, ones_of_bit a bit, ones_in-ones 32 n low)

-- the parity bit makes a word odd, and no other bit does
pub odd_by_parity : (n : ℕ) → n < 2 ^ 31 → IsOddParity (n + (1 - ones_in 32 n % 2) * 2 ^ 31)
odd_by_parity n fits =
    let bit : 1 - ones_in 32 n % 2 < 2 = omega arith in
    omega (arith, ones_with_top n (1 - ones_in 32 n % 2) fits bit)

pub only_parity : (n a : ℕ) → n < 2 ^ 31 → a < 2 → IsOddParity (n + a * 2 ^ 31) → a ≡ 1 - ones_in 32 n % 2
only_parity n a fits bit odd = omega (arith, ones_with_top n a fits bit, odd)
