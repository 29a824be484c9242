-- Digits make numbers that are small enough.
use Rattle.std.proofs.Common.{◌≡◌, ℕ, ◌+◌, ◌*◌, ◌/◌, ◌^◌, ◌<◌, ◌≤◌, List, drop, suc, arith, lit<}
use Rattle.std.proofs.Math.Nat.{pow-le-pow_right, mul-le-mul_left, pow-suc, one-le-pow, div-le_self}
use Rattle.dc_cell.specs.Digits.{number_behind}

-- a number of so many digits with one more
pub small_more : (n base d i : ℕ) → base ≤ 16 → d < base → n < 16 ^ i → n * base + d < 16 ^ suc i
small_more n base d i most below small = omega (arith, mul-le-mul_left n most, pow-suc 16 i)

-- nine digits
pub small_here : (n i : ℕ) → i ≤ 9 → n < 16 ^ i → n < 2 ^ 36
small_here n i nine small =
    let most : 16 ^ i ≤ 16 ^ 9 = pow-le-pow_right (lit< tt) nine in omega (arith, most)

-- nine tens
pub tens_small : (k : ℕ) → k ≤ 9 → 10 ^ k ≤ 1000000000
tens_small k nine = pow-le-pow_right {n = 10} (lit< tt) {i = k} {j = 9} nine

pub tens_some : (k : ℕ) → 0 < 10 ^ k
tens_some k = one-le-pow k 10 (lit< tt)

-- a quotient is no greater than what is divided
pub quotient_small : (a b : ℕ) → a / b ≤ a
quotient_small a b = div-le_self a b

-- the digits from here on write the rest of the number
abbrev pub Goes : (base n i : ℕ) → List ℕ → Type 0
Goes base n i text = number_behind base n (drop i text) ≡ number_behind base 0 text
