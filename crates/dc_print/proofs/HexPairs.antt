-- The table of digits holds what it should.
use Rattle.std.proofs.Common.{◌≡◌, ℕ, zero, suc, ◌+◌, ◌-◌, ◌*◌, ◌/◌, ◌%◌, ◌^◌, ◌<◌, Bool, true, ◌&&◌, T, eqb, [], ◌∷◌, get_or, refl, inl, inr, arith, eq-zero-or-pos, eqb→eq}
use lib.Ieee.Fits.{and_l, and_r}
use Rattle.dc_event.specs.WordText.{digit, eight_hex}
use Rattle.dc_print.specs.declared.put.TheConstants.{HEX_PAIRS}

-- the pairs below p are the two digits of their places
abbrev are_pairs : ℕ → Bool
are_pairs zero = true
are_pairs (suc p) = (eqb (get_or HEX_PAIRS (p * 2) 0) (digit (p / 16)) && eqb (get_or HEX_PAIRS (p * 2 + 1) 0) (digit (p % 16))) && are_pairs p

pairs_below : (n p : ℕ) → T (are_pairs n) → p < n → (get_or HEX_PAIRS (p * 2) 0 ≡ digit (p / 16)) × (get_or HEX_PAIRS (p * 2 + 1) 0 ≡ digit (p % 16))
pairs_below zero p t h = absurd (omega arith)
pairs_below (suc n) p t h =
    elim (eq-zero-or-pos (n - p)) [
      | inl z ↦ let e : p ≡ n = omega arith in let a = and_l _ (are_pairs n) t in rw e (eqb→eq _ _ (and_l _ _ a), eqb→eq _ _ (and_r _ _ a))
      | inr g ↦ pairs_below n p (and_r _ (are_pairs n) t) (omega arith)
    ]

-- the two digits of a byte
pub hex_pair : (p : ℕ) → p < 256 → (get_or HEX_PAIRS (p * 2) 0 ≡ digit (p / 16)) × (get_or HEX_PAIRS (p * 2 + 1) 0 ≡ digit (p % 16))
hex_pair p h = pairs_below 256 p tt h

-- the digits of a word by its bytes
pub hex_8_of : (n : ℕ) → n < 2 ^ 32 → eight_hex n ≡ digit (n / 16777216 / 16) ∷ digit (n / 16777216 % 16) ∷ digit (n / 65536 % 256 / 16) ∷ digit (n / 65536 % 256 % 16)
    ∷ digit (n / 256 % 256 / 16) ∷ digit (n / 256 % 256 % 16) ∷ digit (n % 256 / 16) ∷ digit (n % 256 % 16) ∷ []
hex_8_of n p =
    let a : n / 2 ^ 28 % 16 ≡ n / 16777216 / 16 = omega arith in
    let b : n / 2 ^ 24 % 16 ≡ n / 16777216 % 16 = omega arith in
    let c : n / 2 ^ 20 % 16 ≡ n / 65536 % 256 / 16 = omega arith in
    let d : n / 2 ^ 16 % 16 ≡ n / 65536 % 256 % 16 = omega arith in
    let e : n / 2 ^ 12 % 16 ≡ n / 256 % 256 / 16 = omega arith in
    let f : n / 2 ^ 8 % 16 ≡ n / 256 % 256 % 16 = omega arith in
    let g : n / 2 ^ 4 % 16 ≡ n % 256 / 16 = omega arith in
    let h : n % 16 ≡ n % 256 % 16 = omega arith in
    rw (a, b, c, d, e, f, g, ← h) refl
