-- The tables of digits hold what they should.
use Rattle.std.proofs.Common.{◌≡◌, ℕ, zero, suc, ◌+◌, ◌-◌, ◌*◌, ◌/◌, ◌%◌, ◌^◌, ◌<◌, ◌≤◌, Bool, true, ◌&&◌, T, eqb, List, [], ◌∷◌, length, get_or, drop, Option, Some, None, refl, sym, ap, subst, drop_of_length-le, ◌∙◌, inl, inr, ◌⊎◌, arith, eq-zero-or-pos, eqb→eq, option_and_then, IfSome}
use Rattle.std.proofs.lemmas.List.{drop_more}
use Rattle.std.proofs.lemmas.Nat.{pow-add}
use Rattle.std.proofs.Math.Pow.{pow_mono}
use lib.Ieee.Fits.{and_l, and_r}
use Rattle.dc_word.specs.Digits.{digit_in}
use Rattle.dc_event.specs.WordText.{number_behind, value_or_much, word_of}
use Rattle.dc_event.specs.declared.line.TheConstants.{HEX_VALUES}

abbrev are_values : ℕ → Bool
are_values zero = true
are_values (suc c) = eqb (get_or HEX_VALUES c 0) (value_or_much (digit_in 16 c)) && are_values c

values_below : (n c : ℕ) → T (are_values n) → c < n → get_or HEX_VALUES c 0 ≡ value_or_much (digit_in 16 c)
values_below zero c t h = absurd (omega arith)
values_below (suc n) c t h =
    elim (eq-zero-or-pos (n - c)) [
      | inl z ↦ let e : c ≡ n = omega arith in rw e (eqb→eq _ _ (and_l _ (are_values n) t))
      | inr g ↦ values_below n c (and_r _ (are_values n) t) (omega arith)
    ]

-- the value of a byte
pub hex_value : (c : ℕ) → c < 256 → get_or HEX_VALUES c 0 ≡ value_or_much (digit_in 16 c)
hex_value c h = values_below 256 c tt h

-- ---- a number read digit by digit

-- the digits so far write n; or one is none, and n is much
pub Reads : ℕ → ℕ → List ℕ → Option ℕ → Type 0
Reads n i rest all = ((all ≡ None) × (2 ^ 32 ≤ n)) ⊎ ((n < 2 ^ (4 * i)) × (number_behind n rest ≡ all))

pub reads_first : (text : List ℕ) → Reads 0 0 text (number_behind 0 text)
unfolding Reads
reads_first text = inr (omega arith, refl)

reads_digit : (n i c : ℕ) (rest : List ℕ) (all d : Option ℕ) → (all ≡ option_and_then (λ e. number_behind (n * 16 + e) rest) d) → n < 2 ^ (4 * i) → IfSome d (λ e. e < 16)
    → Reads (n * 16 + value_or_much d) (i + 1) rest all
unfolding Reads
reads_digit n i c rest all None e p s = inl (e, omega arith)
reads_digit n i c rest all (Some d) e p s =
    let q : 2 ^ (4 * i + 4) ≡ 2 ^ (4 * i) * 2 ^ 4 = pow-add 2 (4 * i) 4 in
    let f : 4 * (i + 1) ≡ 4 * i + 4 = omega arith in
    inr (rw (f, q) (omega arith), sym e)

pub reads_next : (n i c : ℕ) (text : List ℕ) (all : Option ℕ) → i < length text → c ≡ get_or text i 0 → IfSome (digit_in 16 c) (λ d. d < 16) → i < 8 → Reads n i (drop i text) all
    → Reads (n * 16 + value_or_much (digit_in 16 c)) (i + 1) (drop (i + 1) text) all
unfolding Reads
reads_next n i c text all p is small q (inl (none, big)) = inl (none, omega arith)
reads_next n i c text all p is small q (inr (fits, same)) =
    let f : all ≡ number_behind n (c ∷ drop (i + 1) text) = sym same ∙ ap (number_behind n) (drop_more text i 0 p ∙ ap (λ b. b ∷ drop (i + 1) text) (sym is)) in
    reads_digit n i c (drop (i + 1) text) all (digit_in 16 c) f fits small

pub reads_fits : (n i v : ℕ) → n + 2 ^ 32 ≤ 2 ^ 32 * 2 ^ (4 * i) → v ≤ 2 ^ 32 → i < 8 → n * 16 + v + 2 ^ 32 ≤ 2 ^ 32 * 2 ^ (4 * (i + 1))
reads_fits n i v p q r =
    let e : 2 ^ (4 * i + 4) ≡ 2 ^ (4 * i) * 2 ^ 4 = pow-add 2 (4 * i) 4 in
    let f : 4 * (i + 1) ≡ 4 * i + 4 = omega arith in
    rw (f, e) (omega arith)

pub much : (d : Option ℕ) → IfSome d (λ e. e < 16) → value_or_much d ≤ 2 ^ 32
much None s = omega arith
much (Some d) s = omega arith

pub fits_64 : (n i v : ℕ) → n + 2 ^ 32 ≤ 2 ^ 32 * 2 ^ (4 * i) → v ≤ 2 ^ 32 → i < 8 → n * 16 + v < 2 ^ 64
fits_64 n i v p q r =
    let h : 2 ^ (4 * i) ≤ 2 ^ 28 = pow_mono {i = 4 * i} {j = 28} (omega arith) in
    omega arith

-- at the end of eight digits
pub reads_all : (n : ℕ) (all : Option ℕ) → Reads n 8 [] all → n < 2 ^ 32 → all ≡ Some n
unfolding Reads
reads_all n all (inl (none, big)) p = absurd (omega arith)
reads_all n all (inr (fits, same)) p = sym same

pub reads_none : (n : ℕ) (all : Option ℕ) → Reads n 8 [] all → 2 ^ 32 ≤ n → all ≡ None
unfolding Reads
reads_none n all (inl (none, big)) p = none
reads_none n all (inr (fits, same)) p = absurd (omega arith)

pub word_read : (text : List ℕ) (n i : ℕ) → length text ≡ 8 → i ≡ 8 → Reads n i (drop i text) (number_behind 0 text) → n < 2 ^ 32 → word_of text ≡ Some n
unfolding word_of
word_read text n i e f r p =
    let d : drop i text ≡ [] = drop_of_length-le text (omega arith) in
    rw e (reads_all n _ (subst (λ j. Reads n j [] (number_behind 0 text)) f (subst (λ l. Reads n i l (number_behind 0 text)) d r)) p)

pub word_unread : (text : List ℕ) (n i : ℕ) → length text ≡ 8 → i ≡ 8 → Reads n i (drop i text) (number_behind 0 text) → 2 ^ 32 ≤ n → word_of text ≡ None
unfolding word_of
word_unread text n i e f r p =
    let d : drop i text ≡ [] = drop_of_length-le text (omega arith) in
    rw e (reads_none n _ (subst (λ j. Reads n j [] (number_behind 0 text)) f (subst (λ l. Reads n i l (number_behind 0 text)) d r)) p)
