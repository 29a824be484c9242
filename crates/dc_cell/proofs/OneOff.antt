-- One letter off, and the last gap, step by step.
use Rattle.std.proofs.Common.{◌≡◌, ℕ, suc, zero, ◌+◌, ◌-◌, ◌<◌, ◌==◌, true, false, List, [], ◌∷◌, length, drop, slice_index, refl, arith}
use Rattle.dc_cell.specs.Strays.{is_one_off, is_first_off, gap_before}

-- where both have the same letter, it is what is behind it that tells
pub one_off-more : (word key : List ℕ) (i : ℕ) → i < length word → i < length key → (slice_index word i == slice_index key i) ≡ true
    → is_one_off (drop i word) (drop i key) ≡ is_one_off (drop (suc i) word) (drop (suc i) key)
unfolding is_one_off
one_off-more [] key i there here same = absurd (omega arith)
one_off-more (c ∷ word) [] i there here same = absurd (omega arith)
one_off-more (c ∷ word) (d ∷ key) zero there here same = rw same refl
one_off-more (c ∷ word) (d ∷ key) (suc i) there here same = one_off-more word key i (omega arith) (omega arith) same

-- where their letters differ, it is told there
pub one_off-here : (word key : List ℕ) (i : ℕ) → i < length word → i < length key → (slice_index word i == slice_index key i) ≡ false
    → is_one_off (drop i word) (drop i key) ≡ is_first_off (drop i word) (drop i key)
unfolding is_one_off
one_off-here [] key i there here other = absurd (omega arith)
one_off-here (c ∷ word) [] i there here other = absurd (omega arith)
one_off-here (c ∷ word) (d ∷ key) zero there here other = rw other refl
one_off-here (c ∷ word) (d ∷ key) (suc i) there here other = one_off-here word key i (omega arith) (omega arith) other

-- a key that is at its end has lost the one letter that the word has left
pub one_off-short : (word key : List ℕ) (i : ℕ) → i < length word → i ≡ length key → is_one_off (drop i word) (drop i key) ≡ (length (drop i word) == 1)
unfolding is_one_off
one_off-short [] key i there here = absurd (omega arith)
one_off-short (c ∷ word) [] zero there here = refl
one_off-short (c ∷ word) [] (suc i) there here = absurd (omega arith)
one_off-short (c ∷ word) (d ∷ key) zero there here = absurd (omega arith)
one_off-short (c ∷ word) (d ∷ key) (suc i) there here = one_off-short word key i (omega arith) (omega arith)

nothing : (xs : List ℕ) (i : ℕ) → xs ≡ [] → drop i xs ≡ []
nothing [] zero is = refl
nothing [] (suc i) is = refl
nothing (x ∷ xs) i is = absurd (cc)

-- a word that is at its end lacks the one letter that the key has left
pub one_off-end : (word key : List ℕ) (i : ℕ) → i ≡ length word → is_one_off (drop i word) (drop i key) ≡ (length (drop i key) == 1)
unfolding is_one_off
one_off-end [] key zero there = refl
one_off-end [] key (suc i) there = absurd (omega arith)
one_off-end (c ∷ word) key zero there = absurd (omega arith)
one_off-end (c ∷ word) [] (suc i) there = rw (nothing [] i refl) at (one_off-end word [] i (omega arith))
one_off-end (c ∷ word) (d ∷ key) (suc i) there = one_off-end word key i (omega arith)

-- the last gap is here
pub gap-here : (key : List ℕ) (back place : ℕ) → back < length key → place ≡ length key - 1 - back → (slice_index key place == 95) ≡ true
    → gap_before key (length key - back) ≡ place
unfolding gap_before
gap-here key back place there is gap =
    let one : length key - back ≡ suc place = omega arith in rw (one, gap) refl

-- it is before
pub gap-past : (key : List ℕ) (back place : ℕ) → back < length key → place ≡ length key - 1 - back → (slice_index key place == 95) ≡ false
    → gap_before key (length key - back) ≡ gap_before key (length key - (back + 1))
unfolding gap_before
gap-past key back place there is none =
    let one : length key - back ≡ suc place = omega arith in
    let next : length key - (back + 1) ≡ place = omega arith in rw (one, next, none) refl

-- there is none
pub gap-none : (key : List ℕ) (k : ℕ) → k ≡ 0 → gap_before key k ≡ length key
unfolding gap_before
gap-none key k is = rw is refl
