-- Gaps between the entries of a frame that pass a test, round the frame.
use Rattle.std.specs.Prelude.{ℕ, ◌+◌, ◌-◌, Bool, cond, List, [], ◌∷◌, min, max}

-- the offset of the first entry that passes, or else d
abbrev pub first_off : {E : Type 0} → (E → ℕ) → (E → Bool) → List E → ℕ → ℕ
first_off off passes [] d = d
first_off off passes (e ∷ es) d = cond (passes e) (off e) (first_off off passes es d)

-- from each entry that passes to the next one, where the first one after the list stands at d
abbrev pub gaps_to : {E : Type 0} → (E → ℕ) → (E → Bool) → ℕ → List E → List ℕ
gaps_to off passes d [] = []
gaps_to off passes d (e ∷ es) = cond (passes e) ((first_off off passes es d - off e) ∷ gaps_to off passes d es) (gaps_to off passes d es)

-- the gaps between neighbouring entries that pass, round the frame: the frame alone where one passes
unfoldable pub gaps : {E : Type 0} → (E → ℕ) → (E → Bool) → ℕ → List E → List ℕ
gaps off passes frame es = gaps_to off passes (frame + first_off off passes es 0) es

-- the least of some numbers, and at most `most`
abbrev pub least_of : ℕ → List ℕ → ℕ
least_of most [] = most
least_of most (x ∷ xs) = min x (least_of most xs)

-- the greatest of some numbers, 0 where there is none
abbrev pub greatest_of : List ℕ → ℕ
greatest_of [] = 0
greatest_of (x ∷ xs) = max x (greatest_of xs)

-- the least gap in ticks, round the frame; the frame, where no entry passes
abbrev pub least_gap : {E : Type 0} → (E → ℕ) → (E → Bool) → ℕ → List E → ℕ
least_gap off passes frame es = least_of frame (gaps off passes frame es)

-- the greatest gap in ticks, round the frame, which it never exceeds; 0, where no entry passes
abbrev pub greatest_gap : {E : Type 0} → (E → ℕ) → (E → Bool) → ℕ → List E → ℕ
greatest_gap off passes frame es = greatest_of (gaps off passes frame es)
