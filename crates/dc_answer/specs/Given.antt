-- The sources that an engine is given, in the order in which they are read.
use Rattle.std.specs.Prelude.{◌≡◌, ◌⊎◌, ℕ, zero, suc, ◌+◌, List, [], ◌∷◌, length, refl, Option, Some}
use Rattle.dc_device.specs.States.{AsksUpTo, IsCountable, SourceState}

-- how many of their calls have failed
abbrev pub failures : List SourceState → ℕ
failures [] = 0
failures (s ∷ ss) = s.failed + failures ss

-- one more failure of each can be counted
abbrev pub AreCountable : List SourceState → Type 0
AreCountable [] = Unit {0}
AreCountable (s ∷ ss) = IsCountable s × AreCountable ss

-- these are the texts that they give
abbrev pub AreTexts : List SourceState → List (List ℕ) → Type 0
AreTexts [] [] = Unit {0}
AreTexts [] (text ∷ texts) = ⊥
AreTexts (s ∷ ss) [] = ⊥
AreTexts (s ∷ ss) (text ∷ texts) = (s.remaining ≡ Some text) × AreTexts ss texts

-- these are the texts that the first of them give
abbrev pub AreFirst : List SourceState → List (List ℕ) → Type 0
AreFirst ss [] = Unit {0}
AreFirst [] (text ∷ texts) = ⊥
AreFirst (s ∷ ss) (text ∷ texts) = (s.remaining ≡ Some text) × AreFirst ss texts

-- Each is asked up to its limit, and one that has none is not asked.
abbrev pub AskUpTo : List ℕ → List SourceState → List SourceState → Type 0
AskUpTo limits [] [] = Unit {0}
AskUpTo limits [] (s' ∷ ss') = ⊥
AskUpTo limits (s ∷ ss) [] = ⊥
AskUpTo [] (s ∷ ss) (s' ∷ ss') = (s' ≡ s) × AskUpTo [] ss ss'
AskUpTo (limit ∷ limits) (s ∷ ss) (s' ∷ ss') = AsksUpTo limit s s' × AskUpTo limits ss ss'

-- A source is asked only where the texts before it let the engine go on; else it and all behind it are untouched.
abbrev pub OnlyAfter : (List (List ℕ) → Type 0) → List SourceState → (ℕ → Type 0) → Type 0
OnlyAfter GoesOn states kept = (first : List (List ℕ)) → AreFirst states first → GoesOn first ⊎ kept (length first)

-- a source and those behind it are what they were, from the one of this number on
abbrev pub kept_from : {S R : Type 0} → (ℕ → R → R → Type 0) → ℕ → S → S → R → R → Type 0
kept_from kept zero s s' r r' = (s' ≡ s) × (r' ≡ r)
kept_from kept (suc k) s s' r r' = kept k r r'

pub kept_from_same : {S R : Type 0} (kept : ℕ → R → R → Type 0) → ((k : ℕ) (r : R) → kept k r r) → (s : S) (r : R) (k : ℕ) → kept_from kept k s s r r
kept_from_same kept same s r zero = (refl, refl)
kept_from_same kept same s r (suc k) = same k r
