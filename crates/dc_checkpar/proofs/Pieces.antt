-- The first window that fails, from what is found in each piece of the windows.
use Rattle.std.proofs.Common.{◌≡◌, ℕ, zero, suc, ◌+◌, ◌*◌, ◌<◌, ◌≤◌, min, Option, Some, None, List, [], ◌∷◌, ◌++◌, map, refl, sym, ap, subst, ◌∙◌, inl, inr, arith}
use Rattle.std.specs.Prelude.{MatchOption}
use Rattle.std.specs.List.{AllZip, range_with_len}
use Rattle.std.specs.Option.{option_or}
use Rattle.std.proofs.lemmas.Bool.{cases_lt}
use Rattle.std.proofs.lemmas.List.{map-append}
use Rattle.std.specs.Int.{div_ceil}
use Rattle.dc_busy.specs.BusyWindow.{EachWindow, IsLeastFailing, IsFirstBetween}

-- the first that is there
abbrev pub first_some : List (Option ℕ) → Option ℕ
first_some [] = None
first_some (x ∷ xs) = option_or x (first_some xs)

pub first_some-append : (xs ys : List (Option ℕ)) → first_some (xs ++ ys) ≡ option_or (first_some xs) (first_some ys)
first_some-append [] ys = refl
first_some-append (None ∷ xs) ys = first_some-append xs ys
first_some-append (Some w ∷ xs) ys = refl

-- what two searches in one walk have found in the pieces so far
abbrev pub IsFirstOfBoth : List (Option ℕ × Option ℕ) → Option ℕ × Option ℕ → Type 0
IsFirstOfBoth xs r = (r.0 ≡ first_some (map (λ x. x.0) xs)) × (r.1 ≡ first_some (map (λ x. x.1) xs))

option_or-none : (x : Option ℕ) → x ≡ option_or x None
option_or-none None = refl
option_or-none (Some w) = refl

-- a piece by itself
pub both-one : (x : Option ℕ × Option ℕ) → IsFirstOfBoth (x ∷ []) x
both-one x = (option_or-none x.0, option_or-none x.1)

-- pieces after others
pub both-join : (xs ys : List (Option ℕ × Option ℕ)) (a b r : Option ℕ × Option ℕ) → IsFirstOfBoth xs a → IsFirstOfBoth ys b → (r.0 ≡ option_or a.0 b.0) × (r.1 ≡ option_or a.1 b.1) → IsFirstOfBoth (xs ++ ys) r
both-join xs ys a b r left right step = (
  step.0 ∙ ap (λ o. option_or o b.0) left.0 ∙ ap (option_or (first_some (map (λ x. x.0) xs))) right.0
      ∙ sym (ap first_some (map-append (λ x. x.0) xs ys) ∙ first_some-append (map (λ x. x.0) xs) (map (λ x. x.0) ys)),
  step.1 ∙ ap (λ o. option_or o b.1) left.1 ∙ ap (option_or (first_some (map (λ x. x.1) xs))) right.1
      ∙ sym (ap first_some (map-append (λ x. x.1) xs ys) ∙ first_some-append (map (λ x. x.1) xs) (map (λ x. x.1) ys)),
)

pub zip-part : {X Y : Type 0} (Q : ℕ → X → Type 0) (R : ℕ → Y → Type 0) (g : X → Y) → ((k : ℕ) (x : X) → Q k x → R k (g x)) → (ks : List ℕ) (xs : List X) → AllZip Q ks xs → AllZip R ks (map g xs)
zip-part Q R g h [] [] z = z
zip-part Q R g h [] (x ∷ xs) z = absurd z
zip-part Q R g h (k ∷ ks) [] z = absurd z
zip-part Q R g h (k ∷ ks) (x ∷ xs) z = (h k x z.0, zip-part Q R g h ks xs z.1)

module _ (P : ℕ → Type 0) (window : ℕ) where
  -- what is found in a piece
  abbrev pub IsOfPiece : ℕ → Option ℕ → Type 0
  IsOfPiece k found = IsFirstBetween P (k * 2048 + 1) (min (k * 2048 + 2048) window) found

  before : (a : ℕ) → ((v : ℕ) → 1 ≤ v → v < a * 2048 + 1 → v ≤ window → P v) → ((v : ℕ) → a * 2048 + 1 ≤ v → v ≤ min (a * 2048 + 2048) window → P v)
      → (v : ℕ) → 1 ≤ v → v < (a + 1) * 2048 + 1 → v ≤ window → P v
  before a below here v low high inside =
      elim (cases_lt v (a * 2048 + 1)) [
        | inl l ↦ below v low l inside
        | inr h ↦ here v h (omega arith)
      ]

  pub pieces-least : (n a : ℕ) (found : List (Option ℕ)) → AllZip IsOfPiece (range_with_len a n) found → window ≤ (a + n) * 2048 → ((v : ℕ) → 1 ≤ v → v < a * 2048 + 1 → v ≤ window → P v)
      → MatchOption (first_some found) (EachWindow P window) (λ w. IsLeastFailing P window w)
  pieces-least zero a [] z enough below = λ v low high. below v low (omega arith) high
  pieces-least zero a (r ∷ rs) z enough below = absurd z
  pieces-least (suc n) a [] z enough below = absurd z
  pieces-least (suc n) a (None ∷ rs) z enough below = pieces-least n (a + 1) rs z.1 (omega arith) (before a below z.0)
  pieces-least (suc n) a (Some w ∷ rs) z enough below =
      let h = z.0 in (
        omega (arith, h.0),
        omega (arith, h.1),
        h.2,
        (λ v low high.
            elim (cases_lt v (a * 2048 + 1)) [
              | inl l ↦ below v low l (omega (arith, h.1))
              | inr i ↦ h.3 v i high
            ]),
      )

-- the number of pieces, 2,048 windows each
pub few-pieces : (window : ℕ) → window ≤ 100000 → div_ceil window 2048 < 100000
few-pieces window h = omega arith

pub enough-pieces : (window : ℕ) → window ≤ (0 + div_ceil window 2048) * 2048
enough-pieces window = omega arith

-- the first window of all that fails is the first that is found
pub found-least : {X : Type 0} (P : ℕ → Type 0) (window : ℕ) (Q : ℕ → X → Type 0) (part : X → Option ℕ) → ((k : ℕ) (x : X) → Q k x → IsOfPiece P window k (part x))
    → (ks : List ℕ) (xs : List X) → ks ≡ range_with_len 0 (div_ceil window 2048) → AllZip Q ks xs
    → (r : Option ℕ) → r ≡ first_some (map part xs) → MatchOption r (EachWindow P window) (λ w. IsLeastFailing P window w)
found-least P window Q part reported ks xs places all r is =
    let pieces : AllZip (IsOfPiece P window) (range_with_len 0 (div_ceil window 2048)) (map part xs) =
    subst (λ l. AllZip (IsOfPiece P window) l (map part xs)) places (zip-part Q (IsOfPiece P window) part reported ks xs all) in
    subst (λ o. MatchOption o (EachWindow P window) (λ w. IsLeastFailing P window w)) (sym is)
    (pieces-least P window (div_ceil window 2048) 0 (map part xs) pieces (enough-pieces window) (λ v low high. absurd (omega arith)))
