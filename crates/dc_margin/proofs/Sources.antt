-- The source at which a number is greatest, and the margins of a label in one.
use Rattle.std.proofs.Common.{◌≡◌, ℕ, ◌+◌, ◌≤◌, ◌<◌, true, false, Option, List, length, get_or, take, sym, ap, ◌∙◌, ltb}
use Rattle.std.specs.Prelude.{slice_index, if◌then◌else◌}
use Rattle.std.specs.List.{fold}
use Rattle.std.proofs.lemmas.List.{take_all}
use Rattle.std.proofs.lemmas.List.Sums.{fold_more}
use Rattle.dc_margin.specs.Margins.{greater_of, greatest_at}
use Rattle.dc_margin.specs.declared.margin.LabelMargins.{LabelMargins}
use Rattle.dc_margin.specs.declared.margin.Margin.{Margin}

module _ (f : ℕ → ℕ) where
  pub fold-all : (xs own : List ℕ) (k best : ℕ) → length xs ≤ k → xs ≡ own → best ≡ fold (greater_of f) (slice_index xs 0) (take k xs) → best ≡ greatest_at f own
  unfolding greatest_at
  fold-all xs own k best l same is =
      is ∙ ap (fold (greater_of f) (slice_index xs 0)) (take_all k xs l) ∙ ap (λ ys. fold (greater_of f) (slice_index ys 0) ys) same

  pub fold-step : (xs : List ℕ) (k best next : ℕ) → k < length xs → best ≡ fold (greater_of f) (slice_index xs 0) (take k xs) → next ≡ greater_of f best (get_or xs k 0) →
      next ≡ fold (greater_of f) (slice_index xs 0) (take (k + 1) xs)
  fold-step xs k best next l is step =
      step ∙ ap (λ b. greater_of f b (get_or xs k 0)) is ∙ sym (fold_more (greater_of f) (slice_index xs 0) xs k 0 l)

  -- one of the two
  pub picked : (n a b : ℕ) → a < n → b < n → greater_of f a b < n
  picked n a b below under = elim (ltb (f a) (f b)) as (λ t. (if t then b else a) < n) [ true ↦ under | false ↦ below ]

-- the margins of a label, field by field
abbrev made : (soon late age age_limit fresh : Option Margin) → LabelMargins
made soon late age age_limit fresh = record { soon = soon; late = late; age = age; age_limit = age_limit; fresh = fresh }

pub label-same : (soon own_soon : Option Margin) → soon ≡ own_soon → (late own_late : Option Margin) → late ≡ own_late → (age own_age : Option Margin) → age ≡ own_age →
    (age_limit own_limit : Option Margin) → age_limit ≡ own_limit → (fresh own_fresh : Option Margin) → fresh ≡ own_fresh →
    made soon late age age_limit fresh ≡ made own_soon own_late own_age own_limit own_fresh
label-same soon own_soon e1 late own_late e2 age own_age e3 age_limit own_limit e4 fresh own_fresh e5 =
    ap (λ m. made m late age age_limit fresh) e1 ∙ ap (λ m. made own_soon m age age_limit fresh) e2 ∙ ap (λ m. made own_soon own_late m age_limit fresh) e3
    ∙ ap (λ m. made own_soon own_late own_age m fresh) e4 ∙ ap (λ m. made own_soon own_late own_age own_limit m) e5
