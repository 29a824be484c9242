-- Sums of bounds, whose entries tell their member by their tag.
use Rattle.std.proofs.Common.{◌≡◌, ℕ, suc, ◌+◌, ◌^◌, ◌<◌, ◌≤◌, List, [], ◌∷◌, ◌++◌, Bool, true, false, cond, length, eqb, refl, subst, arith, length-append}
use Rattle.std.specs.Prelude.{filter, All, nat_le}
use Rattle.std.specs.List.{sum_by}
use Rattle.std.proofs.lemmas.Bool.Decides.{nat_tests}
use Rattle.std.proofs.lemmas.List.{get_or_append_left}
use Rattle.std.proofs.lemmas.List.Elements.{All-tail, All-head, filter-append}
use Rattle.std.proofs.lemmas.List.Sums.{sum_by-cons, sum_by-le-sum_by}
use Rattle.dc_bound.specs.Window.{count_in, ticks_of, one_in}
use Rattle.dc_bound.specs.Tags.{with_tag, SumAllows}
use Rattle.dc_bound.specs.Tags.{EachAllows}

-- ---- counts of the entries of some tags

pub sum_zero : {B : Type 0} (f : B → ℕ) → ((b : B) → f b ≡ 0) → (bs : List B) → sum_by f bs ≡ 0
sum_zero f h [] = refl
sum_zero f h (b ∷ bs) = omega (arith, sum_by-cons f b bs, h b, sum_zero f h bs)

-- how many entries that pass lie in the window
passing : (ℕ × ℕ → Bool) → ℕ → ℕ → List (ℕ × ℕ) → ℕ
passing p u d [] = 0
passing p u d (x ∷ xs) = cond (p x) (one_in u d x.0) 0 + passing p u d xs

passing-filter : (p : ℕ × ℕ → Bool) (u d : ℕ) (xs : List (ℕ × ℕ)) → count_in u d (ticks_of (filter p xs)) ≡ passing p u d xs
unfolding count_in passing
passing-filter p u d [] = refl
passing-filter p u d (x ∷ xs) =
    elim (p x) as (λ b. count_in u d (ticks_of (cond b (x ∷ filter p xs) (filter p xs))) ≡ cond b (one_in u d x.0) 0 + passing p u d xs) [
      | true ↦ omega (arith, passing-filter p u d xs)
      | false ↦ omega (arith, passing-filter p u d xs)
    ]

-- how many entries of tag i or more
from_tag : ℕ → ℕ → ℕ → List (ℕ × ℕ) → ℕ
from_tag i u d xs = passing (λ e. nat_le i e.1) u d xs

tag_split : (i w t : ℕ) → cond (nat_le i t) w 0 ≡ cond (eqb t i) w 0 + cond (nat_le (suc i) t) w 0
tag_split i w t = grind (arith, nat_tests)

tag_less : (i w t : ℕ) → t < i → cond (nat_le i t) w 0 ≡ 0
tag_less i w t h = grind (arith, nat_tests)

tag_more : (i w t : ℕ) → i ≤ t → cond (nat_le i t) w 0 ≡ w
tag_more i w t h = grind (arith, nat_tests)

from_tag_split : (i u d : ℕ) (xs : List (ℕ × ℕ)) → from_tag i u d xs ≡ passing (λ e. eqb e.1 i) u d xs + from_tag (suc i) u d xs
unfolding from_tag passing
from_tag_split i u d [] = refl
from_tag_split i u d (x ∷ xs) = omega (arith, tag_split i (one_in u d x.0) x.1, from_tag_split i u d xs)

from_tag_none : (i u d : ℕ) (xs : List (ℕ × ℕ)) → All (λ e. e.1 < i) xs → from_tag i u d xs ≡ 0
unfolding from_tag passing
from_tag_none i u d [] h = refl
from_tag_none i u d (x ∷ xs) h =
    omega (arith, tag_less i (one_in u d x.0) x.1 (All-head (λ e. e.1 < i) x xs h), from_tag_none i u d xs (All-tail (λ e. e.1 < i) x xs h))

from_tag_all : (i u d : ℕ) (xs : List (ℕ × ℕ)) → All (λ e. i ≤ e.1) xs → from_tag i u d xs ≡ count_in u d (ticks_of xs)
unfolding from_tag passing count_in
from_tag_all i u d [] h = refl
from_tag_all i u d (x ∷ xs) h =
    omega (arith, tag_more i (one_in u d x.0) x.1 (All-head (λ e. i ≤ e.1) x xs h), from_tag_all i u d xs (All-tail (λ e. i ≤ e.1) x xs h))

each_count : {B : Type 0} (P : B → List (ℕ × ℕ) → Type 0) (u d : ℕ) (cap : B → ℕ) →
    ((b : B) (xs : List (ℕ × ℕ)) → P b xs → count_in u d (ticks_of xs) ≤ cap b) →
    (i : ℕ) (bs : List B) (xs : List (ℕ × ℕ)) → All (λ e. e.1 < i + length bs) xs → EachAllows P i bs xs → from_tag i u d xs ≤ sum_by cap bs
unfolding EachAllows
each_count P u d cap holds i [] xs below each =
    let e : i + 0 ≡ i = omega arith in
    let Q : ℕ → Type 0 = λ n. All (λ x. x.1 < n) xs in
    omega (arith, from_tag_none i u d xs (subst Q e below))
each_count P u d cap holds i (b ∷ bs) xs below each =
    let e : i + suc (length bs) ≡ suc i + length bs = omega arith in
    let Q : ℕ → Type 0 = λ n. All (λ x. x.1 < n) xs in
    omega (
      arith,
      from_tag_split i u d xs,
      passing-filter (λ x. eqb x.1 i) u d xs,
      holds b (with_tag i xs) each.0,
      each_count P u d cap holds (suc i) bs xs (subst Q e below) each.1,
      sum_by-cons cap b bs,
    )

-- ---- the laws of a sum

pub SumAllows-count : {B : Type 0} (P : B → List (ℕ × ℕ) → Type 0) (u d : ℕ) (cap : B → ℕ) →
    ((b : B) (xs : List (ℕ × ℕ)) → P b xs → count_in u d (ticks_of xs) ≤ cap b) →
    (i : ℕ) (bs : List B) (xs : List (ℕ × ℕ)) → SumAllows P i bs xs → count_in u d (ticks_of xs) ≤ sum_by cap bs
SumAllows-count P u d cap holds i bs xs ok =
    omega (arith, from_tag_all i u d xs ok.from, each_count P u d cap holds i bs xs ok.below ok.each)

EachAllows-prefix : {B : Type 0} (P : B → List (ℕ × ℕ) → Type 0) → ((b : B) (xs ys : List (ℕ × ℕ)) → P b (xs ++ ys) → P b xs) →
    (i : ℕ) (bs : List B) (xs ys : List (ℕ × ℕ)) → EachAllows P i bs (xs ++ ys) → EachAllows P i bs xs
unfolding EachAllows
EachAllows-prefix P prefix i [] xs ys each = tt
EachAllows-prefix P prefix i (b ∷ bs) xs ys each =
    let Q : List (ℕ × ℕ) → Type 0 = λ zs. P b zs in (
      prefix b (with_tag i xs) (with_tag i ys) (subst Q (filter-append (λ e. eqb e.1 i) xs ys) each.0),
      EachAllows-prefix P prefix (suc i) bs xs ys each.1,
    )

All-prefix : (P : ℕ × ℕ → Type 0) (xs ys : List (ℕ × ℕ)) → All P (xs ++ ys) → All P xs
All-prefix P xs ys all = λ k d inside.
    let long : k < length (xs ++ ys) = omega (arith, length-append xs ys) in
    subst P (get_or_append_left xs ys d k inside) (all k d long)

pub SumAllows-prefix : {B : Type 0} (P : B → List (ℕ × ℕ) → Type 0) → ((b : B) (xs ys : List (ℕ × ℕ)) → P b (xs ++ ys) → P b xs) →
    (i : ℕ) (bs : List B) (xs ys : List (ℕ × ℕ)) → SumAllows P i bs (xs ++ ys) → SumAllows P i bs xs
SumAllows-prefix P prefix i bs xs ys ok = record {
  from = All-prefix (λ e. i ≤ e.1) xs ys ok.from;
  below = All-prefix (λ e. e.1 < i + length bs) xs ys ok.below;
  each = EachAllows-prefix P prefix i bs xs ys ok.each;
}

pub sum_monotone : {B : Type 0} (cap : B → ℕ → ℕ) → ((b : B) (d e : ℕ) → d ≤ e → cap b d ≤ cap b e) →
    (bs : List B) (d e : ℕ) → d ≤ e → sum_by (λ b. cap b d) bs ≤ sum_by (λ b. cap b e) bs
sum_monotone cap grows bs d e h = sum_by-le-sum_by (λ b. cap b d) (λ b. cap b e) bs (λ b. grows b d e h)

pub sum_bounded : {B : Type 0} (cap : B → ℕ → ℕ) → ((b : B) (d e : ℕ) → d ≤ e → cap b d ≤ cap b e) →
    (bs : List B) → sum_by (λ b. cap b 1000000) bs ≤ 2 ^ 40 → (d : ℕ) → d ≤ 1000000 → sum_by (λ b. cap b d) bs ≤ 2 ^ 40
sum_bounded cap grows bs small d h = omega (arith, sum_monotone cap grows bs d 1000000 h)
