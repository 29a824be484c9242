-- What it says that no item of a list, or a first one, passes a test.
use Rattle.std.proofs.Common.{◌≡◌, ℕ, zero, suc, ◌+◌, ◌-◌, ◌<◌, ◌≤◌, Bool, true, false, cond, ◌||◌, ◌&&◌, not, nat_lt, nat_le, Option, Some, None, is_none, List, [], ◌∷◌, length, get_or, map, refl, sym, ◌∙◌, arith, subst, inl, inr, ◌⊎◌}
use Rattle.std.specs.List.{position, position_from, list_any, slice_get}
use Rattle.std.specs.Prelude.{unwrap_or}
use Rattle.std.proofs.lemmas.Iterator.Adapters.{position_from-zero}
use Rattle.std.proofs.lemmas.Bool.Decides.{nat_tests}
use Rattle.dc_rules.specs.Rules.{outside}

pub or_none : (a b : Bool) → (a || b) ≡ false → (a ≡ false) × (b ≡ false)
or_none true b h = absurd (cc h)
or_none false b h = (refl, h)

pub and_some : (a b : Bool) → (a && b) ≡ true → (a ≡ true) × (b ≡ true)
and_some true b h = (refl, h)
and_some false b h = absurd (cc h)

pub not_false : (b : Bool) → not b ≡ false → b ≡ true
not_false true h = refl
not_false false h = absurd (cc h)

pub not_below : (a b : ℕ) → nat_lt a b ≡ false → b ≤ a
not_below a b h = grind (arith, nat_tests)

pub not_le : (a b : ℕ) → nat_le a b ≡ false → b < a
not_le a b h = grind (arith, nat_tests)

pub not_outside : (low high n : ℕ) → outside low high n ≡ false → (low ≤ n) × (n ≤ high)
not_outside low high n h =
    let w = or_none (nat_lt n low) (nat_lt high n) h in
    (not_below n low w.0, not_below high n w.1)

cond_none : (b : Bool) (i : ℕ) (r : Option ℕ) → cond b (Some i) r ≡ None → (b ≡ false) × (r ≡ None)
cond_none true i r h = absurd (cc h)
cond_none false i r h = (refl, h)

none_from : {A : Type 0} (p : A → Bool) (i : ℕ) (xs : List A) → position_from p i xs ≡ None → (k : ℕ) (d : A) → k < length xs → p (get_or xs k d) ≡ false
none_from p i [] h k d l = absurd (omega arith)
none_from p i (x ∷ xs) h zero d l = (cond_none (p x) i (position_from p (i + 1) xs) h).0
none_from p i (x ∷ xs) h (suc k) d l = none_from p (i + 1) xs (cond_none (p x) i (position_from p (i + 1) xs) h).1 k d (omega arith)

-- where no item passes, each fails
pub each_fails : {A : Type 0} (p : A → Bool) (xs : List A) → position p xs ≡ None → (k : ℕ) (d : A) → k < length xs → p (get_or xs k d) ≡ false
each_fails p xs h = none_from p 0 xs (sym (position_from-zero p xs) ∙ h)

cond_some : (b : Bool) (i j : ℕ) (r : Option ℕ) → cond b (Some i) r ≡ Some j → ((b ≡ true) × (i ≡ j)) ⊎ ((b ≡ false) × (r ≡ Some j))
cond_some true i j r h = inl (refl, cc h)
cond_some false i j r h = inr (refl, h)

some_from : {A : Type 0} (p : A → Bool) (i : ℕ) (xs : List A) (j : ℕ) → position_from p i xs ≡ Some j → (i ≤ j) × (j < i + length xs) × ((d : A) → p (get_or xs (j - i) d) ≡ true)
some_from p i [] j h = absurd (cc h)
some_from {A} p i (x ∷ xs) j h =
    elim (cond_some (p x) i j (position_from p (i + 1) xs) h) [
      | inl w ↦
          let e : j - i ≡ 0 = omega (arith, w.1) in
          let P : ℕ → Type 0 = λ k. (d : A) → p (get_or (x ∷ xs) k d) ≡ true in
          (omega (arith, w.1), omega (arith, w.1), subst P (sym e) (λ d. w.0))
      | inr w ↦
          let r = some_from p (i + 1) xs j w.1 in
          let e : j - i ≡ suc (j - (i + 1)) = omega (arith, r.0) in
          let P : ℕ → Type 0 = λ k. (d : A) → p (get_or (x ∷ xs) k d) ≡ true in
          (omega (arith, r.0), omega (arith, r.1), subst P (sym e) (λ d. r.2 d))
    ]

-- the first item that passes is there, and passes
pub first_passes : {A : Type 0} (p : A → Bool) (xs : List A) (j : ℕ) → position p xs ≡ Some j → (j < length xs) × ((d : A) → p (get_or xs j d) ≡ true)
first_passes {A} p xs j h =
    let r = some_from p 0 xs j (sym (position_from-zero p xs) ∙ h) in
    let e : j - 0 ≡ j = omega arith in
    let P : ℕ → Type 0 = λ k. (d : A) → p (get_or xs k d) ≡ true in
    (omega (arith, r.1), subst P e r.2)

is_there : (r : Option ℕ) (n : ℕ) → is_none r ≡ false → ((j : ℕ) → r ≡ Some j → j < n) → unwrap_or r 0 < n
is_there None n h k = absurd (cc h)
is_there (Some j) n h k = k j refl

-- the number of an item that passes, where one does
pub number_there : {A : Type 0} (p : A → Bool) (xs : List A) → is_none (position p xs) ≡ false → unwrap_or (position p xs) 0 < length xs
number_there p xs h = is_there (position p xs) (length xs) h (λ j e. (first_passes p xs j e).0)

-- where none of a list passes, each fails
pub any_fails : {A : Type 0} (p : A → Bool) (xs : List A) → list_any p xs ≡ false → (k : ℕ) (d : A) → k < length xs → p (get_or xs k d) ≡ false
any_fails p [] h k d l = absurd (omega arith)
any_fails p (x ∷ xs) h zero d l = (or_none (p x) (list_any p xs) h).0
any_fails p (x ∷ xs) h (suc k) d l = any_fails p xs (or_none (p x) (list_any p xs) h).1 k d (omega arith)

-- what holds of each row made of an item
pub map_each : {X Y : Type 0} (P : Y → Type 0) (f : X → Y) (xs : List X) (e : Y) → ((k : ℕ) (d : X) → k < length xs → P (f (get_or xs k d))) → (k : ℕ) → k < length (map f xs) → P (get_or (map f xs) k e)
map_each P f [] e each k h = absurd (omega arith)
map_each P f (x ∷ xs) e each zero h = each 0 x (omega arith)
map_each P f (x ∷ xs) e each (suc k) h = map_each P f xs e (λ j d l. each (suc j) d (omega arith)) k (omega arith)

-- the same, of a list that is made so
pub rows_each : {X Y : Type 0} (P : Y → Type 0) (f : X → Y) (xs : List X) (ys : List Y) (e : Y) → ys ≡ map f xs → ((k : ℕ) (d : X) → k < length xs → P (f (get_or xs k d))) → (k : ℕ) → k < length ys → P (get_or ys k e)
rows_each {X} {Y} P f xs ys e h each =
    let Q : List Y → Type 0 = λ l. (k : ℕ) → k < length l → P (get_or l k e) in
    subst Q (sym h) (map_each P f xs e each)

-- a list with no item of number n is no longer than n
pub no_item : {A : Type 0} (xs : List A) (n : ℕ) → slice_get xs n ≡ None → length xs ≤ n
no_item [] n h = omega arith
no_item (x ∷ xs) zero h = absurd (cc h)
no_item (x ∷ xs) (suc n) h = omega (arith, no_item xs n h)
