-- Seats by their places.
use Rattle.std.proofs.Common.{◌≡◌, ℕ, zero, suc, ◌+◌, ◌-◌, ◌<◌, ◌≤◌, Bool, true, false, not, is_some, MatchOption, Option, Some, None, List, [], ◌∷◌, length, refl, sym, ap, subst, ◌∙◌, arith, slice_get}
use mathlib.Core.Logic.{dite}
use native.Mathlib.Decide.{dec_le, ℕ_discrete}
use Rattle.dc_hub.specs.Closing.{actor_at, actor_count, AreOneEach}
use Rattle.dc_hub.specs.Views.{SeatView}
use Rattle.dc_tables.specs.TableRows.{TableRows}
use Rattle.dc_hub.proofs.Opens.{some-same, none-some}

some_below : {X : Type 0} (xs : List X) (p : ℕ) → p < length xs → (x : X) × (slice_get xs p ≡ Some x)
some_below [] p h = absurd (omega arith)
some_below (x ∷ xs) zero h = (x, refl)
some_below (x ∷ xs) (suc p) h = some_below xs p (omega arith)

below_some : {X : Type 0} (xs : List X) (p : ℕ) (x : X) → slice_get xs p ≡ Some x → p < length xs
below_some [] p x e = absurd (none-some x e)
below_some (y ∷ ys) zero x e = omega arith
below_some (y ∷ ys) (suc p) x e = let h = below_some ys p x e in omega (arith, h)

-- what stands at each place below n, and nothing there, are n items
none_there : {X : Type 0} (xs : List X) (n : ℕ) → slice_get xs n ≡ None → length xs ≤ n
none_there xs n e = dite (dec_le (length xs) n) (λ le. le) (λ nle. let s = some_below xs n (omega (arith, nle)) in absurd (none-some s.0 (sym e ∙ s.1)))

pub are_one_each : (t : TableRows) (seats : List SeatView) (n : ℕ) → n ≡ actor_count t → ((p : ℕ) → p < n → (s : SeatView) × (slice_get seats p ≡ Some s) × (s.actor ≡ actor_at t p)) → slice_get seats n ≡ None → AreOneEach t seats
are_one_each t seats n is there none =
    let last = there (n - 1) (omega (arith, is)) in
    let long : n - 1 < length seats = below_some seats (n - 1) last.0 last.1 in
    let short : length seats ≤ n = none_there seats n none in
    let all : length seats ≡ n = omega (arith, long, short, is) in (
      all ∙ is,
      (λ p s e.
          let at = there p (subst (λ k. p < k) all (below_some seats p s e)) in
          ap (λ (x : SeatView). x.actor) (some-same s at.0 (sym e ∙ at.1)) ∙ at.2),
    )

pub one_more : (t : TableRows) (seats : List SeatView) (n : ℕ) (s : SeatView) → n ≡ actor_count t → slice_get seats n ≡ Some s → ¬ AreOneEach t seats
one_more t seats n s is there each = let h = below_some seats n s there in absurd (omega (arith, is, h, each.0))

-- one place further
pub one_further : (t : TableRows) (seats : List SeatView) (n : ℕ) (s : SeatView) → ((p : ℕ) → p < n → (s : SeatView) × (slice_get seats p ≡ Some s) × (s.actor ≡ actor_at t p)) → slice_get seats n ≡ Some s → s.actor ≡ actor_at t n
    → (p : ℕ) → p < n + 1 → (s : SeatView) × (slice_get seats p ≡ Some s) × (s.actor ≡ actor_at t p)
one_further t seats n s before there is p below =
    dite (ℕ_discrete p n)
    (λ e. subst (λ k. (s : SeatView) × (slice_get seats k ≡ Some s) × (s.actor ≡ actor_at t k)) (sym e) (s, there, is))
    (λ ne. before p (omega (arith, below, ne)))

clash : true ≡ false → ⊥
clash e = subst (λ (b : Bool). is_true b) e tt
  where
    is_true : Bool → Type 0
    is_true true = Unit {0}
    is_true false = ⊥

-- what a call that gives nothing says, and one that gives something
pub none_given : {Y : Type 0} (r : Option Y) (P : Type 0) (Q : Y → Type 0) (b : Bool) → is_some r ≡ not b → b ≡ true → MatchOption r P Q → P
none_given None P Q b said is h = h
none_given (Some y) P Q b said is h = absurd (clash (said ∙ ap not is))

pub some_given : {Y : Type 0} (r : Option Y) (P : Type 0) (Q : Y → Type 0) (b : Bool) → is_some r ≡ not b → b ≡ false → MatchOption r P Q → (y : Y) × Q y
some_given None P Q b said is h = absurd (clash (sym (ap not is) ∙ sym said))
some_given (Some y) P Q b said is h = (y, h)
