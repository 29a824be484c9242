-- What is picked of a capture, and one more word.
use Rattle.std.proofs.Common.{◌≡◌, ℕ, suc, ◌+◌, ◌≤◌, Bool, true, false, cond, List, [], ◌∷◌, ◌++◌, length, refl, ap, ◌∙◌, arith}
use Rattle.std.specs.Prelude.{count_by}
use Rattle.std.proofs.lemmas.List.{append-nil}
use Rattle.std.proofs.lemmas.List.Sums.{sum_by_push}
use Rattle.dc_bound.specs.Window.{ticks_of}
use Rattle.dc_bound.specs.Turns.{NeverFall}
use Rattle.dc_bound.specs.lemmas.FirstPlaces.{snoc_induction}
use Rattle.dc_bound.specs.lemmas.Earliness.{never_fall-front}
use Rattle.dc_gauge.specs.Times.{last_time}
use Rattle.dc_gauge.specs.lemmas.OneMore.{last_time-push, times-push, last_le, length-push}
use Rattle.dc_survey.specs.Captures.{picked_from, picked}

from-push : (p : ℕ × (ℕ × ℕ) → Bool) (line : ℕ) (xs : List (ℕ × (ℕ × ℕ))) (x : ℕ × (ℕ × ℕ)) → picked_from p line (xs ++ x ∷ []) ≡ picked_from p line xs ++ cond (p x) ((x.0, line + length xs) ∷ []) []
unfolding picked_from
from-push p line [] x = (let e : line + 0 ≡ line = omega arith in rw e refl)
from-push p line (y ∷ ys) x =
    let e : suc line + length ys ≡ line + suc (length ys) = omega arith in
    let rec : picked_from p (suc line) (ys ++ x ∷ []) ≡ picked_from p (suc line) ys ++ cond (p x) ((x.0, line + suc (length ys)) ∷ []) [] = from-push p (suc line) ys x ∙ ap (λ n. picked_from p (suc line) ys ++ cond (p x) ((x.0, n) ∷ []) []) e in
    elim (p y) as (λ b. cond b ((y.0, line) ∷ picked_from p (suc line) (ys ++ x ∷ [])) (picked_from p (suc line) (ys ++ x ∷ [])) ≡ cond b ((y.0, line) ∷ picked_from p (suc line) ys) (picked_from p (suc line) ys) ++ cond (p x) ((x.0, line + suc (length ys)) ∷ []) []) [
      | true ↦ ap (λ l. (y.0, line) ∷ l) rec
      | false ↦ rec
    ]

pub picked-nil : (p : ℕ × (ℕ × ℕ) → Bool) → picked p [] ≡ []
unfolding picked_from
picked-nil p = refl

pub picked-push : (p : ℕ × (ℕ × ℕ) → Bool) (xs : List (ℕ × (ℕ × ℕ))) (x : ℕ × (ℕ × ℕ)) → p x ≡ true → picked p (xs ++ x ∷ []) ≡ picked p xs ++ (x.0, 1 + length xs) ∷ []
picked-push p xs x h = from-push p 1 xs x ∙ ap (λ b. picked p xs ++ cond b ((x.0, 1 + length xs) ∷ []) []) h

pub picked-other : (p : ℕ × (ℕ × ℕ) → Bool) (xs : List (ℕ × (ℕ × ℕ))) (x : ℕ × (ℕ × ℕ)) → p x ≡ false → picked p (xs ++ x ∷ []) ≡ picked p xs
picked-other p xs x h = from-push p 1 xs x ∙ ap (λ b. picked p xs ++ cond b ((x.0, 1 + length xs) ∷ []) []) h ∙ append-nil (picked p xs)

pub capture_times-push : (xs : List (ℕ × (ℕ × ℕ))) (x : ℕ × (ℕ × ℕ)) → ticks_of (xs ++ x ∷ []) ≡ ticks_of xs ++ x.0 ∷ []
capture_times-push [] x = refl
capture_times-push (y ∷ ys) x = ap (λ l. y.0 ∷ l) (capture_times-push ys x)

-- the last that is picked is no later than the last word; and so many are at most all
pub picked-last : (p : ℕ × (ℕ × ℕ) → Bool) (xs : List (ℕ × (ℕ × ℕ))) → NeverFall (ticks_of xs) → last_time (ticks_of (picked p xs)) ≤ last_time (ticks_of xs)
picked-last p xs =
    snoc_induction (λ xs. NeverFall (ticks_of xs) → last_time (ticks_of (picked p xs)) ≤ last_time (ticks_of xs)) (λ order. rw (picked-nil p) (omega arith)) (λ xs x h order.
    let ordered : NeverFall (ticks_of xs ++ x.0 ∷ []) = rw (← capture_times-push xs x) order in
    let before = h (never_fall-front (ticks_of xs) (x.0 ∷ []) ordered) in
    let late = last_le (ticks_of xs) x.0 ordered in
    let last : last_time (ticks_of (xs ++ x ∷ [])) ≡ x.0 = ap last_time (capture_times-push xs x) ∙ last_time-push (ticks_of xs) x.0 in
    elim (p x) as (λ b. p x ≡ b → last_time (ticks_of (picked p (xs ++ x ∷ []))) ≤ last_time (ticks_of (xs ++ x ∷ []))) [
      | true ↦ λ e. rw (picked-push p xs x e, last, times-push (picked p xs) (x.0, 1 + length xs), last_time-push (ticks_of (picked p xs)) x.0) (omega arith)
      | false ↦ λ e. rw (picked-other p xs x e, last) (omega arith)
    ] refl) xs

pub picked-few : (p : ℕ × (ℕ × ℕ) → Bool) (xs : List (ℕ × (ℕ × ℕ))) → length (picked p xs) ≤ length xs
picked-few p xs =
    snoc_induction (λ xs. length (picked p xs) ≤ length xs) (rw (picked-nil p) (omega arith)) (λ xs x h.
    elim (p x) as (λ b. p x ≡ b → length (picked p (xs ++ x ∷ [])) ≤ length (xs ++ x ∷ [])) [
      | true ↦ λ e. rw (picked-push p xs x e) (omega (arith, h, length-push (picked p xs) (x.0, 1 + length xs), length-push xs x))
      | false ↦ λ e. rw (picked-other p xs x e) (omega (arith, h, length-push xs x))
    ] refl) xs

pub counted-push : (p : ℕ × (ℕ × ℕ) → Bool) (xs : List (ℕ × (ℕ × ℕ))) (x : ℕ × (ℕ × ℕ)) → count_by p (xs ++ x ∷ []) ≡ count_by p xs + cond (p x) 1 0
counted-push p xs x = sum_by_push (λ x. cond (p x) 1 0) xs x
