-- One more place of a run.
use Rattle.std.proofs.Common.{◌≡◌, ℕ, zero, suc, ◌+◌, ◌-◌, ◌≤◌, ◌<◌, ◌⊎◌, min, Bool, true, false, Some, None, List, [], ◌∷◌, ◌++◌, length, take, refl, sym, ap, ◌∙◌, arith, ⊎_elim, inl, inr}
use Rattle.std.proofs.lemmas.Bool.{cases_lt}
use Rattle.std.proofs.lemmas.List.{take-append-le, take_all, length_push, take-take, length-take-le}
use Rattle.dc_bound.specs.Places.{least, served, served_in, or_else, when, least_where, first_place, last_below, count_below}
use Rattle.std.specs.Prelude.{cond, option_map}

pub least-same : (f g : ℕ → ℕ) (n : ℕ) → ((j : ℕ) → j ≤ n → f j ≡ g j) → least f n ≡ least g n
least-same f g zero same = same 0 (omega arith)
least-same f g (suc n) same =
    let rest : least f n ≡ least g n = least-same f g n (λ j h. same j (omega arith)) in
    let last : f (suc n) ≡ g (suc n) = same (suc n) (omega arith) in
    rw (rest, last)

pub least-add : (f : ℕ → ℕ) (v n : ℕ) → least (λ j. f j + v) n ≡ least f n + v
least-add f v zero = refl
least-add f v (suc n) = rw (least-add f v n) (omega arith)

pub least-le_last : (f : ℕ → ℕ) (n : ℕ) → least f n ≤ f n
least-le_last f zero = omega arith
least-le_last f (suc n) = omega arith

pub served-next : (come turns : ℕ → ℕ) (i v : ℕ) → ((j : ℕ) → j ≤ i → turns j ≤ turns i) → turns (suc i) ≡ turns i + v
    → served come turns (suc i) ≡ min (served come turns i + v) (come (suc i))
served-next come turns i v rises next =
    let same : least (λ j. come j + (turns (suc i) - turns j)) i ≡ least (λ j. (come j + (turns i - turns j)) + v) i = least-same (λ j. come j + (turns (suc i) - turns j)) (λ j. (come j + (turns i - turns j)) + v) i (λ j h. omega (arith, rises j h)) in
    let all : least (λ j. come j + (turns (suc i) - turns j)) i ≡ served come turns i + v = same ∙ least-add (λ j. come j + (turns i - turns j)) v i in
    omega (arith, all)

pub take_before_last : {X : Type 0} (run : List X) (e : X) (j : ℕ) → j ≤ length run → take j (run ++ e ∷ []) ≡ take j run
take_before_last run e j h = take-append-le j run (e ∷ []) h

-- one more event
pub served-push : {X : Type 0} (come turns : List X → ℕ) (run : List X) (e : X) (v : ℕ)
    → ((j : ℕ) → j ≤ length run → turns (take j run) ≤ turns run) → turns (run ++ e ∷ []) ≡ turns run + v
    → served_in come turns (run ++ e ∷ []) ≡ min (served_in come turns run + v) (come (run ++ e ∷ []))
unfolding served_in
served-push {X} come turns run e v rises next =
    let n = length run in
    let more = run ++ e ∷ [] in
    let long : length more ≡ suc (length run) = omega (arith, length_push run e) in
    let whole : take (suc (length run)) more ≡ more = take_all (suc (length run)) more (omega arith) in
    let here : take (length run) more ≡ run = take_before_last run e (length run) (omega arith) ∙ take_all (length run) run (omega arith) in
    let c : ℕ → ℕ = λ j. come (take j more) in
    let t : ℕ → ℕ = λ j. turns (take j more) in
    let c0 : ℕ → ℕ = λ j. come (take j run) in
    let t0 : ℕ → ℕ = λ j. turns (take j run) in
    let step : served c t (suc (length run)) ≡ min (served c t (length run) + v) (c (suc (length run))) =
    served-next c t (length run) v
    (λ j h. rw (here, take_before_last run e j h) (rises j h))
    (rw (whole, here) next) in
    let same : served c t (length run) ≡ served c0 t0 (length run) =
    least-same (λ j. c j + (t (length run) - t j)) (λ j. c0 j + (t0 (length run) - t0 j)) (length run)
    (λ j h. rw (take_before_last run e j h, take_before_last run e (length run) (omega arith)) refl) in
    rw (long, step, same, whole) refl

pub least_where-same : (p q : ℕ → Bool) (n : ℕ) → ((j : ℕ) → j ≤ n → p j ≡ q j) → least_where p n ≡ least_where q n
least_where-same p q zero same = rw (same 0 (omega arith)) refl
least_where-same p q (suc n) same =
    let rest : least_where p n ≡ least_where q n = least_where-same p q n (λ j h. same j (omega arith)) in
    let last : p (suc n) ≡ q (suc n) = same (suc n) (omega arith) in
    rw (rest, last) refl

pub first_place-push : {X : Type 0} (p : List X → Bool) (run : List X) (e : X)
    → first_place p (run ++ e ∷ []) ≡ or_else (first_place p run) (when (p (run ++ e ∷ [])) (suc (length run)))
unfolding first_place
first_place-push p run e =
    let more = run ++ e ∷ [] in
    let long : length more ≡ suc (length run) = omega (arith, length_push run e) in
    let whole : take (suc (length run)) more ≡ more = take_all (suc (length run)) more (omega arith) in
    let same : least_where (λ i. p (take i more)) (length run) ≡ least_where (λ i. p (take i run)) (length run) =
    least_where-same (λ i. p (take i more)) (λ i. p (take i run)) (length run) (λ j h. rw (take_before_last run e j h) refl) in
    rw (long, same, whole) refl

-- ---- induction by the last event

pub served-le : {X : Type 0} (come turns : List X → ℕ) (run : List X) → served_in come turns run ≤ come run
unfolding served_in
served-le come turns run =
    let last = least-le_last (λ j. come (take j run) + (turns (take (length run) run) - turns (take j run))) (length run) in
    let whole : take (length run) run ≡ run = take_all (length run) run (omega arith) in
    let e : come (take (length run) run) ≡ come run = ap come whole in
    omega (arith, last, e)

pub least_where-none_last : (p : ℕ → Bool) (n : ℕ) → least_where p n ≡ None → p n ≡ false
least_where-none_last p zero h = elim (p 0) as (λ b. when b 0 ≡ None → b ≡ false) [ true ↦ λ h. absurd cc | false ↦ λ h. refl ] h
least_where-none_last p (suc n) h =
    elim (least_where p n) as (λ o. or_else o (when (p (suc n)) (suc n)) ≡ None → p (suc n) ≡ false) [
      | None ↦ elim (p (suc n)) as (λ b. when b (suc n) ≡ None → b ≡ false) [ true ↦ λ h. absurd cc | false ↦ λ h. refl ]
      | Some i ↦ λ h. absurd cc
    ] h

pub least_where-none_step : (p : ℕ → Bool) (n : ℕ) → least_where p (suc n) ≡ None → least_where p n ≡ None
least_where-none_step p n h =
    elim (least_where p n) as (λ o. or_else o (when (p (suc n)) (suc n)) ≡ None → o ≡ None)
    [ None ↦ λ h. refl | Some i ↦ λ h. absurd cc ] h

pub least_where-bound : (p : ℕ → Bool) (n i : ℕ) → least_where p n ≡ Some i → i ≤ n
least_where-bound p zero i h = elim (p 0) as (λ b. when b 0 ≡ Some i → i ≤ 0) [ true ↦ λ h. (let e : 0 ≡ i = cc in omega arith) | false ↦ λ h. absurd cc ] h
least_where-bound p (suc n) i h =
    let rec : least_where p n ≡ Some i → i ≤ n = least_where-bound p n i in
    elim (least_where p n) as (λ o. (o ≡ Some i → i ≤ n) → or_else o (when (p (suc n)) (suc n)) ≡ Some i → i ≤ suc n) [
      | None ↦ λ r. elim (p (suc n)) as (λ b. when b (suc n) ≡ Some i → i ≤ suc n) [ true ↦ λ h. (let e : suc n ≡ i = cc in omega arith) | false ↦ λ h. absurd cc ]
      | Some k ↦ λ r h. (let b : i ≤ n = r h in omega arith)
    ] rec h

le-split : (j n : ℕ) → j ≤ suc n → (j ≤ n) ⊎ (j ≡ suc n)
le-split j n h = ⊎_elim (λ (l : j < suc n). inl (omega arith)) (λ (l : suc n ≤ j). inr (omega arith)) (cases_lt j (suc n))

-- a least place that was none stays none at each earlier place
pub least_where-none_earlier : (p : ℕ → Bool) (n j : ℕ) → j ≤ n → least_where p n ≡ None → least_where p j ≡ None
least_where-none_earlier p zero j h e = let z : j ≡ 0 = omega arith in rw z e
least_where-none_earlier p (suc n) j h e =
    ⊎_elim (λ (l : j ≤ n). least_where-none_earlier p n j l (least_where-none_step p n e)) (λ (l : j ≡ suc n). rw l e) (le-split j n h)

pub take_earlier : {X : Type 0} (run : List X) (i j : ℕ) → i ≤ j → take i (take j run) ≡ take i run
take_earlier run i j h = take-take i j run h

pub first_place-none_earlier : {X : Type 0} (p : List X → Bool) (run : List X) (j : ℕ) → j ≤ length run → first_place p run ≡ None → first_place p (take j run) ≡ None
unfolding first_place
first_place-none_earlier p run j h e =
    let long : length (take j run) ≡ j = length-take-le j run h in
    let same : least_where (λ i. p (take i (take j run))) j ≡ least_where (λ i. p (take i run)) j =
    least_where-same (λ i. p (take i (take j run))) (λ i. p (take i run)) j (λ i l. ap p (take_earlier run i j l)) in
    rw (long, same) (least_where-none_earlier (λ i. p (take i run)) (length run) j h e)

pub first_place-none_now : {X : Type 0} (p : List X → Bool) (run : List X) → first_place p run ≡ None → p run ≡ false
unfolding first_place
first_place-none_now p run e =
    let h = least_where-none_last (λ i. p (take i run)) (length run) e in
    ap p (sym (take_all (length run) run (omega arith))) ∙ h

pub first_place-bound : {X : Type 0} (p : List X → Bool) (run : List X) (i : ℕ) → first_place p run ≡ Some i → i ≤ length run
unfolding first_place
first_place-bound p run i e = least_where-bound (λ i. p (take i run)) (length run) i e

pub last_below-same : {A : Type 0} (p q : ℕ → Bool) (f g : ℕ → A) (n : ℕ) → ((k : ℕ) → k < n → p k ≡ q k) → ((k : ℕ) → k < n → f k ≡ g k) → option_map f (last_below p n) ≡ option_map g (last_below q n)
last_below-same p q f g zero h i = refl
last_below-same p q f g (suc n) h i =
    let rec = last_below-same p q f g n (λ k l. h k (omega arith)) (λ k l. i k (omega arith)) in
    let e : p n ≡ q n = h n (omega arith) in
    let v : f n ≡ g n = i n (omega arith) in
    rw e (elim (q n) as (λ b. option_map f (cond b (Some n) (last_below p n)) ≡ option_map g (cond b (Some n) (last_below q n))) [ true ↦ ap (λ x. Some x) v | false ↦ rec ])

pub count_below-grows : (p q : ℕ → Bool) (n : ℕ) → ((k : ℕ) → p k ≡ true → q k ≡ true) → count_below p n ≤ count_below q n
count_below-grows p q zero h = omega arith
count_below-grows p q (suc n) h =
    let rec = count_below-grows p q n h in
    let here : cond (p n) 1 0 ≤ cond (q n) 1 0 =
    elim (p n) as (λ b. p n ≡ b → cond b 1 0 ≤ cond (q n) 1 0) [ true ↦ λ e. (let y = h n e in rw y (omega arith)) | false ↦ λ e. omega arith ] refl in
    omega arith
