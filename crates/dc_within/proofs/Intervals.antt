-- The intervals between emissions of a label.
use Rattle.std.proofs.Common.{◌≡◌, ℕ, ◌+◌, ◌-◌, ◌≤◌, ◌==◌, min, true, false, cond, Option, Some, None, List, [], ◌∷◌, ◌++◌, length, refl, sym, ap, ◌∙◌, subst, arith, append_assoc}
use Rattle.std.specs.List.{flat_map}
use Rattle.std.specs.Prelude.{IfSome}
use Rattle.std.proofs.lemmas.Bool.{eqb-true}
use Rattle.std.proofs.lemmas.Grind.{flat_map-append}
use Rattle.std.proofs.lemmas.List.{append-nil}
use Rattle.dc_bound.specs.Places.{each_place}
use Rattle.dc_bound.specs.lemmas.FirstPlaces.{each_place-push, snoc_induction}
use Rattle.dc_event.specs.Emissions.{emission, tick_if, emission_ticks, last_or_zero}
use Rattle.dc_event.specs.Time.{tick_after}
use Rattle.dc_event.specs.declared.event.Event.{Event}
use Rattle.dc_observe.specs.Observed.{gaps, least_of, greatest_of, least_interval, greatest_interval}
use Rattle.dc_tables.specs.TableRows.{TableRows}

-- ---- one more tick

gaps-push : (a : ℕ) (ts : List ℕ) (k : ℕ) → gaps (a ∷ (ts ++ k ∷ [])) ≡ gaps (a ∷ ts) ++ (k - last_or_zero (a ∷ ts)) ∷ []
gaps-push a [] k = refl
gaps-push a (b ∷ ts) k = ap (λ gs. (b - a) ∷ gs) (gaps-push b ts k)

last-from_zero : (ts : List ℕ) → last_or_zero (0 ∷ ts) ≡ last_or_zero ts
last-from_zero [] = refl
last-from_zero (a ∷ ts) = refl

greatest-push : (most : ℕ) (gs : List ℕ) (g : ℕ) → greatest_of gs ≤ most → g ≤ most → greatest_of (gs ++ g ∷ []) ≤ most
greatest-push most [] g h l = omega arith
greatest-push most (a ∷ gs) g h l = omega (arith, greatest-push most gs g (omega (arith, h)) l, h)

abbrev AtLeast : ℕ → Option ℕ → Type 0
AtLeast least o = IfSome o (λ g. least ≤ g)

least_more : (a least : ℕ) (o : Option ℕ) → least ≤ a → AtLeast least o → least ≤ (elim o [ None ↦ a | Some b ↦ min a b ])
least_more a least None h g = h
least_more a least (Some b) h g = omega arith

least_less : (a least : ℕ) (o : Option ℕ) → least ≤ (elim o [ None ↦ a | Some b ↦ min a b ]) → (least ≤ a) × AtLeast least o
least_less a least None h = (h, tt)
least_less a least (Some b) h = (omega arith, omega arith)

least-push : (least : ℕ) (gs : List ℕ) (g : ℕ) → AtLeast least (least_of gs) → least ≤ g → AtLeast least (least_of (gs ++ g ∷ []))
least-push least [] g h l = l
least-push least (a ∷ gs) g h l =
    let r = least_less a least (least_of gs) h in
    least_more a least (least_of (gs ++ g ∷ [])) r.0 (least-push least gs g r.1 l)

-- ---- one more event

ticks-push : (t : TableRows) (x : ℕ) (run : List Event) (e : Event) → emission_ticks t x (run ++ e ∷ []) ≡ emission_ticks t x run ++ tick_if x (tick_after run) (emission t run e)
unfolding emission_ticks
ticks-push t x run e =
    let f : List Event → Event → List ℕ = λ past e. tick_if x (tick_after past) (emission t past e) in
    ap (λ l. flat_map (λ ts. ts) l) (each_place-push f run e) ∙ flat_map-append (λ ts. ts) (each_place f run) (f run e ∷ []) ∙ ap (λ ts. emission_ticks t x run ++ ts) (append-nil (f run e))

ticks-nil : (t : TableRows) (x : ℕ) → emission_ticks t x [] ≡ []
unfolding emission_ticks each_place
ticks-nil t x = refl

-- what holds of some ticks, and of these with the tick of the event that emits, holds after the event
after_event : (P : List ℕ → Type 0) (t : TableRows) (x : ℕ) (run : List Event) (e : Event) → P (emission_ticks t x run)
    → (emission t run e ≡ Some x → P (emission_ticks t x run ++ tick_after run ∷ [])) → P (emission_ticks t x (run ++ e ∷ []))
after_event P t x run e before emits =
    let same : P (emission_ticks t x run ++ []) = subst P (sym (append-nil (emission_ticks t x run))) before in
    subst P (sym (ticks-push t x run e)) (
    elim (emission t run e) as (λ o. emission t run e ≡ o → P (emission_ticks t x run ++ tick_if x (tick_after run) o)) [
      | None ↦ λ is. same
      | Some y ↦ λ is. elim (y == x) as (λ v. (y == x) ≡ v → P (emission_ticks t x run ++ cond v (tick_after run ∷ []) [])) [
        | true ↦ λ here. emits (is ∙ ap (λ z. Some z) (eqb-true y x here))
        | false ↦ λ other. same
      ] refl
    ] refl
    )

-- ---- the least

-- each emission of the label that has an earlier one is at least so many ticks after it
abbrev pub EachSpaced : TableRows → (x least : ℕ) → List Event → Type 0
EachSpaced t x least run =
    (past rest : List Event) (e : Event) → run ≡ past ++ (e ∷ rest) → emission t past e ≡ Some x → 1 ≤ length (emission_ticks t x past) → last_or_zero (emission_ticks t x past) + least ≤ tick_after past

gap_more : (least k : ℕ) (ts : List ℕ) → AtLeast least (least_of (gaps ts)) → (1 ≤ length ts → last_or_zero ts + least ≤ k) → AtLeast least (least_of (gaps (ts ++ k ∷ [])))
gap_more least k [] h spaced = tt
gap_more least k (a ∷ ts) h spaced =
    subst (λ gs. AtLeast least (least_of gs)) (sym (gaps-push a ts k)) (least-push least (gaps (a ∷ ts)) (k - last_or_zero (a ∷ ts)) h (omega (arith, spaced (omega arith))))

pub least-within : (t : TableRows) (x least : ℕ) (run : List Event) → EachSpaced t x least run → AtLeast least (least_interval t x run)
least-within t x least run =
    let P : List ℕ → Type 0 = λ ts. AtLeast least (least_of (gaps ts)) in
    snoc_induction (λ run. EachSpaced t x least run → AtLeast least (least_of (gaps (emission_ticks t x run)))) (λ h. subst P (sym (ticks-nil t x)) tt) (λ run e rec h.
    let before = rec (λ past rest other is. h past (rest ++ e ∷ []) other (ap (λ z. z ++ e ∷ []) is ∙ append_assoc past (other ∷ rest) (e ∷ []))) in
    after_event P t x run e before (λ emits. gap_more least (tick_after run) (emission_ticks t x run) before (λ some. h run [] e refl emits some))) run

-- ---- the greatest

-- at each place the last emission of the label, or the start, is at most so many ticks ago
abbrev pub EachInTime : TableRows → (x most : ℕ) → List Event → Type 0
EachInTime t x most run = (past rest : List Event) → run ≡ past ++ rest → tick_after past ≤ last_or_zero (emission_ticks t x past) + most

all_more : (most k : ℕ) (ts : List ℕ) → greatest_of (gaps (0 ∷ ts)) ≤ most → k ≤ last_or_zero ts + most → greatest_of (gaps (0 ∷ (ts ++ k ∷ []))) ≤ most
all_more most k ts h late =
    subst (λ gs. greatest_of gs ≤ most) (sym (gaps-push 0 ts k)) (greatest-push most (gaps (0 ∷ ts)) (k - last_or_zero (0 ∷ ts)) h (omega (arith, late, last-from_zero ts)))

to_last : (t : TableRows) (x most : ℕ) (run : List Event) → EachInTime t x most run → greatest_of (gaps (0 ∷ emission_ticks t x run)) ≤ most
to_last t x most run =
    let P : List ℕ → Type 0 = λ ts. greatest_of (gaps (0 ∷ ts)) ≤ most in
    snoc_induction (λ run. EachInTime t x most run → greatest_of (gaps (0 ∷ emission_ticks t x run)) ≤ most) (λ h. subst P (sym (ticks-nil t x)) (omega arith)) (λ run e rec h.
    let before = rec (λ past rest is. h past (rest ++ e ∷ []) (ap (λ z. z ++ e ∷ []) is ∙ append_assoc past rest (e ∷ []))) in
    after_event P t x run e before (λ emits. all_more most (tick_after run) (emission_ticks t x run) before (h run (e ∷ []) refl))) run

pub greatest-within : (t : TableRows) (x most : ℕ) (run : List Event) → EachInTime t x most run → greatest_interval t x run ≤ most
greatest-within t x most run in_time = all_more most (tick_after run) (emission_ticks t x run) (to_last t x most run in_time) (in_time run [] (sym (append-nil run)))
