-- The ages and the intervals of a label, one more emission, and at the end.
use Rattle.std.proofs.Common.{◌≡◌, ℕ, ◌+◌, ◌-◌, min, max, cond, Option, Some, None, List, [], ◌∷◌, ◌++◌, refl, sym, ap, ◌∙◌, arith, eq-eqb}
use Rattle.std.specs.List.{flat_map}
use Rattle.std.proofs.lemmas.Bool.{ne_eqb}
use Rattle.std.proofs.lemmas.List.{append-nil}
use Rattle.std.proofs.lemmas.Grind.{flat_map-append}
use Rattle.dc_bound.specs.Places.{each_place}
use Rattle.dc_bound.specs.lemmas.FirstPlaces.{each_place-push}
use Rattle.dc_tables.specs.TableRows.{TableRows}
use Rattle.dc_event.specs.Time.{tick_after}
use Rattle.dc_event.specs.Emissions.{emission, tick_if, emission_ticks, last_or_zero}
use Rattle.dc_event.specs.declared.event.Event.{Event}
use Rattle.dc_observe.specs.Observed.{age_if, age_of_sent, ages_of, count_none, greatest_age, gaps, least_of, greatest_of, greatest_interval}
use Rattle.dc_observe.specs.Carried.{greatest_so_far, last_of, or_zero, elder, lesser, least_with}

-- ---- lists, one more

pub count_none-push : (xs : List (Option ℕ)) (o : Option ℕ) → count_none (xs ++ o ∷ []) ≡ count_none xs + count_none (o ∷ [])
count_none-push [] o = omega arith
count_none-push (None ∷ xs) o = omega (arith, count_none-push xs o)
count_none-push (Some a ∷ xs) o = count_none-push xs o

elder-none : (o : Option ℕ) → elder o None ≡ o
elder-none None = refl
elder-none (Some a) = refl

abbrev with_age : ℕ → Option ℕ → Option ℕ
with_age a rest = Some ((elim rest [ None ↦ a | Some b ↦ max a b ]))

some-elder : (a : ℕ) (rest o : Option ℕ) → with_age a (elder rest o) ≡ elder (with_age a rest) o
some-elder a None None = refl
some-elder a None (Some c) = refl
some-elder a (Some b) None = refl
some-elder a (Some b) (Some c) = let e : max a (max b c) ≡ max (max a b) c = omega arith in ap (λ k. Some k) e

pub greatest_age-push : (xs : List (Option ℕ)) (o : Option ℕ) → greatest_age (xs ++ o ∷ []) ≡ elder (greatest_age xs) o
greatest_age-push [] None = refl
greatest_age-push [] (Some a) = refl
greatest_age-push (None ∷ xs) o = greatest_age-push xs o
greatest_age-push (Some a ∷ xs) o = ap (with_age a) (greatest_age-push xs o) ∙ some-elder a (greatest_age xs) o

abbrev with_least : ℕ → Option ℕ → Option ℕ
with_least a rest = Some ((elim rest [ None ↦ a | Some b ↦ min a b ]))

some-lesser : (a : ℕ) (rest : Option ℕ) (k : ℕ) → with_least a (Some (lesser rest k)) ≡ Some (lesser (with_least a rest) k)
some-lesser a None k = refl
some-lesser a (Some b) k = let e : min a (min b k) ≡ min (min a b) k = omega arith in ap (λ n. Some n) e

pub least_of-push : (xs : List ℕ) (k : ℕ) → least_of (xs ++ k ∷ []) ≡ Some (lesser (least_of xs) k)
least_of-push [] k = refl
least_of-push (a ∷ xs) k = ap (with_least a) (least_of-push xs k) ∙ some-lesser a (least_of xs) k

pub greatest_of-push : (xs : List ℕ) (k : ℕ) → greatest_of (xs ++ k ∷ []) ≡ max (greatest_of xs) k
greatest_of-push [] k = omega arith
greatest_of-push (a ∷ xs) k = omega (arith, greatest_of-push xs k)

-- a gap more behind a tick
pub gaps-push : (a : ℕ) (ts : List ℕ) (k : ℕ) → gaps ((a ∷ ts) ++ k ∷ []) ≡ gaps (a ∷ ts) ++ (k - last_or_zero (a ∷ ts)) ∷ []
gaps-push a [] k = refl
gaps-push a (b ∷ ts) k = ap (λ gs. (b - a) ∷ gs) (gaps-push b ts k)

pub last_of-push : (ts : List ℕ) (k : ℕ) → last_of (ts ++ k ∷ []) ≡ Some k
last_of-push [] k = refl
last_of-push (a ∷ []) k = refl
last_of-push (a ∷ b ∷ ts) k = last_of-push (b ∷ ts) k

pub last_of-or_zero : (ts : List ℕ) → last_or_zero ts ≡ or_zero (last_of ts)
last_of-or_zero [] = refl
last_of-or_zero (a ∷ []) = refl
last_of-or_zero (a ∷ b ∷ ts) = last_of-or_zero (b ∷ ts)

from_zero : (ts : List ℕ) → last_or_zero (0 ∷ ts) ≡ last_or_zero ts
from_zero [] = refl
from_zero (a ∷ ts) = refl

pub least_gap-push : (ts : List ℕ) (k : ℕ) → least_of (gaps (ts ++ k ∷ [])) ≡ least_with (least_of (gaps ts)) (last_of ts) k
least_gap-push [] k = refl
least_gap-push (a ∷ ts) k =
    let more : least_of (gaps ((a ∷ ts) ++ k ∷ [])) ≡ Some (lesser (least_of (gaps (a ∷ ts))) (k - last_or_zero (a ∷ ts))) = ap least_of (gaps-push a ts k) ∙ least_of-push (gaps (a ∷ ts)) (k - last_or_zero (a ∷ ts)) in
    more ∙ by_last (a ∷ ts) (last_of (a ∷ ts)) refl (some_last a ts)
  where
    some_last : (a : ℕ) (ts : List ℕ) → last_of (a ∷ ts) ≡ Some (last_or_zero (a ∷ ts))
    some_last a [] = refl
    some_last a (b ∷ ts) = some_last b ts

    by_last : (us : List ℕ) (o : Option ℕ) → last_of us ≡ o → last_of us ≡ Some (last_or_zero us) → Some (lesser (least_of (gaps us)) (k - last_or_zero us)) ≡ least_with (least_of (gaps us)) o k
    by_last us None is some = absurd (let both : None ≡ Some (last_or_zero us) = sym is ∙ some in cc)
    by_last us (Some l) is some = (let same : last_or_zero us ≡ l = (let both : Some (last_or_zero us) ≡ Some l = sym some ∙ is in cc) in ap (λ n. Some (lesser (least_of (gaps us)) (k - n))) same)

pub greatest_gap-push : (ts : List ℕ) (k : ℕ) → greatest_of (gaps (0 ∷ (ts ++ k ∷ []))) ≡ max (greatest_of (gaps (0 ∷ ts))) (k - or_zero (last_of ts))
greatest_gap-push ts k =
    ap greatest_of (gaps-push 0 ts k) ∙ greatest_of-push (gaps (0 ∷ ts)) (k - last_or_zero (0 ∷ ts))
    ∙ ap (λ n. max (greatest_of (gaps (0 ∷ ts))) (k - n)) (from_zero ts ∙ last_of-or_zero ts)

-- ---- emissions, one event more

ticks-push : (t : TableRows) (x : ℕ) (run : List Event) (e : Event) → emission_ticks t x (run ++ e ∷ []) ≡ emission_ticks t x run ++ tick_if x (tick_after run) (emission t run e)
unfolding emission_ticks
ticks-push t x run e =
    let f : List Event → Event → List ℕ = λ past e. tick_if x (tick_after past) (emission t past e) in
    ap (λ z. flat_map (λ ts. ts) z) (each_place-push f run e)
    ∙ flat_map-append (λ ts. ts) (each_place f run) (f run e ∷ [])
    ∙ ap (λ z. flat_map (λ ts. ts) (each_place f run) ++ z) (append-nil (f run e))

ages-push : (t : TableRows) (x : ℕ) (run : List Event) (e : Event) → ages_of t x (run ++ e ∷ []) ≡ ages_of t x run ++ age_if t x run e (emission t run e)
unfolding ages_of
ages-push t x run e =
    let f : List Event → Event → List (Option ℕ) = λ past e. age_if t x past e (emission t past e) in
    ap (λ z. flat_map (λ ts. ts) z) (each_place-push f run e)
    ∙ flat_map-append (λ ts. ts) (each_place f run) (f run e ∷ [])
    ∙ ap (λ z. flat_map (λ ts. ts) (each_place f run) ++ z) (append-nil (f run e))

-- the event does not emit the label
abbrev pub IsQuiet : TableRows → ℕ → List Event → Event → Type 0
IsQuiet t x run e = (emission_ticks t x (run ++ e ∷ []) ≡ emission_ticks t x run) × (ages_of t x (run ++ e ∷ []) ≡ ages_of t x run)

pub quiet-none : (t : TableRows) (x : ℕ) (run : List Event) (e : Event) → emission t run e ≡ None → IsQuiet t x run e
quiet-none t x run e h = (
  ticks-push t x run e ∙ ap (λ o. emission_ticks t x run ++ tick_if x (tick_after run) o) h ∙ append-nil (emission_ticks t x run),
  ages-push t x run e ∙ ap (λ o. ages_of t x run ++ age_if t x run e o) h ∙ append-nil (ages_of t x run),
)

pub quiet-other : (t : TableRows) (x y : ℕ) (run : List Event) (e : Event) → emission t run e ≡ Some y → (y ≡ x → ⊥) → IsQuiet t x run e
quiet-other t x y run e h other = (
  ticks-push t x run e ∙ ap (λ o. emission_ticks t x run ++ tick_if x (tick_after run) o) h ∙ ap (λ b. emission_ticks t x run ++ cond b (tick_after run ∷ []) []) (ne_eqb y x other) ∙ append-nil (emission_ticks t x run),
  ages-push t x run e ∙ ap (λ o. ages_of t x run ++ age_if t x run e o) h ∙ ap (λ b. ages_of t x run ++ cond b (age_of_sent t x run e ∷ []) []) (ne_eqb y x other) ∙ append-nil (ages_of t x run),
)

pub ticks-own : (t : TableRows) (x : ℕ) (run : List Event) (e : Event) → emission t run e ≡ Some x → emission_ticks t x (run ++ e ∷ []) ≡ emission_ticks t x run ++ tick_after run ∷ []
ticks-own t x run e h =
    ticks-push t x run e ∙ ap (λ o. emission_ticks t x run ++ tick_if x (tick_after run) o) h ∙ ap (λ b. emission_ticks t x run ++ cond b (tick_after run ∷ []) []) (eq-eqb x x refl)

pub ages-own : (t : TableRows) (x : ℕ) (run : List Event) (e : Event) → emission t run e ≡ Some x → ages_of t x (run ++ e ∷ []) ≡ ages_of t x run ++ age_of_sent t x run e ∷ []
ages-own t x run e h =
    ages-push t x run e ∙ ap (λ o. ages_of t x run ++ age_if t x run e o) h ∙ ap (λ b. ages_of t x run ++ cond b (age_of_sent t x run e ∷ []) []) (eq-eqb x x refl)

-- ---- no events

pub ticks-nil : (t : TableRows) (x : ℕ) → emission_ticks t x [] ≡ []
unfolding emission_ticks each_place
ticks-nil t x = refl

pub ages-nil : (t : TableRows) (x : ℕ) → ages_of t x [] ≡ []
unfolding ages_of each_place
ages-nil t x = refl

-- ---- the end

pub greatest-end : (t : TableRows) (x : ℕ) (run : List Event) → greatest_interval t x run ≡ max (greatest_so_far t x run) (tick_after run - or_zero (last_of (emission_ticks t x run)))
unfolding greatest_so_far
greatest-end t x run = greatest_gap-push (emission_ticks t x run) (tick_after run)
