-- Emissions by ticks and by times.
use Rattle.std.proofs.Common.{◌≡◌, ℕ, suc, ◌<◌, ◌≤◌, ◌==◌, cond, true, false, Option, Some, None, List, [], ◌∷◌, ◌++◌, length, refl, sym, ap, ◌∙◌, arith}
use Rattle.std.specs.List.{flat_map}
use Rattle.std.proofs.lemmas.List.{append-nil}
use Rattle.std.proofs.lemmas.Grind.{flat_map-append}
use Rattle.dc_bound.specs.Window.{ticks_of}
use Rattle.dc_bound.specs.Run.{stamp}
use Rattle.dc_bound.specs.Places.{each_place}
use Rattle.dc_bound.specs.Turns.{NeverFall}
use Rattle.dc_bound.specs.lemmas.FirstPlaces.{snoc_induction, each_place-push}
use Rattle.dc_bound.specs.lemmas.Steps.{ticks_of-append}
use Rattle.dc_spans.specs.Spans.{Clock, AreTimesOf}
use Rattle.dc_tables.specs.TableRows.{TableRows}
use Rattle.dc_event.specs.Time.{tick_after}
use Rattle.dc_event.specs.Emissions.{emission, tick_if, emission_ticks, last_or_zero}
use Rattle.dc_event.specs.declared.event.Event.{Event}
use Rattle.dc_event.specs.declared.event.Event.TheVariants.{Tick}
use Rattle.dc_time.specs.Timed.{ticked}
use Rattle.dc_time.specs.Claims.{emits, last_or}
use Rattle.dc_time.specs.lemmas.TimedRuns.{ticked-nil, ticked-push}

pub emission_ticks-push : (t : TableRows) (x : ℕ) (run : List Event) (e : Event) → emission_ticks t x (run ++ e ∷ []) ≡ emission_ticks t x run ++ tick_if x (tick_after run) (emission t run e)
unfolding emission_ticks
emission_ticks-push t x run e =
    let f : List Event → Event → List ℕ = λ past e. tick_if x (tick_after past) (emission t past e) in
    ap (λ z. flat_map (λ ts. ts) z) (each_place-push f run e)
    ∙ flat_map-append (λ ts. ts) (each_place f run) (f run e ∷ [])
    ∙ ap (λ z. flat_map (λ ts. ts) (each_place f run) ++ z) (append-nil (f run e))

pub emission_ticks-nil : (t : TableRows) (x : ℕ) → emission_ticks t x [] ≡ []
unfolding emission_ticks each_place
emission_ticks-nil t x = refl

one-emitted : (x k : ℕ) (o : Option ℕ) → tick_if x k o ≡ ticks_of (stamp k (Rattle.dc_event.specs.Offers.only x o) [])
one-emitted x k None = refl
one-emitted x k (Some y) = elim (y == x) as (λ b. cond b (k ∷ []) [] ≡ ticks_of (stamp k (cond b (Some y) None) [])) [ true ↦ refl | false ↦ refl ]

pub emissions-picked : (t : TableRows) (x : ℕ) (run : List Event) → emission_ticks t x run ≡ ticks_of (ticked (emits t x) run)
emissions-picked t x run =
    snoc_induction (λ run. emission_ticks t x run ≡ ticks_of (ticked (emits t x) run)) (emission_ticks-nil t x ∙ sym (ap (λ (z : List (ℕ × ℕ)). ticks_of z) (ticked-nil (emits t x))))
    (λ run e rec.
    emission_ticks-push t x run e ∙ ap (λ z. z ++ tick_if x (tick_after run) (emission t run e)) rec ∙ ap (λ z. ticks_of (ticked (emits t x) run) ++ z) (one-emitted x (tick_after run) (emission t run e))
    ∙ sym (ap (λ (z : List (ℕ × ℕ)). ticks_of z) (ticked-push (emits t x) run e) ∙ ticks_of-append (ticked (emits t x) run) (stamp (tick_after run) (emits t x run e) []))) run

-- the last of them, by its tick and by its time
pub record IsLastTime (clock : Clock) (last_tick : ℕ) (times : List ℕ) : Type 0 where
  pub from : clock.begins last_tick ≤ last_or (clock.begins 0) times
  pub to : 1 ≤ length times → last_or (clock.begins 0) times < clock.begins (suc last_tick)

pub last-time : (clock : Clock) (xs ys : List (ℕ × ℕ)) → AreTimesOf clock xs ys → IsLastTime clock (last_or_zero (ticks_of xs)) (ticks_of ys)
last-time clock [] [] h = record { from = omega arith; to = λ some. absurd (omega arith) }
last-time clock [] (y ∷ ys) h = absurd h
last-time clock (x ∷ xs) [] h = absurd h
last-time clock (x ∷ []) (y ∷ []) h = record { from = h.0.1.from; to = λ some. h.0.1.to }
last-time clock (x ∷ []) (y ∷ v ∷ ys) h = absurd h.1
last-time clock (x ∷ w ∷ xs) (y ∷ []) h = absurd h.1
last-time clock (x ∷ w ∷ xs) (y ∷ v ∷ ys) h = let r = last-time clock (w ∷ xs) (v ∷ ys) h.1 in record { from = r.from; to = λ some. r.to (omega arith) }

-- times that never fall: an earlier event came no later
pub first_le : (a : ℕ) (past rest : List (ℕ × Event)) (e : ℕ × Event) → NeverFall (a ∷ ticks_of (past ++ (e ∷ rest))) → a ≤ e.0
unfolding NeverFall
first_le a [] rest e h = h.0
first_le a (x ∷ past) rest e h = omega (arith, h.0, first_le x.0 past rest e h.1)

pub never_fall-tail : (a : ℕ) (ts : List ℕ) → NeverFall (a ∷ ts) → NeverFall ts
unfolding NeverFall
never_fall-tail a [] h = tt
never_fall-tail a (t ∷ ts) h = h.1

pub earlier_le : (before past rest : List (ℕ × Event)) (x e : ℕ × Event) → NeverFall (ticks_of ((before ++ (x ∷ past)) ++ (e ∷ rest))) → x.0 ≤ e.0
earlier_le [] past rest x e h = first_le x.0 past rest e h
earlier_le (b ∷ before) past rest x e h = earlier_le before past rest x e (never_fall-tail b.0 (ticks_of ((before ++ (x ∷ past)) ++ (e ∷ rest))) h)

-- as many by ticks as by times
pub as_many : (clock : Clock) (xs ys : List (ℕ × ℕ)) → AreTimesOf clock xs ys → length (ticks_of xs) ≡ length (ticks_of ys)
as_many clock [] [] h = refl
as_many clock [] (y ∷ ys) h = absurd h
as_many clock (x ∷ xs) [] h = absurd h
as_many clock (x ∷ xs) (y ∷ ys) h = ap suc (as_many clock xs ys h.1)

pub emits-no_tick : (t : TableRows) (x : ℕ) (past : List Event) → emits t x past Tick ≡ None
unfolding emission
emits-no_tick t x past = refl
