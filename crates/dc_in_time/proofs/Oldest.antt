-- The old runs are admissible in microseconds, and a word of each is nearly as old as it may be.
use Rattle.std.proofs.Common.{◌≡◌, ℕ, zero, suc, ◌+◌, ◌≤◌, ◌<◌, ◌==◌, ◌&&◌, Bool, true, nat_le, nat_lt, Some, List, [], ◌∷◌, ◌++◌, length, refl, arith, lit≤, inl, inr}
use Rattle.std.proofs.lemmas.List.Elements.{All-cons, All-nil}
use Rattle.std.proofs.lemmas.Bool.{and_parts, agree_below_at, leb-true, ltb-true, eqb-true}
use Rattle.dc_bound.specs.Window.{count_in, ticks_of, Spaced, HoldAtLeast, HoldAtMost}
use Rattle.dc_bound.specs.Run.{ticks, picks, stamped}
use Rattle.dc_bound.specs.Places.{served_in, first_place, each_place}
use Rattle.dc_bound.specs.Moves.{ins, passed, is_overfull, latch, entered, taken, routed_tick, arrived_tick, latest_number, latest_by}
use Rattle.dc_bound.specs.Turns.{NeverFall}
use Rattle.dc_bound.specs.lemmas.Counts.{count_in-cons, count_in-nil, one_in_cases}
use Rattle.dc_bound.specs.lemmas.Spacing.{spaced_holds}
use Rattle.dc_check.specs.Small.{small_tables}
use Rattle.dc_event.specs.Admissible.{IsNumbered, IsRun, KeepsBudgets}
use Rattle.dc_event.specs.Buses.{moves, arrival_of}
use Rattle.dc_event.specs.Choice.{fresh, chosen_source}
use Rattle.dc_event.specs.Emissions.{emission}
use Rattle.dc_event.specs.Latest.{latest}
use Rattle.dc_event.specs.Outputs.{due_by, sent}
use Rattle.dc_event.specs.Time.{ends, tick_after, route_of, send_of, route_ticks, send_ticks}
use Rattle.dc_event.specs.declared.event.Event.{Event}
use Rattle.dc_event.specs.declared.event.Event.TheVariants.{Tick, Arrive, Route, Send}
use Rattle.dc_in_time.specs.Oldest.{small_intervals, small_clock, old_past, old_run, SendsOld}
use Rattle.dc_spans.specs.Spans.{Clock}
use Rattle.dc_spans.specs.lemmas.Scaling.{one-cap, exact-paced}
use Rattle.dc_tables.specs.Declares.{stream_of}
use Rattle.dc_tables.specs.TableRows.{TableRows}
use Rattle.dc_time.specs.Admissible.{IsAdmissibleInTime}
use Rattle.dc_time.specs.Intervals.{FitsClock}
use Rattle.dc_time.specs.Sources.{brought, stream_times, bus_times, KeepsSourcesInTime}
use Rattle.dc_time.specs.Timed.{HappensIn, IsTimed, events, timed}
use Rattle.dc_time.specs.lemmas.Placing.{PlacedFrom, placed-from}
use Rattle.dc_word.specs.Word.{ones_in, is_odd, reversed}

-- what holds of the first number holds of each below 1; of the first two, of each below 2
pub only_first : (P : ℕ → Type 0) → P 0 → (k : ℕ) → k < 1 → P k
only_first P p zero h = p
only_first P p (suc k) h = absurd (omega arith)

pub first_two : (P : ℕ → Type 0) → P 0 → P 1 → (k : ℕ) → k < 2 → P k
first_two P p q zero h = p
first_two P p q (suc zero) h = q
first_two P p q (suc (suc k)) h = absurd (omega arith)

-- ---- tests that compute

abbrev is_spaced : ℕ → List (ℕ × ℕ) → Bool
is_spaced m [] = true
is_spaced m (x ∷ []) = true
is_spaced m (x ∷ y ∷ xs) = nat_le (x.0 + m) y.0 && is_spaced m (y ∷ xs)

spaced-from : (m : ℕ) (xs : List (ℕ × ℕ)) → is_spaced m xs ≡ true → Spaced m xs
unfolding Spaced
spaced-from m [] h = tt
spaced-from m (x ∷ []) h = tt
spaced-from m (x ∷ y ∷ xs) h = let r = and_parts (nat_le (x.0 + m) y.0) (is_spaced m (y ∷ xs)) h in (leb-true (x.0 + m) y.0 r.0, spaced-from m (y ∷ xs) r.1)

abbrev is_rising : List ℕ → Bool
is_rising [] = true
is_rising (t ∷ []) = true
is_rising (t ∷ s ∷ ts) = nat_le t s && is_rising (s ∷ ts)

pub rising-from : (ts : List ℕ) → is_rising ts ≡ true → NeverFall ts
unfolding NeverFall
rising-from [] h = tt
rising-from (t ∷ []) h = tt
rising-from (t ∷ s ∷ ts) h = let r = and_parts (nat_le t s) (is_rising (s ∷ ts)) h in (leb-true t s r.0, rising-from (s ∷ ts) r.1)

abbrev is_within : Clock → (k time : ℕ) → Bool
is_within clock k time = nat_le (clock.begins k) time && nat_lt time (clock.begins (suc k))

abbrev happens : Clock → (k time : ℕ) → Event → Bool
happens clock k time Tick = time == clock.begins (suc k)
happens clock k time (Arrive w b) = is_within clock k time
happens clock k time (Route r) = is_within clock k time
happens clock k time (Send o) = is_within clock k time

within-from : (clock : Clock) (k time : ℕ) → is_within clock k time ≡ true → Rattle.dc_spans.specs.Spans.IsWithinTick clock k time
within-from clock k time h = let r = and_parts (nat_le (clock.begins k) time) (nat_lt time (clock.begins (suc k))) h in record { from = leb-true (clock.begins k) time r.0; to = ltb-true time (clock.begins (suc k)) r.1 }

happens-from : (clock : Clock) (k time : ℕ) (e : Event) → happens clock k time e ≡ true → HappensIn clock k time e
happens-from clock k time Tick h = eqb-true time (clock.begins (suc k)) h
happens-from clock k time (Arrive w b) h = within-from clock k time h
happens-from clock k time (Route r) h = within-from clock k time h
happens-from clock k time (Send o) h = within-from clock k time h

abbrev is_placed : Clock → ℕ → List (ℕ × Event) → Bool
is_placed clock k [] = true
is_placed clock k (e ∷ run) = happens clock k e.0 e.1 && is_placed clock (k + ends e.1) run

pub is_placed-from : (clock : Clock) (k : ℕ) (run : List (ℕ × Event)) → is_placed clock k run ≡ true → PlacedFrom clock k run
is_placed-from clock k [] h = tt
is_placed-from clock k (e ∷ run) h =
    let r = and_parts (happens clock k e.0 e.1) (is_placed clock (k + ends e.1) run) h in
    (happens-from clock k e.0 e.1 r.0, is_placed-from clock (k + ends e.1) run r.1)

abbrev has_number : TableRows → Event → Bool
has_number t Tick = true
has_number t (Arrive w b) = nat_lt b (length t.buses)
has_number t (Route r) = nat_lt r (length t.routers)
has_number t (Send o) = nat_lt o (length t.outputs)

number-from : (t : TableRows) (e : Event) → has_number t e ≡ true → IsNumbered t e
number-from t Tick h = tt
number-from t (Arrive w b) h = ltb-true b (length t.buses) h
number-from t (Route r) h = ltb-true r (length t.routers) h
number-from t (Send o) h = ltb-true o (length t.outputs) h

abbrev have_numbers : TableRows → List Event → Bool
have_numbers t [] = true
have_numbers t (e ∷ run) = has_number t e && have_numbers t run

pub numbers-from : (t : TableRows) (run : List Event) → have_numbers t run ≡ true → IsRun t run
numbers-from t [] h = All-nil (IsNumbered t)
numbers-from t (e ∷ run) h = let r = and_parts (has_number t e) (have_numbers t run) h in All-cons (IsNumbered t) e run (number-from t e r.0) (numbers-from t run r.1)

-- ---- intervals and clock

pub old_fits : FitsClock small_tables small_intervals small_clock
old_fits = record {
  spacings = only_first _ (lit≤ tt);
  spacings_some = only_first _ (lit≤ tt);
  stream_minimums = first_two _ (lit≤ tt) (lit≤ tt);
  stream_maximums = first_two _ (lit≤ tt) (lit≤ tt);
  stream_jitters = first_two _ (lit≤ tt) (lit≤ tt);
  label_minimums = only_first _ (lit≤ tt);
  label_maximums = only_first _ (lit≤ tt);
}

-- ---- the run

old_timing : IsTimed small_clock (old_run 6350)
old_timing = record { ordered = rising-from (ticks_of (old_run 6350)) refl; placed = placed-from small_clock (old_run 6350) (is_placed-from small_clock 0 (old_run 6350) refl) }

old_ticks : tick_after (events (old_run 6350)) ≡ 30
unfolding ticks
old_ticks = refl

old_routes : route_ticks 0 (events (old_run 6350)) ≡ 0 ∷ 1 ∷ 2 ∷ 3 ∷ 4 ∷ 5 ∷ 6 ∷ 7 ∷ 8 ∷ 9 ∷ 10 ∷ 11 ∷ 12 ∷ 13 ∷ 14 ∷ 15 ∷ 16 ∷ 17 ∷ 18 ∷ 19 ∷ 20 ∷ 21 ∷ 22 ∷ 23 ∷ 24 ∷ 25 ∷ 26 ∷ 27 ∷ 28 ∷ 29 ∷ []
unfolding stamped
old_routes = refl

old_sends : send_ticks 0 (events (old_run 6350)) ≡ 0 ∷ 2 ∷ 4 ∷ 6 ∷ 8 ∷ 10 ∷ 12 ∷ 14 ∷ 16 ∷ 18 ∷ 20 ∷ 22 ∷ 24 ∷ 26 ∷ 28 ∷ 30 ∷ []
unfolding stamped
old_sends = refl

routes_rest : HoldAtMost 1 1 (route_ticks 0 (events (old_run 6350)))
unfolding stamped
routes_rest = spaced_holds 1 (lit≤ tt) (stamped ends (route_of 0) 0 (events (old_run 6350))) (spaced-from 1 (stamped ends (route_of 0) 0 (events (old_run 6350))) refl)

sends_rest : HoldAtMost 1 1 (send_ticks 0 (events (old_run 6350)))
unfolding stamped
sends_rest = spaced_holds 1 (lit≤ tt) (stamped ends (send_of 0) 0 (events (old_run 6350))) (spaced-from 1 (stamped ends (send_of 0) 0 (events (old_run 6350))) refl)

abbrev thirty : List ℕ
thirty = 0 ∷ 1 ∷ 2 ∷ 3 ∷ 4 ∷ 5 ∷ 6 ∷ 7 ∷ 8 ∷ 9 ∷ 10 ∷ 11 ∷ 12 ∷ 13 ∷ 14 ∷ 15 ∷ 16 ∷ 17 ∷ 18 ∷ 19 ∷ 20 ∷ 21 ∷ 22 ∷ 23 ∷ 24 ∷ 25 ∷ 26 ∷ 27 ∷ 28 ∷ 29 ∷ []

abbrev sixteen : List ℕ
sixteen = 0 ∷ 2 ∷ 4 ∷ 6 ∷ 8 ∷ 10 ∷ 12 ∷ 14 ∷ 16 ∷ 18 ∷ 20 ∷ 22 ∷ 24 ∷ 26 ∷ 28 ∷ 30 ∷ []

one_each : (u : ℕ) → u < 30 → nat_le 1 (count_in u 1 thirty) ≡ true
unfolding count_in
one_each u h = agree_below_at (λ u. nat_le 1 (count_in u 1 thirty)) (λ _. true) 30 u refl h

one_in_two : (u : ℕ) → u < 29 → nat_le 1 (count_in u 2 sixteen) ≡ true
unfolding count_in
one_in_two u h = agree_below_at (λ u. nat_le 1 (count_in u 2 sixteen)) (λ _. true) 29 u refl h

routes_work : HoldAtLeast 1 1 (tick_after (events (old_run 6350))) (route_ticks 0 (events (old_run 6350)))
routes_work u h = rw old_routes (leb-true 1 (count_in u 1 thirty) (one_each u (omega (arith, h, old_ticks))))

sends_work : HoldAtLeast 1 2 (tick_after (events (old_run 6350))) (send_ticks 0 (events (old_run 6350)))
sends_work u h = rw old_sends (leb-true 1 (count_in u 2 sixteen) (one_in_two u (omega (arith, h, old_ticks))))

pub old_budgets : KeepsBudgets small_tables (events (old_run 6350))
old_budgets = record {
  routers_work = only_first _ routes_work;
  routers_rest = only_first _ (λ u. omega (arith, routes_rest u));
  outputs_work = only_first _ sends_work;
  outputs_rest = only_first _ sends_rest;
}

-- ---- its sources

one_at_most : (u d t : ℕ) → count_in u d (t ∷ []) ≤ 1
one_at_most u d t =
    let all = count_in-cons u d t [] in
    let none = count_in-nil u d in
    elim (one_in_cases u d t) [ inl w ↦ omega (arith, w.2) | inr v ↦ elim v [ inl w ↦ omega (arith, w.1) | inr w ↦ omega (arith, w.1) ] ]

old_first : stream_times small_tables 0 (old_run 6350) ≡ 6350 ∷ []
unfolding timed each_place ones_in is_odd reversed stream_of
old_first = refl

old_second : stream_times small_tables 1 (old_run 6350) ≡ 6000 ∷ []
unfolding timed each_place ones_in is_odd reversed stream_of
old_second = refl

old_wire : HoldAtMost 1 350 (bus_times small_tables 0 (old_run 6350))
unfolding timed each_place ones_in is_odd reversed stream_of
old_wire = spaced_holds 350 (lit≤ tt) (timed (arrival_of small_tables 0) (old_run 6350)) (spaced-from 350 (timed (arrival_of small_tables 0) (old_run 6350)) refl)

old_sources : KeepsSourcesInTime small_tables small_intervals (old_run 6350)
old_sources = record {
  streams_rest = first_two _
      (λ free. one-cap 10000 (lit≤ tt) (stream_times small_tables 0 (old_run 6350)) (λ u. rw old_first (one_at_most u 10000 6350)))
      (λ free. one-cap 10000 (lit≤ tt) (stream_times small_tables 1 (old_run 6350)) (λ u. rw old_second (one_at_most u 10000 6000)));
  wires_rest = only_first _ (λ free. old_wire);
}

pub old_admissible : IsAdmissibleInTime small_tables small_intervals small_clock (old_run 6350)
old_admissible = record { timing = old_timing; numbers = numbers-from small_tables (events (old_run 6350)) refl; sources = old_sources; budgets = old_budgets }

-- ---- the old word

old_leaves : emission small_tables (events (old_past 6350)) (Send 0) ≡ Some 0
unfolding emission sent served_in due_by ticks picks
old_leaves = refl

old_copied : chosen_source small_tables 0 (events (old_past 6350) ++ Send 0 ∷ []) ≡ Some (0, 0x600000C1)
unfolding served_in first_place each_place ones_in is_odd reversed ticks picks stamped stream_of ins passed is_overfull latch entered taken routed_tick arrived_tick latest_number latest_by moves latest fresh chosen_source
old_copied = refl

old_came : timed (brought small_tables 0) (old_past 6350) ≡ (6000, (1, 0xE0000021)) ∷ (6350, (0, 0x600000C1)) ∷ []
unfolding timed each_place ones_in is_odd reversed stream_of
old_came = refl

pub old_word : SendsOld small_tables 25000 24649 (old_run 6350)
old_word = record {
  past = old_past 6350;
  rest = [];
  event = (30999, Send 0);
  label = 0;
  word = (0, 0x600000C1);
  came = 6350;
  at = refl;
  leaves = old_leaves;
  copies = record { copied = old_copied; arrived = rw old_came (1, lit≤ tt, refl); before = lit≤ tt; aged = lit≤ tt };
  after = refl;
}

pub old_paced : Rattle.dc_spans.specs.Spans.KeepsPace small_clock
old_paced = exact-paced 0 1000 (lit≤ tt)
