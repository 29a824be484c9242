-- The small chain is certified, and a word goes through it.
use Rattle.std.proofs.Common.{◌≡◌, ℕ, zero, suc, ◌≤◌, ◌<◌, [], ◌∷◌, refl, sym, ◌∙◌, arith, lit≤, inl, inr}
use Rattle.std.specs.List.{Contains}
use Rattle.dc_bound.specs.Window.{count_in, HoldAtMost}
use Rattle.dc_bound.specs.Run.{ticks, picks, stamped}
use Rattle.dc_bound.specs.Places.{served_in, first_place, each_place}
use Rattle.dc_bound.specs.Moves.{ins, passed, is_overfull, latch, entered, taken, routed_tick, arrived_tick, latest_number, latest_by}
use Rattle.dc_bound.specs.Turns.{NeverFall}
use Rattle.dc_bound.specs.lemmas.Counts.{count_in-cons, count_in-nil, one_in_cases}
use Rattle.dc_spans.specs.lemmas.Scaling.{one-cap, exact-paced}
use Rattle.dc_spans.specs.Spans.{exact_clock}
use Rattle.dc_check.specs.Small.{small_tables, small_claims}
use Rattle.dc_check.proofs.Smallest.{small_valid, small_accepted, small_admissible}
use Rattle.dc_word.specs.Word.{ones_in, is_odd, reversed, body_of, composed_word, copied_word}
use Rattle.dc_tables.specs.Declares.{stream_of}
use Rattle.dc_tables.specs.TableRows.{stream_row}
use Rattle.dc_event.specs.Buses.{moves}
use Rattle.dc_event.specs.Choice.{fresh, chosen_source}
use Rattle.dc_event.specs.Emissions.{emission}
use Rattle.dc_event.specs.Latest.{latest}
use Rattle.dc_event.specs.Outputs.{due_by, sent}
use Rattle.dc_time.specs.Timed.{IsTimed, timed}
use Rattle.dc_time.specs.Intervals.{FitsClock}
use Rattle.dc_time.specs.Sources.{KeepsSourcesInTime, stream_times, bus_times}
use Rattle.dc_time.specs.lemmas.Placing.{placed-from}
use Rattle.dc_chain.specs.Concentrators.{RunsInTime, LinkFits, KeepsOtherSources, IsLinked, sends_of, arrivals_at}
use Rattle.dc_chain.specs.Chains.{longest_way, ComesIn}
use Rattle.dc_chain.specs.Laws.{IsCertified, IsCertifiedChain}
use Rattle.dc_chain.specs.SmallChain.{small_intervals, small_timed_run, small_concentrator, small_link, small_stages}

only_first : (P : ℕ → Type 0) → P 0 → (k : ℕ) → k < 1 → P k
only_first P p zero h = p
only_first P p (suc k) h = absurd (omega arith)

first_two : (P : ℕ → Type 0) → P 0 → P 1 → (k : ℕ) → k < 2 → P k
first_two P p q zero h = p
first_two P p q (suc zero) h = q
first_two P p q (suc (suc k)) h = absurd (omega arith)

pub small_fit : (start : ℕ) → FitsClock small_tables small_intervals (exact_clock start 1000)
small_fit start = record {
  spacings = only_first _ (lit≤ tt);
  spacings_some = only_first _ (lit≤ tt);
  stream_minimums = first_two _ (lit≤ tt) (lit≤ tt);
  stream_maximums = first_two _ (lit≤ tt) (lit≤ tt);
  stream_jitters = first_two _ (lit≤ tt) (lit≤ tt);
  label_minimums = only_first _ (lit≤ tt);
  label_maximums = only_first _ (lit≤ tt);
}

pub small_timing : (start : ℕ) → IsTimed (exact_clock start 1000) (small_timed_run start)
unfolding NeverFall
small_timing start = record {
  ordered = (omega arith, (omega arith, (omega arith, tt)));
  placed = placed-from (exact_clock start 1000) (small_timed_run start)
      (record { from = omega arith; to = omega arith }, (record { from = omega arith; to = omega arith }, (record { from = omega arith; to = omega arith }, (omega arith, tt))));
}

small_runs : (start : ℕ) → RunsInTime (small_concentrator start)
small_runs start = record { valid = small_valid; paced = exact-paced start 1000 (lit≤ tt); fits = small_fit start; timing = small_timing start; numbers = small_admissible.numbers }

small_is_certified : (start : ℕ) → IsCertified (small_concentrator start)
small_is_certified start = record { claims = small_claims 24; accepted = small_accepted; ages = refl; budgets = small_admissible.budgets }

-- ---- sources

pub one_at_most : (u d t : ℕ) → count_in u d (t ∷ []) ≤ 1
one_at_most u d t =
    let all = count_in-cons u d t [] in
    let none = count_in-nil u d in
    elim (one_in_cases u d t) [ inl w ↦ omega (arith, w.2) | inr v ↦ elim v [ inl w ↦ omega (arith, w.1) | inr w ↦ omega (arith, w.1) ] ]

small_bus : (start : ℕ) → bus_times small_tables 0 (small_timed_run start) ≡ start ∷ []
unfolding timed each_place ones_in is_odd reversed stream_of
small_bus start = refl

small_first : (start : ℕ) → stream_times small_tables 0 (small_timed_run start) ≡ start ∷ []
unfolding timed each_place ones_in is_odd reversed stream_of
small_first start = refl

small_second : (start : ℕ) → stream_times small_tables 1 (small_timed_run start) ≡ []
unfolding timed each_place ones_in is_odd reversed stream_of
small_second start = refl

pub small_wires : (start b : ℕ) → b < 1 → HoldAtMost 1 (small_intervals.spacing b) (bus_times small_tables b (small_timed_run start))
small_wires start = only_first (λ b. HoldAtMost 1 (small_intervals.spacing b) (bus_times small_tables b (small_timed_run start))) (λ u. rw (small_bus start) (one_at_most u 350 start))

pub small_sources : (start : ℕ) → KeepsSourcesInTime small_tables small_intervals (small_timed_run start)
small_sources start = record {
  streams_rest = first_two _
      (λ free. one-cap 10000 (lit≤ tt) (stream_times small_tables 0 (small_timed_run start)) (λ u. rw (small_first start) (one_at_most u 10000 start)))
      (λ free. one-cap 10000 (lit≤ tt) (stream_times small_tables 1 (small_timed_run start)) (λ u. rw (small_second start) (omega (arith, count_in-nil u 10000))));
  wires_rest = λ b there free. small_wires start b there;
}

small_others : KeepsOtherSources (small_concentrator 700) 0
small_others = record {
  streams_rest = λ s there free other. absurd (other (first_two (λ s. (stream_row small_tables s).bus ≡ 0) refl refl s there));
  wires_rest = λ b there free. small_wires 700 b there;
}

-- ---- the link

pub small_sent : (start : ℕ) → sends_of (small_concentrator start) 0 ≡ (start, (0, 0x600000C1)) ∷ []
unfolding timed emission sent due_by served_in first_place each_place ones_in is_odd reversed ticks picks stamped stream_of ins passed is_overfull latch entered taken routed_tick arrived_tick latest_number latest_by moves latest fresh chosen_source body_of composed_word copied_word
small_sent start = refl

pub small_came : (start : ℕ) → arrivals_at (small_concentrator start) 0 ≡ (start, (0, 0x600000C1)) ∷ []
unfolding timed each_place ones_in is_odd reversed stream_of
small_came start = refl

small_carried : IsLinked (small_concentrator 0) small_link (small_concentrator 700)
small_carried = rw (small_sent 0, small_came 700) (inl (record { same = refl; no_sooner = lit≤ tt; no_later = lit≤ tt }, tt))

small_fits : LinkFits (small_concentrator 0) small_link (small_concentrator 700)
small_fits = record {
  alone = λ x y s w v f g. (let a : x ≡ 0 = omega (arith, f.there) in let b : y ≡ 0 = omega (arith, g.there) in a ∙ sym b);
  spaced = λ x s w f. lit≤ tt;
}

pub small_certified : IsCertifiedChain (small_concentrator 700) small_stages
small_certified = (small_runs 700, small_is_certified 700, small_others, small_fits, small_carried, (small_runs 0, small_is_certified 0, small_sources 0))

pub small_comes : ComesIn (small_concentrator 700) small_stages 0 0x600000C1
small_comes = inr (0, rw (small_came 0) (0, lit≤ tt, refl))

pub small_leaves : Contains (sends_of (small_concentrator 700) 0) (700, (0, 0x600000C1))
small_leaves = rw (small_sent 700) (0, lit≤ tt, refl)

pub small_way : 50700 ≡ longest_way (small_concentrator 700) small_stages
small_way = refl
