-- The policed tables are valid, the certificate of the small ones is accepted for them, and a word of theirs is as old as it may be but for a microsecond.
use Rattle.std.proofs.Common.{◌≡◌, ℕ, zero, suc, ◌+◌, ◌≤◌, ◌<◌, Some, [], ◌∷◌, ◌++◌, refl, arith, lit≤}
use Rattle.dc_bound.specs.Early.{would_pass, admitted}
use Rattle.dc_bound.specs.Moves.{ins, passed, is_overfull, latch, entered, taken, routed_tick, arrived_tick, latest_number, latest_by}
use Rattle.dc_bound.specs.Places.{served_in, first_place, each_place}
use Rattle.dc_bound.specs.Rounds.{among}
use Rattle.dc_bound.specs.Run.{ticks, picks, stamped}
use Rattle.dc_bound.specs.Window.{count_in, ticks_of}
use Rattle.dc_check.specs.Accepts.{Accepts, AcceptsInput, AcceptsOutput, AcceptsLabel}
use Rattle.dc_check.specs.Small.{small_tables, small_claims}
use Rattle.dc_cert.specs.Bounds.{numbers_of}
use Rattle.dc_event.specs.Admissible.{KeepsBudgets}
use Rattle.dc_event.specs.Buses.{moves}
use Rattle.dc_event.specs.Choice.{fresh, chosen_source}
use Rattle.dc_event.specs.Emissions.{emission}
use Rattle.dc_event.specs.Latest.{latest}
use Rattle.dc_event.specs.Offers.{is_early}
use Rattle.dc_event.specs.Outputs.{due_by, sent}
use Rattle.dc_event.specs.declared.event.Event.TheVariants.{Send}
use Rattle.dc_in_time.specs.Oldest.{small_intervals, small_clock, policed_tables, old_past, old_run, SendsOld}
use Rattle.dc_in_time.proofs.Oldest.{only_first, first_two, rising-from, is_placed-from, numbers-from, old_budgets}
use Rattle.dc_tables.specs.Declares.{stream_of}
use Rattle.dc_tables.specs.TableRows.{AreValid, bus_row, stream_row, bus_cap, bus_floor, output_cap, visited}
use Rattle.dc_time.specs.Admissible.{IsAdmissibleInTime}
use Rattle.dc_time.specs.Intervals.{FitsClock}
use Rattle.dc_time.specs.Sources.{brought, KeepsSourcesInTime}
use Rattle.dc_time.specs.Timed.{IsTimed, events, timed}
use Rattle.dc_time.specs.lemmas.Placing.{placed-from}
use Rattle.dc_word.specs.Word.{ones_in, is_odd, reversed}

-- ---- the tables

streams_of : AreValid small_tables → (b s : ℕ) → b < 1 → s < 2 → (stream_row policed_tables s).bus ≡ b → ((bus_row policed_tables b).first ≤ s) × (s < (bus_row policed_tables b).first + (bus_row policed_tables b).streams)
streams_of v zero s h k e = v.streams_of_bus 0 s h k e
streams_of v (suc b) s h k e = absurd (omega arith)

bus_of : AreValid small_tables → (b s : ℕ) → b < 1 → (bus_row policed_tables b).first ≤ s → s < (bus_row policed_tables b).first + (bus_row policed_tables b).streams → (stream_row policed_tables s).bus ≡ b
bus_of v zero s h from to = v.bus_of_streams 0 s h from to
bus_of v (suc b) s h from to = absurd (omega arith)

by_one : AreValid small_tables → (b r n : ℕ) → b < 1 → r < 1 → visited policed_tables r n ≡ b → r ≡ (bus_row policed_tables b).router
by_one v zero r n h k e = v.visited_by_one 0 r n h k e
by_one v (suc b) r n h k e = absurd (omega arith)

are_visited : AreValid small_tables → (b : ℕ) → b < 1 → (n : ℕ) × (visited policed_tables (bus_row policed_tables b).router n ≡ b)
are_visited v zero h = v.buses_visited 0 h
are_visited v (suc b) h = absurd (omega arith)

pub policed_valid : AreValid small_tables → AreValid policed_tables
policed_valid v = record {
  ticks_short = v.ticks_short;
  ticks_some = v.ticks_some;
  few_buses = lit≤ tt;
  few_routers = v.few_routers;
  few_outputs = v.few_outputs;
  few_streams = v.few_streams;
  few_labels = v.few_labels;
  queues_some = only_first _ (lit≤ tt);
  queues_small = only_first _ (lit≤ tt);
  spacings = only_first _ (lit≤ tt);
  bus_streams_some = only_first _ (lit≤ tt);
  few_bus_streams = only_first _ (lit≤ tt);
  streams_there = only_first _ (lit≤ tt);
  streams_of_bus = streams_of v;
  bus_of_streams = bus_of v;
  routers_of_buses = only_first _ (lit≤ tt);
  visited_by_one = by_one v;
  buses_visited = are_visited v;
  streams_on_buses = v.streams_on_buses;
  minimums = v.minimums;
  maximums = v.maximums;
  maximums_small = v.maximums_small;
  jitters_small = v.jitters_small;
  streams_apart = v.streams_apart;
  visits_there = v.visits_there;
  few_visits = v.few_visits;
  visits_on_buses = v.visits_on_buses;
  routers_step = v.routers_step;
  routers_paced = v.routers_paced;
  routers_small = v.routers_small;
  routers_steps_small = v.routers_steps_small;
  routers_able = v.routers_able;
  outputs_step = v.outputs_step;
  outputs_steps_small = v.outputs_steps_small;
  outputs_paced = v.outputs_paced;
  outputs_small = v.outputs_small;
  gaps_some = v.gaps_some;
  outputs_able = v.outputs_able;
  frames = v.frames;
  frames_short = v.frames_short;
  entries_some = v.entries_some;
  few_entries = v.few_entries;
  entries_ascend = v.entries_ascend;
  entries_in_frame = v.entries_in_frame;
  entries_labelled = v.entries_labelled;
  labels_apart = v.labels_apart;
  few_output_labels = v.few_output_labels;
  labels_on_outputs = v.labels_on_outputs;
  labels_in_frames = v.labels_in_frames;
  labels_fit = v.labels_fit;
  sources_some = v.sources_some;
  few_sources = v.few_sources;
  sources_once = v.sources_once;
  sources_there = v.sources_there;
  sources_alike = v.sources_alike;
  stales = v.stales;
  limits = v.limits;
  intervals = v.intervals;
  intervals_small = v.intervals_small;
}

-- ---- the certificate

to_three : (P : ℕ → Type 0) → P 1 → P 2 → P 3 → (w : ℕ) → 1 ≤ w → w ≤ 3 → P w
to_three P p q r zero h k = absurd (omega arith)
to_three P p q r (suc zero) h k = p
to_three P p q r (suc (suc zero)) h k = q
to_three P p q r (suc (suc (suc zero))) h k = r
to_three P p q r (suc (suc (suc (suc w)))) h k = absurd (omega arith)

policed_input : AcceptsInput policed_tables 0 (record { window = 3; backlog = 2; delay = 2 })
unfolding bus_cap bus_floor among
policed_input = record {
  window = record { some = lit≤ tt; most = lit≤ tt; closes = lit≤ tt };
  backlog = record { bounded = to_three _ (lit≤ tt) (lit≤ tt) (lit≤ tt); fits = lit≤ tt };
  delay = record { short = lit≤ tt; bounded = to_three _ (lit≤ tt) (lit≤ tt) (lit≤ tt) };
}

policed_output : AcceptsOutput small_tables 0 (record { window = 3; delay = 2 }) → AcceptsOutput policed_tables 0 (record { window = 3; delay = 2 })
unfolding output_cap
policed_output a = record { window = a.window; delay = a.delay }

policed_label : AcceptsLabel small_tables 0 (numbers_of (small_claims 24)) → AcceptsLabel policed_tables 0 (numbers_of (small_claims 24))
policed_label a = record { gaps = record { not_soon = a.gaps.not_soon; not_late = a.gaps.not_late }; age = record { aged = a.age.aged; limited = a.age.limited }; fresh = a.fresh }

pub policed_accepted : Accepts small_tables (small_claims 24) → Accepts policed_tables (small_claims 24)
policed_accepted a = record {
  named = record {
    inputs = record { sized = refl; same = refl };
    outputs = record { sized = refl; same = refl };
    labels = record { sized = refl; same = refl };
  };
  numbers = record {
    inputs = only_first _ policed_input;
    outputs = only_first _ (policed_output (a.numbers.outputs 0 (lit≤ tt)));
    labels = only_first _ (policed_label (a.numbers.labels 0 (lit≤ tt)));
  };
}

-- ---- the run

pub policed_fits : FitsClock policed_tables small_intervals small_clock
policed_fits = record {
  spacings = only_first _ (lit≤ tt);
  spacings_some = only_first _ (lit≤ tt);
  stream_minimums = first_two _ (lit≤ tt) (lit≤ tt);
  stream_maximums = first_two _ (lit≤ tt) (lit≤ tt);
  stream_jitters = first_two _ (lit≤ tt) (lit≤ tt);
  label_minimums = only_first _ (lit≤ tt);
  label_maximums = only_first _ (lit≤ tt);
}

policed_timing : IsTimed small_clock (old_run 6000)
policed_timing = record { ordered = rising-from (ticks_of (old_run 6000)) refl; placed = placed-from small_clock (old_run 6000) (is_placed-from small_clock 0 (old_run 6000) refl) }

policed_budgets : KeepsBudgets policed_tables (events (old_run 6000))
policed_budgets = record { routers_work = old_budgets.routers_work; routers_rest = old_budgets.routers_rest; outputs_work = old_budgets.outputs_work; outputs_rest = old_budgets.outputs_rest }

policed_sources : KeepsSourcesInTime policed_tables small_intervals (old_run 6000)
policed_sources = record { streams_rest = first_two _ (λ free. absurd cc) (λ free. absurd cc); wires_rest = only_first _ (λ free. absurd cc) }

pub policed_admissible : IsAdmissibleInTime policed_tables small_intervals small_clock (old_run 6000)
policed_admissible = record { timing = policed_timing; numbers = numbers-from policed_tables (events (old_run 6000)) refl; sources = policed_sources; budgets = policed_budgets }

-- ---- the old word

policed_leaves : emission policed_tables (events (old_past 6000)) (Send 0) ≡ Some 0
unfolding emission sent served_in due_by ticks picks
policed_leaves = refl

policed_copied : chosen_source policed_tables 0 (events (old_past 6000) ++ Send 0 ∷ []) ≡ Some (0, 0x600000C1)
unfolding served_in first_place each_place ones_in is_odd reversed ticks picks stamped stream_of is_early would_pass admitted count_in ins passed is_overfull latch entered taken routed_tick arrived_tick latest_number latest_by moves latest fresh chosen_source
policed_copied = refl

policed_came : timed (brought policed_tables 0) (old_past 6000) ≡ (6000, (1, 0xE0000021)) ∷ (6000, (0, 0x600000C1)) ∷ []
unfolding timed each_place ones_in is_odd reversed stream_of is_early would_pass admitted count_in stamped ticks
policed_came = refl

pub policed_word : SendsOld policed_tables 25000 24999 (old_run 6000)
policed_word = record {
  past = old_past 6000;
  rest = [];
  event = (30999, Send 0);
  label = 0;
  word = (0, 0x600000C1);
  came = 6000;
  at = refl;
  leaves = policed_leaves;
  copies = record { copied = policed_copied; arrived = rw policed_came (1, lit≤ tt, refl); before = lit≤ tt; aged = lit≤ tt };
  after = refl;
}
