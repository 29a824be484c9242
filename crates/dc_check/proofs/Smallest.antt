-- The small tables are valid, their certificate is accepted, and a run of them is admissible and sends a copy.
use Rattle.std.proofs.Common.{◌≡◌, false, ℕ, zero, suc, ◌+◌, ◌≤◌, ◌<◌, Some, [], ◌∷◌, length, refl, sym, subst, arith, lit≤, inl, inr}
use Rattle.std.specs.Prelude.{slice_index_or, slice_index}
use Rattle.std.specs.List.{All}
use Rattle.std.proofs.lemmas.List.Elements.{All-cons, All-nil}
use Rattle.dc_bound.specs.Window.{count_in}
use Rattle.dc_bound.specs.Run.{ticks, picks, stamped}
use Rattle.dc_bound.specs.Places.{served_in, first_place, each_place}
use Rattle.dc_bound.specs.Moves.{ins, passed, is_overfull, latch, entered, taken, routed_tick, arrived_tick, latest_number, latest_by}
use Rattle.dc_bound.specs.Rounds.{among, greatest_to}
use Rattle.dc_bound.specs.lemmas.Counts.{count_in-cons, count_in-nil, one_in_cases}
use Rattle.dc_bound.specs.lemmas.Caps.{holds_cap-none}
use Rattle.dc_cert.specs.Bounds.{CertificateRows, numbers_of}
use Rattle.dc_transmit.specs.Gaps.{gaps}
use Rattle.dc_check.specs.Accepts.{gaps_of, label_delay, source_delay, Accepts, AcceptsInput, AcceptsOutput, AcceptsLabel}
use Rattle.dc_check.specs.Small.{small_tables, small_claims, small_run, SendsCopy}
use Rattle.dc_event.specs.Admissible.{IsNumbered, IsRun, IsAdmissible}
use Rattle.dc_event.specs.Buses.{bus_arrivals, arrivals, moves}
use Rattle.dc_event.specs.Choice.{fresh, chosen_source}
use Rattle.dc_event.specs.Emissions.{emission}
use Rattle.dc_event.specs.Latest.{latest}
use Rattle.dc_event.specs.Outputs.{due_by, sent}
use Rattle.dc_event.specs.Time.{tick_after, route_ticks, send_ticks}
use Rattle.dc_event.specs.declared.event.Event.TheVariants.{Tick, Arrive, Route, Send}
use Rattle.dc_tables.specs.Sdis.{sdis_meet}
use Rattle.dc_tables.specs.Declares.{stream_of}
use Rattle.dc_tables.specs.TableRows.{AreValid, bus_row, stream_row, router_row, output_row, entry_row, label_row, visited, bus_cap, bus_floor, output_cap}
use Rattle.dc_word.specs.Word.{ones_in, is_odd, reversed}

-- what holds of the first number holds of each below 1; of the first two, of each below 2
only_first : (P : ℕ → Type 0) → P 0 → (k : ℕ) → k < 1 → P k
only_first P p zero h = p
only_first P p (suc k) h = absurd (omega arith)

first_two : (P : ℕ → Type 0) → P 0 → P 1 → (k : ℕ) → k < 2 → P k
first_two P p q zero h = p
first_two P p q (suc zero) h = q
first_two P p q (suc (suc k)) h = absurd (omega arith)

-- ---- the tables

streams_of_bus : (b s : ℕ) → b < 1 → s < 2 → (stream_row small_tables s).bus ≡ b → ((bus_row small_tables b).first ≤ s) × (s < (bus_row small_tables b).first + (bus_row small_tables b).streams)
streams_of_bus zero s h k e = (omega arith, omega (arith, k))
streams_of_bus (suc b) s h k e = absurd (omega arith)

bus_of_streams : (b s : ℕ) → b < 1 → (bus_row small_tables b).first ≤ s → s < (bus_row small_tables b).first + (bus_row small_tables b).streams → (stream_row small_tables s).bus ≡ b
bus_of_streams zero s h from to = first_two (λ k. (stream_row small_tables k).bus ≡ 0) refl refl s (omega (arith, to))
bus_of_streams (suc b) s h from to = absurd (omega arith)

visited_by_one : (b r : ℕ) → b < 1 → r < 1 → r ≡ (bus_row small_tables b).router
visited_by_one zero zero h k = refl
visited_by_one zero (suc r) h k = absurd (omega arith)
visited_by_one (suc b) r h k = absurd (omega arith)

visits_on_buses : (r n : ℕ) → r < 1 → slice_index_or (router_row small_tables r).visits n 0 < 1
visits_on_buses zero zero h = lit≤ tt
visits_on_buses zero (suc n) h = lit≤ tt
visits_on_buses (suc r) n h = absurd (omega arith)

sources_alike : (x k : ℕ) → x < 1 → k < length (label_row small_tables x).sources → (stream_row small_tables (slice_index (label_row small_tables x).sources k)).format ≡ (label_row small_tables x).format
sources_alike zero zero h l = refl
sources_alike zero (suc k) h l = absurd (omega arith)
sources_alike (suc x) k h l = absurd (omega arith)

streams_apart : (s u : ℕ) → u < s → s < 2 → (stream_row small_tables s).bus ≡ (stream_row small_tables u).bus → (stream_row small_tables s).label ≡ (stream_row small_tables u).label → sdis_meet (stream_row small_tables s).sdi (stream_row small_tables u).sdi ≡ false
streams_apart zero u h k bus label = absurd (omega arith)
streams_apart (suc zero) zero h k bus label = let same : 132 ≡ 131 = label in absurd (omega (arith, same))
streams_apart (suc zero) (suc u) h k bus label = absurd (omega arith)
streams_apart (suc (suc s)) u h k bus label = absurd (omega arith)

buses_visited : (b : ℕ) → b < 1 → (n : ℕ) × (visited small_tables (bus_row small_tables b).router n ≡ b)
buses_visited zero h = (0, refl)
buses_visited (suc b) h = absurd (omega arith)

entries_ascend : (o i j : ℕ) → o < 1 → i < j → j < length (output_row small_tables o).entries → (entry_row small_tables o i).offset < (entry_row small_tables o j).offset
entries_ascend zero i j h k l = absurd (omega arith)
entries_ascend (suc o) i j h k l = absurd (omega arith)

entries_in_frame : (o i : ℕ) → o < 1 → i < length (output_row small_tables o).entries → (entry_row small_tables o i).offset < (output_row small_tables o).frame
entries_in_frame zero zero h k = lit≤ tt
entries_in_frame zero (suc i) h k = absurd (omega arith)
entries_in_frame (suc o) i h k = absurd (omega arith)

entries_labelled : (o i : ℕ) → o < 1 → i < length (output_row small_tables o).entries → ((entry_row small_tables o i).label < 1) × ((label_row small_tables (entry_row small_tables o i).label).output ≡ o)
entries_labelled zero zero h k = (lit≤ tt, refl)
entries_labelled zero (suc i) h k = absurd (omega arith)
entries_labelled (suc o) i h k = absurd (omega arith)

labels_in_frames : (x : ℕ) → x < 1 → (i : ℕ) × (i < length (output_row small_tables (label_row small_tables x).output).entries) × ((entry_row small_tables (label_row small_tables x).output i).label ≡ x)
labels_in_frames zero h = (0, lit≤ tt, refl)
labels_in_frames (suc x) h = absurd (omega arith)

sources_once : (x i j : ℕ) → x < 1 → i < length (label_row small_tables x).sources → j < length (label_row small_tables x).sources → slice_index (label_row small_tables x).sources i ≡ slice_index (label_row small_tables x).sources j → i ≡ j
sources_once zero zero zero h k l e = refl
sources_once zero zero (suc j) h k l e = absurd (omega arith)
sources_once zero (suc i) j h k l e = absurd (omega arith)
sources_once (suc x) i j h k l e = absurd (omega arith)

labels_apart : (x y : ℕ) → x < 1 → y < 1 → x ≡ y
labels_apart zero zero h k = refl
labels_apart zero (suc y) h k = absurd (omega arith)
labels_apart (suc x) y h k = absurd (omega arith)

sources_there : (x k : ℕ) → x < 1 → k < length (label_row small_tables x).sources → slice_index (label_row small_tables x).sources k < 2
sources_there zero zero h k = lit≤ tt
sources_there zero (suc n) h k = absurd (omega arith)
sources_there (suc x) n h k = absurd (omega arith)

pub small_valid : AreValid small_tables
small_valid = record {
  ticks_short = lit≤ tt;
  ticks_some = lit≤ tt;
  few_buses = lit≤ tt;
  few_routers = lit≤ tt;
  few_outputs = lit≤ tt;
  few_streams = lit≤ tt;
  few_labels = lit≤ tt;
  queues_some = only_first _ (lit≤ tt);
  queues_small = only_first _ (lit≤ tt);
  spacings = only_first _ (lit≤ tt);
  bus_streams_some = only_first _ (lit≤ tt);
  few_bus_streams = only_first _ (lit≤ tt);
  streams_there = only_first _ (lit≤ tt);
  streams_of_bus = streams_of_bus;
  bus_of_streams = bus_of_streams;
  routers_of_buses = only_first _ (lit≤ tt);
  visited_by_one = λ b r n h k e. visited_by_one b r h k;
  buses_visited = buses_visited;
  streams_on_buses = first_two _ (lit≤ tt) (lit≤ tt);
  minimums = first_two _ (lit≤ tt) (lit≤ tt);
  maximums = first_two _ (lit≤ tt) (lit≤ tt);
  maximums_small = first_two _ (lit≤ tt) (lit≤ tt);
  jitters_small = first_two _ (lit≤ tt) (lit≤ tt);
  streams_apart = streams_apart;
  visits_there = only_first _ (lit≤ tt);
  few_visits = only_first _ (lit≤ tt);
  visits_on_buses = visits_on_buses;
  routers_step = only_first _ (lit≤ tt, lit≤ tt);
  routers_paced = only_first _ (lit≤ tt);
  routers_small = only_first _ (lit≤ tt, lit≤ tt);
  routers_steps_small = only_first _ (lit≤ tt);
  routers_able = only_first _ (lit≤ tt);
  outputs_step = only_first _ (lit≤ tt);
  outputs_steps_small = only_first _ (lit≤ tt);
  outputs_paced = only_first _ (lit≤ tt);
  outputs_small = only_first _ (lit≤ tt);
  gaps_some = only_first _ (lit≤ tt);
  outputs_able = only_first _ (lit≤ tt);
  frames = only_first _ (lit≤ tt);
  frames_short = only_first _ (lit≤ tt);
  entries_some = only_first _ (lit≤ tt);
  few_entries = only_first _ (lit≤ tt);
  entries_ascend = entries_ascend;
  entries_in_frame = entries_in_frame;
  entries_labelled = entries_labelled;
  labels_apart = λ x y h k output label sdi. labels_apart x y h k;
  few_output_labels = only_first _ (lit≤ tt);
  labels_on_outputs = only_first _ (lit≤ tt);
  labels_in_frames = labels_in_frames;
  labels_fit = only_first _ (lit≤ tt, lit≤ tt);
  sources_some = only_first _ (lit≤ tt);
  few_sources = only_first _ (lit≤ tt);
  sources_once = sources_once;
  sources_there = sources_there;
  sources_alike = sources_alike;
  stales = only_first _ (lit≤ tt, lit≤ tt);
  limits = only_first _ (lit≤ tt, lit≤ tt);
  intervals = only_first _ (lit≤ tt);
  intervals_small = only_first _ (lit≤ tt);
}

-- ---- the certificate

to_three : (P : ℕ → Type 0) → P 1 → P 2 → P 3 → (w : ℕ) → 1 ≤ w → w ≤ 3 → P w
to_three P p q r zero h k = absurd (omega arith)
to_three P p q r (suc zero) h k = p
to_three P p q r (suc (suc zero)) h k = q
to_three P p q r (suc (suc (suc zero))) h k = r
to_three P p q r (suc (suc (suc (suc w)))) h k = absurd (omega arith)

small_input : AcceptsInput small_tables 0 (record { window = 3; backlog = 2; delay = 2 })
unfolding bus_cap bus_floor among
small_input = record {
  window = record { some = lit≤ tt; most = lit≤ tt; closes = lit≤ tt };
  backlog = record { bounded = to_three _ (lit≤ tt) (lit≤ tt) (lit≤ tt); fits = lit≤ tt };
  delay = record { short = lit≤ tt; bounded = to_three _ (lit≤ tt) (lit≤ tt) (lit≤ tt) };
}

small_output : AcceptsOutput small_tables 0 (record { window = 3; delay = 2 })
unfolding output_cap among greatest_to count_in
small_output = record {
  window = record { some = lit≤ tt; most = lit≤ tt; closes = lit≤ tt };
  delay = record { short = lit≤ tt; bounded = to_three _ (lit≤ tt) (lit≤ tt) (lit≤ tt) };
}

only_one : {X : Type 0} (P : X → Type 0) (x : X) → P x → All P (x ∷ [])
only_one P x p = All-cons P x [] p (All-nil P)

small_gaps : gaps_of small_tables 0 ≡ 15 ∷ []
unfolding gaps
small_gaps = refl

abbrev small_rows : CertificateRows
small_rows = numbers_of (small_claims 24)

small_label : AcceptsLabel small_tables 0 small_rows
small_label = record {
  gaps = record {
    not_soon = subst (All (λ g. (label_row small_tables 0).minimum + label_delay small_tables small_rows 0 ≤ g)) (sym small_gaps)
        (only_one (λ g. (label_row small_tables 0).minimum + label_delay small_tables small_rows 0 ≤ g) 15 (lit≤ tt));
    not_late = subst (All (λ g. g + label_delay small_tables small_rows 0 ≤ (label_row small_tables 0).maximum)) (sym small_gaps)
        (only_one (λ g. g + label_delay small_tables small_rows 0 ≤ (label_row small_tables 0).maximum) 15 (lit≤ tt));
  };
  age = record {
    aged = only_one (λ s. (label_row small_tables 0).stale + source_delay small_tables small_rows s ≤ slice_index small_rows.ages 0) 0 (lit≤ tt);
    limited = lit≤ tt;
  };
  fresh = only_one (λ s. source_delay small_tables small_rows s + (stream_row small_tables s).maximum ≤ (label_row small_tables 0).stale) 0 (lit≤ tt);
}

pub small_accepted : Accepts small_tables (small_claims 24)
small_accepted = record {
  named = record {
    inputs = record { sized = refl; same = refl };
    outputs = record { sized = refl; same = refl };
    labels = record { sized = refl; same = refl };
  };
  numbers = record { inputs = only_first _ small_input; outputs = only_first _ small_output; labels = only_first _ small_label };
}

-- a lesser age is not accepted
pub small_least : (age : ℕ) → Accepts small_tables (small_claims age) → 24 ≤ age
small_least age ok = let h : 24 ≤ age = (ok.numbers.labels 0 (lit≤ tt)).age.aged 0 0 (lit≤ tt) in h

-- ---- the run

one_at_most : (u d t : ℕ) → count_in u d (t ∷ []) ≤ 1
one_at_most u d t =
    let all = count_in-cons u d t [] in
    let none = count_in-nil u d in
    elim (one_in_cases u d t) [ inl w ↦ omega (arith, w.2) | inr v ↦ elim v [ inl w ↦ omega (arith, w.1) | inr w ↦ omega (arith, w.1) ] ]

small_arrivals : bus_arrivals small_tables 0 small_run ≡ (0, 0) ∷ []
unfolding each_place ones_in is_odd reversed ticks picks stamped stream_of moves
small_arrivals = refl

small_others : arrivals small_tables 1 small_run ≡ []
unfolding each_place ones_in is_odd reversed ticks picks stamped stream_of moves
small_others = refl

small_routes : route_ticks 0 small_run ≡ 0 ∷ []
unfolding stamped
small_routes = refl

small_sends : send_ticks 0 small_run ≡ 0 ∷ []
unfolding stamped
small_sends = refl

small_ticks : tick_after small_run ≡ 1
unfolding ticks
small_ticks = refl

small_numbers : IsRun small_tables small_run
small_numbers = All-cons (IsNumbered small_tables) (Arrive 0x600000C1 0) (Route 0 ∷ Send 0 ∷ Tick ∷ []) (lit≤ tt)
    (All-cons (IsNumbered small_tables) (Route 0) (Send 0 ∷ Tick ∷ []) (lit≤ tt)
    (All-cons (IsNumbered small_tables) (Send 0) (Tick ∷ []) (lit≤ tt)
    (All-cons (IsNumbered small_tables) Tick [] tt (All-nil (IsNumbered small_tables)))))

route_kept : (u : ℕ) → u + 1 ≤ tick_after small_run → 1 ≤ count_in u 1 (route_ticks 0 small_run)
unfolding count_in
route_kept u h = let z : u ≡ 0 = omega (arith, small_ticks) in rw (z, small_routes) (lit≤ tt)

pub small_admissible : IsAdmissible small_tables small_run
small_admissible = record {
  numbers = small_numbers;
  sources = record {
    streams_rest = first_two _
        (λ free. (holds_cap-none 10 (lit≤ tt) (arrivals small_tables 0 small_run)).1 (λ u. rw small_arrivals (one_at_most u 10 0)))
        (λ free. (holds_cap-none 10 (lit≤ tt) (arrivals small_tables 1 small_run)).1 (λ u. rw small_others (omega (arith, count_in-nil u 10))));
    wires_rest = only_first _ (λ free d h u. rw small_arrivals (omega (arith, one_at_most u d 0)));
  };
  budgets = record {
    routers_work = only_first _ route_kept;
    routers_rest = only_first _ (λ u. rw small_routes (omega (arith, one_at_most u 1 0)));
    outputs_work = only_first _ (λ u h. absurd (omega (arith, h, small_ticks)));
    outputs_rest = only_first _ (λ u. rw small_sends (one_at_most u 1 0));
  };
}

small_leaves : emission small_tables (Arrive 0x600000C1 0 ∷ Route 0 ∷ []) (Send 0) ≡ Some 0
unfolding emission sent served_in due_by ticks picks
small_leaves = refl

small_copied : chosen_source small_tables 0 (Arrive 0x600000C1 0 ∷ Route 0 ∷ Send 0 ∷ []) ≡ Some (0, 0x600000C1)
unfolding served_in first_place each_place ones_in is_odd reversed ticks picks stamped stream_of ins passed is_overfull latch entered taken routed_tick arrived_tick latest_number latest_by moves latest fresh chosen_source
small_copied = refl

pub small_copies : SendsCopy small_tables small_run
small_copies = record { past = Arrive 0x600000C1 0 ∷ Route 0 ∷ []; rest = Tick ∷ []; output = 0; label = 0; word = (0, 0x600000C1); at = refl; leaves = small_leaves; copied = small_copied }
