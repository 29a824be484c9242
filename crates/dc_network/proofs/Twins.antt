-- The tables with two buses are valid, and their certificate is accepted.
use Rattle.std.proofs.Common.{◌≡◌, false, ℕ, zero, suc, ◌+◌, ◌≤◌, ◌<◌, [], ◌∷◌, length, refl, sym, subst, arith, lit≤}
use Rattle.std.specs.Prelude.{slice_index_or, slice_index}
use Rattle.std.specs.List.{All}
use Rattle.std.proofs.lemmas.List.Elements.{All-cons, All-nil}
use Rattle.dc_bound.specs.Window.{count_in}
use Rattle.dc_bound.specs.Rounds.{among, greatest_to}
use Rattle.dc_cert.specs.Bounds.{CertificateRows, numbers_of}
use Rattle.dc_transmit.specs.Gaps.{gaps}
use Rattle.dc_check.specs.Accepts.{gaps_of, label_delay, source_delay, Accepts, AcceptsInput, AcceptsOutput, AcceptsLabel}
use Rattle.dc_tables.specs.Sdis.{sdis_meet}
use Rattle.dc_tables.specs.TableRows.{AreValid, bus_row, stream_row, router_row, output_row, entry_row, label_row, visited, bus_cap, bus_floor, output_cap}
use Rattle.dc_network.specs.Diamond.{twin_tables, twin_claims}

pub only_first : (P : ℕ → Type 0) → P 0 → (k : ℕ) → k < 1 → P k
only_first P p zero h = p
only_first P p (suc k) h = absurd (omega arith)

pub first_two : (P : ℕ → Type 0) → P 0 → P 1 → (k : ℕ) → k < 2 → P k
first_two P p q zero h = p
first_two P p q (suc zero) h = q
first_two P p q (suc (suc k)) h = absurd (omega arith)

-- ---- the tables

streams_of_bus : (b s : ℕ) → b < 2 → s < 2 → (stream_row twin_tables s).bus ≡ b → ((bus_row twin_tables b).first ≤ s) × (s < (bus_row twin_tables b).first + (bus_row twin_tables b).streams)
streams_of_bus zero zero h k e = (lit≤ tt, lit≤ tt)
streams_of_bus zero (suc zero) h k e = let same : 1 ≡ 0 = e in absurd (omega (arith, same))
streams_of_bus (suc zero) zero h k e = let same : 0 ≡ 1 = e in absurd (omega (arith, same))
streams_of_bus (suc zero) (suc zero) h k e = (lit≤ tt, lit≤ tt)
streams_of_bus zero (suc (suc s)) h k e = absurd (omega arith)
streams_of_bus (suc zero) (suc (suc s)) h k e = absurd (omega arith)
streams_of_bus (suc (suc b)) s h k e = absurd (omega arith)

bus_of_streams : (b s : ℕ) → b < 2 → (bus_row twin_tables b).first ≤ s → s < (bus_row twin_tables b).first + (bus_row twin_tables b).streams → (stream_row twin_tables s).bus ≡ b
bus_of_streams zero zero h from to = refl
bus_of_streams zero (suc s) h from to = let less : suc s < 1 = to in absurd (omega (arith, less))
bus_of_streams (suc zero) zero h from to = let less : 1 ≤ 0 = from in absurd (omega (arith, less))
bus_of_streams (suc zero) (suc zero) h from to = refl
bus_of_streams (suc zero) (suc (suc s)) h from to = let less : suc (suc s) < 2 = to in absurd (omega (arith, less))
bus_of_streams (suc (suc b)) s h from to = absurd (omega arith)

visited_by_one : (b r : ℕ) → b < 2 → r < 1 → r ≡ (bus_row twin_tables b).router
visited_by_one zero zero h k = refl
visited_by_one (suc zero) zero h k = refl
visited_by_one (suc (suc b)) zero h k = absurd (omega arith)
visited_by_one b (suc r) h k = absurd (omega arith)

visits_on_buses : (r n : ℕ) → r < 1 → slice_index_or (router_row twin_tables r).visits n 0 < 2
visits_on_buses zero zero h = lit≤ tt
visits_on_buses zero (suc zero) h = lit≤ tt
visits_on_buses zero (suc (suc n)) h = lit≤ tt
visits_on_buses (suc r) n h = absurd (omega arith)

sources_alike : (x k : ℕ) → x < 1 → k < length (label_row twin_tables x).sources → (stream_row twin_tables (slice_index (label_row twin_tables x).sources k)).format ≡ (label_row twin_tables x).format
sources_alike zero zero h l = refl
sources_alike zero (suc zero) h l = refl
sources_alike zero (suc (suc k)) h l = absurd (omega arith)
sources_alike (suc x) k h l = absurd (omega arith)

streams_apart : (s u : ℕ) → u < s → s < 2 → (stream_row twin_tables s).bus ≡ (stream_row twin_tables u).bus → (stream_row twin_tables s).label ≡ (stream_row twin_tables u).label → sdis_meet (stream_row twin_tables s).sdi (stream_row twin_tables u).sdi ≡ false
streams_apart zero u h k bus label = absurd (omega arith)
streams_apart (suc zero) zero h k bus label = let same : 1 ≡ 0 = bus in absurd (omega (arith, same))
streams_apart (suc zero) (suc u) h k bus label = absurd (omega arith)
streams_apart (suc (suc s)) u h k bus label = absurd (omega arith)

buses_visited : (b : ℕ) → b < 2 → (n : ℕ) × (visited twin_tables (bus_row twin_tables b).router n ≡ b)
buses_visited zero h = (0, refl)
buses_visited (suc zero) h = (1, refl)
buses_visited (suc (suc b)) h = absurd (omega arith)

entries_ascend : (o i j : ℕ) → o < 1 → i < j → j < length (output_row twin_tables o).entries → (entry_row twin_tables o i).offset < (entry_row twin_tables o j).offset
entries_ascend zero i j h k l = absurd (omega arith)
entries_ascend (suc o) i j h k l = absurd (omega arith)

entries_in_frame : (o i : ℕ) → o < 1 → i < length (output_row twin_tables o).entries → (entry_row twin_tables o i).offset < (output_row twin_tables o).frame
entries_in_frame zero zero h k = lit≤ tt
entries_in_frame zero (suc i) h k = absurd (omega arith)
entries_in_frame (suc o) i h k = absurd (omega arith)

entries_labelled : (o i : ℕ) → o < 1 → i < length (output_row twin_tables o).entries → ((entry_row twin_tables o i).label < 1) × ((label_row twin_tables (entry_row twin_tables o i).label).output ≡ o)
entries_labelled zero zero h k = (lit≤ tt, refl)
entries_labelled zero (suc i) h k = absurd (omega arith)
entries_labelled (suc o) i h k = absurd (omega arith)

labels_in_frames : (x : ℕ) → x < 1 → (i : ℕ) × (i < length (output_row twin_tables (label_row twin_tables x).output).entries) × ((entry_row twin_tables (label_row twin_tables x).output i).label ≡ x)
labels_in_frames zero h = (0, lit≤ tt, refl)
labels_in_frames (suc x) h = absurd (omega arith)

sources_once : (x i j : ℕ) → x < 1 → i < length (label_row twin_tables x).sources → j < length (label_row twin_tables x).sources → slice_index (label_row twin_tables x).sources i ≡ slice_index (label_row twin_tables x).sources j → i ≡ j
sources_once zero zero zero h k l e = refl
sources_once zero (suc zero) (suc zero) h k l e = refl
sources_once zero zero (suc zero) h k l e = e
sources_once zero (suc zero) zero h k l e = e
sources_once zero zero (suc (suc j)) h k l e = absurd (omega arith)
sources_once zero (suc zero) (suc (suc j)) h k l e = absurd (omega arith)
sources_once zero (suc (suc i)) j h k l e = absurd (omega arith)
sources_once (suc x) i j h k l e = absurd (omega arith)

labels_apart : (x y : ℕ) → x < 1 → y < 1 → x ≡ y
labels_apart zero zero h k = refl
labels_apart zero (suc y) h k = absurd (omega arith)
labels_apart (suc x) y h k = absurd (omega arith)

sources_there : (x k : ℕ) → x < 1 → k < length (label_row twin_tables x).sources → slice_index (label_row twin_tables x).sources k < 2
sources_there zero zero h k = lit≤ tt
sources_there zero (suc zero) h k = lit≤ tt
sources_there zero (suc (suc n)) h k = absurd (omega arith)
sources_there (suc x) n h k = absurd (omega arith)

pub twin_valid : AreValid twin_tables
twin_valid = record {
  ticks_short = lit≤ tt;
  ticks_some = lit≤ tt;
  few_buses = lit≤ tt;
  few_routers = lit≤ tt;
  few_outputs = lit≤ tt;
  few_streams = lit≤ tt;
  few_labels = lit≤ tt;
  queues_some = first_two _ (lit≤ tt) (lit≤ tt);
  queues_small = first_two _ (lit≤ tt) (lit≤ tt);
  spacings = first_two _ (lit≤ tt) (lit≤ tt);
  bus_streams_some = first_two _ (lit≤ tt) (lit≤ tt);
  few_bus_streams = first_two _ (lit≤ tt) (lit≤ tt);
  streams_there = first_two _ (lit≤ tt) (lit≤ tt);
  streams_of_bus = streams_of_bus;
  bus_of_streams = bus_of_streams;
  routers_of_buses = first_two _ (lit≤ tt) (lit≤ tt);
  visited_by_one = λ b r n h k e. visited_by_one b r h k;
  buses_visited = buses_visited;
  streams_on_buses = first_two _ (lit≤ tt) (lit≤ tt);
  minimums = first_two _ (lit≤ tt) (lit≤ tt);
  maximums = first_two _ (lit≤ tt) (lit≤ tt);
  maximums_small = first_two _ (lit≤ tt) (lit≤ tt);
  jitters_small = first_two _ (lit≤ tt) (lit≤ tt);
  streams_apart = streams_apart;
  visits_there = only_first _ (lit≤ tt);
  few_visits = only_first _ (lit≤ tt);
  visits_on_buses = visits_on_buses;
  routers_step = only_first _ (lit≤ tt, lit≤ tt);
  routers_paced = only_first _ (lit≤ tt);
  routers_small = only_first _ (lit≤ tt, lit≤ tt);
  routers_steps_small = only_first _ (lit≤ tt);
  routers_able = only_first _ (lit≤ tt);
  outputs_step = only_first _ (lit≤ tt);
  outputs_steps_small = only_first _ (lit≤ tt);
  outputs_paced = only_first _ (lit≤ tt);
  outputs_small = only_first _ (lit≤ tt);
  gaps_some = only_first _ (lit≤ tt);
  outputs_able = only_first _ (lit≤ tt);
  frames = only_first _ (lit≤ tt);
  frames_short = only_first _ (lit≤ tt);
  entries_some = only_first _ (lit≤ tt);
  few_entries = only_first _ (lit≤ tt);
  entries_ascend = entries_ascend;
  entries_in_frame = entries_in_frame;
  entries_labelled = entries_labelled;
  labels_apart = λ x y h k output label sdi. labels_apart x y h k;
  few_output_labels = only_first _ (lit≤ tt);
  labels_on_outputs = only_first _ (lit≤ tt);
  labels_in_frames = labels_in_frames;
  labels_fit = only_first _ (lit≤ tt, lit≤ tt);
  sources_some = only_first _ (lit≤ tt);
  few_sources = only_first _ (lit≤ tt);
  sources_once = sources_once;
  sources_there = sources_there;
  sources_alike = sources_alike;
  stales = only_first _ (lit≤ tt, lit≤ tt);
  limits = only_first _ (lit≤ tt, lit≤ tt);
  intervals = only_first _ (lit≤ tt);
  intervals_small = only_first _ (lit≤ tt);
}

-- ---- the certificate

to_three : (P : ℕ → Type 0) → P 1 → P 2 → P 3 → (w : ℕ) → 1 ≤ w → w ≤ 3 → P w
to_three P p q r zero h k = absurd (omega arith)
to_three P p q r (suc zero) h k = p
to_three P p q r (suc (suc zero)) h k = q
to_three P p q r (suc (suc (suc zero))) h k = r
to_three P p q r (suc (suc (suc (suc w)))) h k = absurd (omega arith)

twin_input_A : AcceptsInput twin_tables 0 (record { window = 3; backlog = 2; delay = 2 })
unfolding bus_cap bus_floor among
twin_input_A = record {
  window = record { some = lit≤ tt; most = lit≤ tt; closes = lit≤ tt };
  backlog = record { bounded = to_three _ (lit≤ tt) (lit≤ tt) (lit≤ tt); fits = lit≤ tt };
  delay = record { short = lit≤ tt; bounded = to_three _ (lit≤ tt) (lit≤ tt) (lit≤ tt) };
}

twin_input_B : AcceptsInput twin_tables 1 (record { window = 3; backlog = 2; delay = 2 })
unfolding bus_cap bus_floor among
twin_input_B = record {
  window = record { some = lit≤ tt; most = lit≤ tt; closes = lit≤ tt };
  backlog = record { bounded = to_three _ (lit≤ tt) (lit≤ tt) (lit≤ tt); fits = lit≤ tt };
  delay = record { short = lit≤ tt; bounded = to_three _ (lit≤ tt) (lit≤ tt) (lit≤ tt) };
}

twin_output_O : AcceptsOutput twin_tables 0 (record { window = 3; delay = 2 })
unfolding output_cap among greatest_to count_in
twin_output_O = record {
  window = record { some = lit≤ tt; most = lit≤ tt; closes = lit≤ tt };
  delay = record { short = lit≤ tt; bounded = to_three _ (lit≤ tt) (lit≤ tt) (lit≤ tt) };
}

only_one : {X : Type 0} (P : X → Type 0) (x : X) → P x → All P (x ∷ [])
only_one P x p = All-cons P x [] p (All-nil P)

both : (P : ℕ → Type 0) → P 0 → P 1 → All P (0 ∷ 1 ∷ [])
both P p q = All-cons P 0 (1 ∷ []) p (only_one P 1 q)

twin_gaps : gaps_of twin_tables 0 ≡ 15 ∷ []
unfolding gaps
twin_gaps = refl

abbrev twin_rows : CertificateRows
twin_rows = numbers_of twin_claims

twin_label_x : AcceptsLabel twin_tables 0 twin_rows
twin_label_x = record {
  gaps = record {
    not_soon = subst (All (λ g. (label_row twin_tables 0).minimum + label_delay twin_tables twin_rows 0 ≤ g)) (sym twin_gaps)
        (only_one (λ g. (label_row twin_tables 0).minimum + label_delay twin_tables twin_rows 0 ≤ g) 15 (lit≤ tt));
    not_late = subst (All (λ g. g + label_delay twin_tables twin_rows 0 ≤ (label_row twin_tables 0).maximum)) (sym twin_gaps)
        (only_one (λ g. g + label_delay twin_tables twin_rows 0 ≤ (label_row twin_tables 0).maximum) 15 (lit≤ tt));
  };
  age = record {
    aged = both (λ s. (label_row twin_tables 0).stale + source_delay twin_tables twin_rows s ≤ slice_index twin_rows.ages 0) (lit≤ tt) (lit≤ tt);
    limited = lit≤ tt;
  };
  fresh = both (λ s. source_delay twin_tables twin_rows s + (stream_row twin_tables s).maximum ≤ (label_row twin_tables 0).stale) (lit≤ tt) (lit≤ tt);
}

pub twin_accepted : Accepts twin_tables twin_claims
twin_accepted = record {
  named = record {
    inputs = record { sized = refl; same = refl };
    outputs = record { sized = refl; same = refl };
    labels = record { sized = refl; same = refl };
  };
  numbers = record { inputs = first_two _ twin_input_A twin_input_B; outputs = only_first _ twin_output_O; labels = only_first _ twin_label_x };
}
