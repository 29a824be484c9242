-- The diamond is sound, its joint run keeps what is asked, and a word goes through it.
use Rattle.std.proofs.Common.{◌≡◌, false, ℕ, zero, suc, ◌+◌, ◌≤◌, ◌<◌, List, [], ◌∷◌, length, refl, sym, subst, arith, lit≤, inl, inr}
use Rattle.std.specs.List.{Contains}
use Rattle.std.proofs.lemmas.List.Elements.{All-cons, All-nil}
use Rattle.dc_bound.specs.Window.{count_in, HoldAtMost}
use Rattle.dc_bound.specs.Early.{HoldsCap, jitter_cap}
use Rattle.dc_bound.specs.Run.{ticks, picks, stamped}
use Rattle.dc_bound.specs.Places.{served_in, first_place, each_place}
use Rattle.dc_bound.specs.Moves.{ins, passed, is_overfull, latch, entered, taken, routed_tick, arrived_tick, latest_number, latest_by}
use Rattle.dc_bound.specs.Turns.{NeverFall}
use Rattle.dc_bound.specs.lemmas.Counts.{count_in-cons, one_in_cases}
use Rattle.dc_word.specs.Word.{ones_in, is_odd, reversed, body_of, composed_word, copied_word}
use Rattle.dc_word.specs.declared.format.Format.TheVariants.{Bnr}
use Rattle.dc_tables.specs.Declares.{stream_of}
use Rattle.dc_tables.specs.TableRows.{stream_row, label_row, is_policed}
use Rattle.dc_check.specs.Small.{small_tables, small_claims}
use Rattle.dc_check.proofs.Smallest.{small_valid, small_accepted, small_admissible}
use Rattle.dc_event.specs.Admissible.{IsNumbered, IsRun, KeepsBudgets}
use Rattle.dc_event.specs.Buses.{moves}
use Rattle.dc_event.specs.Choice.{fresh, chosen_source}
use Rattle.dc_event.specs.Emissions.{emission}
use Rattle.dc_event.specs.Latest.{latest}
use Rattle.dc_event.specs.Outputs.{due_by, sent}
use Rattle.dc_event.specs.Time.{tick_after, route_ticks, send_ticks}
use Rattle.dc_event.specs.declared.event.Event.{Event}
use Rattle.dc_event.specs.declared.event.Event.TheVariants.{Tick, Arrive, Route, Send}
use Rattle.dc_spans.specs.Spans.{exact_clock}
use Rattle.dc_chain.specs.Carrying.{Carries}
use Rattle.dc_spans.specs.lemmas.Scaling.{exact-paced}
use Rattle.dc_time.specs.Timed.{IsTimed, timed}
use Rattle.dc_time.specs.Intervals.{FitsClock}
use Rattle.dc_time.specs.Sources.{stream_times, bus_times}
use Rattle.dc_time.specs.lemmas.Placing.{placed-from}
use Rattle.dc_chain.specs.Concentrators.{IsLinked, sends_of, arrivals_at}
use Rattle.dc_chain.specs.SmallChain.{small_intervals}
use Rattle.dc_chain.proofs.SmallChains.{small_fit, small_timing, small_wires, small_sources, small_sent, small_came, one_at_most}
use Rattle.dc_network.specs.Networks.{IsFed, Fits, AreWays, way_of}
use Rattle.dc_network.specs.JointRuns.{IsAccepted, IsSound, IsTimely, HaveClocks, IsClockOf, IsJointRun, running, Enters}
use Rattle.dc_network.specs.Diamond.{twin_tables, twin_claims, twin_timed_run, small_member, twin_member, diamond, diamond_connection, diamond_ways, diamond_runs}
use Rattle.dc_network.proofs.Twins.{only_first, first_two, twin_valid, twin_accepted}

four : (P : ℕ → Type 0) → P 0 → P 1 → P 2 → P 3 → (k : ℕ) → k < 4 → P k
four P a b c d zero h = a
four P a b c d (suc zero) h = b
four P a b c d (suc (suc zero)) h = c
four P a b c d (suc (suc (suc zero))) h = d
four P a b c d (suc (suc (suc (suc k)))) h = absurd (omega arith)

-- ---- what is judged

small_to_small : (output bus lag : ℕ) → output < 1 → bus < 1 → Fits small_member small_member (record { output = output; bus = bus; least = lag; most = lag })
small_to_small output bus lag o b = record {
  output_there = o;
  bus_there = b;
  alone = λ x y s f g. (let e : x ≡ 0 = omega (arith, f.label) in let d : y ≡ 0 = omega (arith, g.label) in omega (arith, e, d));
  alike = λ x s f. only_first (λ x. (label_row small_tables x).format ≡ (stream_row small_tables s).format) (first_two (λ s. Bnr ≡ (stream_row small_tables s).format) refl refl s f.stream) x f.label;
  spaced = λ x s f. omega arith;
  lasting = λ x s f. omega arith;
}

small_to_twin : (output bus lag : ℕ) → output < 1 → bus < 2 → Fits small_member twin_member (record { output = output; bus = bus; least = lag; most = lag })
small_to_twin output bus lag o b = record {
  output_there = o;
  bus_there = b;
  alone = λ x y s f g. (let e : x ≡ 0 = omega (arith, f.label) in let d : y ≡ 0 = omega (arith, g.label) in omega (arith, e, d));
  alike = λ x s f. only_first (λ x. (label_row small_tables x).format ≡ (stream_row twin_tables s).format) (first_two (λ s. Bnr ≡ (stream_row twin_tables s).format) refl refl s f.stream) x f.label;
  spaced = λ x s f. omega arith;
  lasting = λ x s f. omega arith;
}

pub diamond_sound : IsSound diamond
diamond_sound = record {
  certified = four (λ i. IsAccepted diamond i)
      (record { valid = small_valid; claims = small_claims 24; accepted = small_accepted; ages = refl })
      (record { valid = small_valid; claims = small_claims 24; accepted = small_accepted; ages = refl })
      (record { valid = small_valid; claims = small_claims 24; accepted = small_accepted; ages = refl })
      (record { valid = twin_valid; claims = twin_claims; accepted = twin_accepted; ages = refl });
  ends = four (λ k. ((diamond.connection k).from < 4) × ((diamond.connection k).to < 4)) (lit≤ tt, lit≤ tt) (lit≤ tt, lit≤ tt) (lit≤ tt, lit≤ tt) (lit≤ tt, lit≤ tt);
  fit = four (λ k. Fits (diamond.member (diamond.connection k).from) (diamond.member (diamond.connection k).to) (diamond.connection k).link)
      (small_to_small 0 0 700 (lit≤ tt) (lit≤ tt)) (small_to_small 0 0 800 (lit≤ tt) (lit≤ tt)) (small_to_twin 0 0 700 (lit≤ tt) (lit≤ tt)) (small_to_twin 0 1 700 (lit≤ tt) (lit≤ tt));
  place = λ i. i;
  order = four (λ k. (diamond.connection k).from < (diamond.connection k).to) (lit≤ tt) (lit≤ tt) (lit≤ tt) (lit≤ tt);
}

pub diamond_are_ways : AreWays diamond diamond_ways
diamond_are_ways i x h there =
    four (λ i. (x : ℕ) → x < length (diamond.member i).rows.labels → diamond_ways i x ≡ way_of diamond diamond_ways i x)
    (only_first (λ x. 25000 ≡ way_of diamond diamond_ways 0 x) refl)
    (only_first (λ x. 50700 ≡ way_of diamond diamond_ways 1 x) refl)
    (only_first (λ x. 50800 ≡ way_of diamond diamond_ways 2 x) refl)
    (only_first (λ x. 76500 ≡ way_of diamond diamond_ways 3 x) refl)
    i h x there

-- ---- the run of the last

twin_fit : FitsClock twin_tables small_intervals (exact_clock 1400 1000)
twin_fit = record {
  spacings = first_two _ (lit≤ tt) (lit≤ tt);
  spacings_some = first_two _ (lit≤ tt) (lit≤ tt);
  stream_minimums = first_two _ (lit≤ tt) (lit≤ tt);
  stream_maximums = first_two _ (lit≤ tt) (lit≤ tt);
  stream_jitters = first_two _ (lit≤ tt) (lit≤ tt);
  label_minimums = only_first _ (lit≤ tt);
  label_maximums = only_first _ (lit≤ tt);
}

twin_timing : IsTimed (exact_clock 1400 1000) twin_timed_run
unfolding NeverFall
twin_timing = record {
  ordered = (lit≤ tt, (lit≤ tt, (lit≤ tt, (lit≤ tt, (lit≤ tt, tt)))));
  placed = placed-from (exact_clock 1400 1000) twin_timed_run
      (record { from = lit≤ tt; to = lit≤ tt }, (record { from = lit≤ tt; to = lit≤ tt }, (record { from = lit≤ tt; to = lit≤ tt }, (record { from = lit≤ tt; to = lit≤ tt }, (record { from = lit≤ tt; to = lit≤ tt }, (refl, tt))))));
}

abbrev twin_run : List Event
twin_run = Arrive 0x600000C1 0 ∷ Arrive 0x600000C1 1 ∷ Route 0 ∷ Route 0 ∷ Send 0 ∷ Tick ∷ []

twin_numbers : IsRun twin_tables twin_run
twin_numbers = All-cons (IsNumbered twin_tables) (Arrive 0x600000C1 0) (Arrive 0x600000C1 1 ∷ Route 0 ∷ Route 0 ∷ Send 0 ∷ Tick ∷ []) (lit≤ tt)
    (All-cons (IsNumbered twin_tables) (Arrive 0x600000C1 1) (Route 0 ∷ Route 0 ∷ Send 0 ∷ Tick ∷ []) (lit≤ tt)
    (All-cons (IsNumbered twin_tables) (Route 0) (Route 0 ∷ Send 0 ∷ Tick ∷ []) (lit≤ tt)
    (All-cons (IsNumbered twin_tables) (Route 0) (Send 0 ∷ Tick ∷ []) (lit≤ tt)
    (All-cons (IsNumbered twin_tables) (Send 0) (Tick ∷ []) (lit≤ tt)
    (All-cons (IsNumbered twin_tables) Tick [] tt (All-nil (IsNumbered twin_tables)))))))

twin_routes : route_ticks 0 twin_run ≡ 0 ∷ 0 ∷ []
unfolding stamped
twin_routes = refl

twin_sends : send_ticks 0 twin_run ≡ 0 ∷ []
unfolding stamped
twin_sends = refl

twin_ticks : tick_after twin_run ≡ 1
unfolding ticks
twin_ticks = refl

route_kept : (u : ℕ) → u + 1 ≤ tick_after twin_run → 2 ≤ count_in u 1 (route_ticks 0 twin_run)
unfolding count_in
route_kept u h = let z : u ≡ 0 = omega (arith, twin_ticks) in rw (z, twin_routes) (lit≤ tt)

two_at_most : (u d t : ℕ) → count_in u d (t ∷ t ∷ []) ≤ 2
two_at_most u d t =
    let all = count_in-cons u d t (t ∷ []) in
    let one = one_at_most u d t in
    elim (one_in_cases u d t) [ inl w ↦ omega (arith, w.2) | inr v ↦ elim v [ inl w ↦ omega (arith, w.1) | inr w ↦ omega (arith, w.1) ] ]

twin_budgets : KeepsBudgets twin_tables twin_run
twin_budgets = record {
  routers_work = only_first _ route_kept;
  routers_rest = only_first _ (λ u. rw twin_routes (two_at_most u 1 0));
  outputs_work = only_first _ (λ u h. absurd (omega (arith, h, twin_ticks)));
  outputs_rest = only_first _ (λ u. rw twin_sends (one_at_most u 1 0));
}

twin_bus_A : bus_times twin_tables 0 twin_timed_run ≡ 1400 ∷ []
unfolding timed each_place ones_in is_odd reversed stream_of
twin_bus_A = refl

twin_bus_B : bus_times twin_tables 1 twin_timed_run ≡ 1500 ∷ []
unfolding timed each_place ones_in is_odd reversed stream_of
twin_bus_B = refl

twin_wires : (b : ℕ) → b < 2 → HoldAtMost 1 (small_intervals.spacing b) (bus_times twin_tables b twin_timed_run)
twin_wires = first_two (λ b. HoldAtMost 1 350 (bus_times twin_tables b twin_timed_run)) (λ u. rw twin_bus_A (one_at_most u 350 1400)) (λ u. rw twin_bus_B (one_at_most u 350 1500))

twin_came_A : arrivals_at (running diamond diamond_runs 3) 0 ≡ (1400, (0, 0x600000C1)) ∷ []
unfolding timed each_place ones_in is_odd reversed stream_of
twin_came_A = refl

twin_came_B : arrivals_at (running diamond diamond_runs 3) 1 ≡ (1500, (1, 0x600000C1)) ∷ []
unfolding timed each_place ones_in is_odd reversed stream_of
twin_came_B = refl

twin_sent : sends_of (running diamond diamond_runs 3) 0 ≡ (1500, (0, 0x600000C1)) ∷ []
unfolding timed emission sent due_by served_in first_place each_place ones_in is_odd reversed ticks picks stamped stream_of ins passed is_overfull latch entered taken routed_tick arrived_tick latest_number latest_by moves latest fresh chosen_source body_of composed_word copied_word
twin_sent = refl

-- ---- the joint run

-- one word that is sent comes
carries_one : (least most : ℕ) (sent came : List (ℕ × (ℕ × ℕ))) (a b x s w : ℕ) → sent ≡ (a, (x, w)) ∷ [] → came ≡ (b, (s, w)) ∷ [] → a + least ≤ b → b ≤ a + most → Carries least most sent came
carries_one least most sent came a b x s w p q low high =
    let P : List (ℕ × (ℕ × ℕ)) → Type 0 = λ z. Carries least most z came in
    let Q : List (ℕ × (ℕ × ℕ)) → Type 0 = λ z. Carries least most ((a, (x, w)) ∷ []) z in
    subst P (sym p) (subst Q (sym q) (inl (record { same = refl; no_sooner = low; no_later = high }, tt)))

abbrev StreamsRest : ℕ → Type 0
StreamsRest i = (s : ℕ) → s < length (diamond.member i).rows.streams → is_policed (diamond.member i).rows (stream_row (diamond.member i).rows s).bus ≡ false
    → (IsFed diamond i (stream_row (diamond.member i).rows s).bus → ⊥)
    → HoldsCap (jitter_cap ((diamond.member i).us.stream_least s) ((diamond.member i).us.stream_jitter s)) (stream_times (diamond.member i).rows s (diamond_runs i).run)

abbrev WiresRest : ℕ → Type 0
WiresRest i = (b : ℕ) → b < length (diamond.member i).rows.buses → is_policed (diamond.member i).rows b ≡ false → HoldAtMost 1 ((diamond.member i).us.spacing b) (bus_times (diamond.member i).rows b (diamond_runs i).run)

-- links lead to both buses of the last
twin_rest : StreamsRest 3
twin_rest zero there free none = absurd (none (record { number = 2; there = lit≤ tt; to = refl; bus = refl }))
twin_rest (suc zero) there free none = absurd (none (record { number = 3; there = lit≤ tt; to = refl; bus = refl }))
twin_rest (suc (suc s)) there free none = absurd (omega arith)

pub diamond_clocks : HaveClocks diamond diamond_runs
diamond_clocks = four (λ i. IsClockOf (diamond.member i) (diamond_runs i).clock)
    (record { paced = exact-paced 0 1000 (lit≤ tt); longest = lit≤ tt; fits = small_fit 0 })
    (record { paced = exact-paced 700 1000 (lit≤ tt); longest = lit≤ tt; fits = small_fit 700 })
    (record { paced = exact-paced 800 1000 (lit≤ tt); longest = lit≤ tt; fits = small_fit 800 })
    (record { paced = exact-paced 1400 1000 (lit≤ tt); longest = lit≤ tt; fits = twin_fit })

pub diamond_joint : IsJointRun diamond diamond_runs
diamond_joint = record {
  timely = four (λ i. IsTimely (diamond.member i).rows (diamond_runs i))
      (record { timing = small_timing 0; numbers = small_admissible.numbers; budgets = small_admissible.budgets })
      (record { timing = small_timing 700; numbers = small_admissible.numbers; budgets = small_admissible.budgets })
      (record { timing = small_timing 800; numbers = small_admissible.numbers; budgets = small_admissible.budgets })
      (record { timing = twin_timing; numbers = twin_numbers; budgets = twin_budgets });
  carried = four (λ k. IsLinked (running diamond diamond_runs (diamond.connection k).from) (diamond.connection k).link (running diamond diamond_runs (diamond.connection k).to))
      (carries_one 700 700 (sends_of (running diamond diamond_runs 0) 0) (arrivals_at (running diamond diamond_runs 1) 0) 0 700 0 0 0x600000C1 (small_sent 0) (small_came 700) (lit≤ tt) (lit≤ tt))
      (carries_one 800 800 (sends_of (running diamond diamond_runs 0) 0) (arrivals_at (running diamond diamond_runs 2) 0) 0 800 0 0 0x600000C1 (small_sent 0) (small_came 800) (lit≤ tt) (lit≤ tt))
      (carries_one 700 700 (sends_of (running diamond diamond_runs 1) 0) (arrivals_at (running diamond diamond_runs 3) 0) 700 1400 0 0 0x600000C1 (small_sent 700) twin_came_A (lit≤ tt) (lit≤ tt))
      (carries_one 700 700 (sends_of (running diamond diamond_runs 2) 0) (arrivals_at (running diamond diamond_runs 3) 1) 800 1500 0 1 0x600000C1 (small_sent 800) twin_came_B (lit≤ tt) (lit≤ tt));
  streams_rest = λ i s h there free none.
      four StreamsRest
      (λ s there free none. (small_sources 0).streams_rest s there free)
      (λ s there free none. (small_sources 700).streams_rest s there free)
      (λ s there free none. (small_sources 800).streams_rest s there free)
      twin_rest
      i h s there free none;
  wires_rest = λ i b h there free.
      four WiresRest
      (λ b there free. small_wires 0 b there)
      (λ b there free. small_wires 700 b there)
      (λ b there free. small_wires 800 b there)
      (λ b there free. twin_wires b there)
      i h b there free;
}

-- ---- a word goes through it

none_to_first : (k : ℕ) → k < 4 → (diamond_connection k).to ≡ 0 → ⊥
none_to_first = four (λ k. (diamond_connection k).to ≡ 0 → ⊥)
    (λ e. let same : 1 ≡ 0 = e in omega (arith, same))
    (λ e. let same : 2 ≡ 0 = e in omega (arith, same))
    (λ e. let same : 3 ≡ 0 = e in omega (arith, same))
    (λ e. let same : 3 ≡ 0 = e in omega (arith, same))

pub diamond_enters : Enters diamond diamond_runs 0 0x600000C1
diamond_enters = record {
  concentrator = 0;
  there = lit≤ tt;
  stream = 0;
  free = λ fed. none_to_first fed.number fed.there fed.to;
  came = (let P : List (ℕ × (ℕ × ℕ)) → Type 0 = λ z. Contains z (0, (0, 0x600000C1)) in subst P (sym (small_came 0)) (0, lit≤ tt, refl));
}

pub diamond_leaves : Contains (sends_of (running diamond diamond_runs 3) 0) (1500, (0, 0x600000C1))
diamond_leaves = let P : List (ℕ × (ℕ × ℕ)) → Type 0 = λ z. Contains z (1500, (0, 0x600000C1)) in subst P (sym twin_sent) (0, lit≤ tt, refl)
