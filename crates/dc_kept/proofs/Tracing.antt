-- The run that a kept capture makes.
use Rattle.std.proofs.Common.{◌≡◌, ℕ, suc, ◌+◌, ◌-◌, ◌*◌, ◌≤◌, ◌<◌, Bool, true, false, cond, is_some, Option, Some, None, List, [], ◌∷◌, ◌++◌, length, filter, map, refl, sym, ap, ◌∙◌, subst, arith}
use Rattle.std.specs.List.{All}
use Rattle.std.proofs.Math.Nat.{div-mul-le_self, div-add-mod', mod-lt}
use Rattle.std.proofs.lemmas.List.{append-nil}
use Rattle.std.proofs.lemmas.List.Elements.{filter-append, All-head, All-tail, All-cons}
use Rattle.dc_bound.specs.Early.{HoldsCap, jitter_cap}
use Rattle.dc_bound.specs.Run.{ticks, stamp, stamped}
use Rattle.dc_bound.specs.Turns.{NeverFall}
use Rattle.dc_bound.specs.Window.{HoldAtMost, HoldsWire, ticks_of}
use Rattle.dc_bound.specs.lemmas.FirstPlaces.{snoc_induction}
use Rattle.dc_bound.specs.lemmas.Steps.{stamped-append, ticks_of-append}
use Rattle.dc_event.specs.Admissible.{KeepsSources}
use Rattle.dc_event.specs.Buses.{bus_arrivals, arrivals}
use Rattle.dc_event.specs.Offers.{cap_of, offer_of, only}
use Rattle.dc_event.specs.Time.{ends, tick_after}
use Rattle.dc_event.specs.declared.event.Event.{Event}
use Rattle.dc_event.specs.declared.event.Event.TheVariants.{Tick, Arrive, Route, Send}
use Rattle.dc_event.specs.lemmas.Arrivals.{arrivals-nil, bus_arrivals-nil, bus_ticks-more, let_in-all, ticks-more, with_one}
use Rattle.dc_gauge.specs.declared.timing.StreamTiming.{StreamTiming}
use Rattle.dc_kept.specs.Recorded.{AreTimings, KeepsDeclared}
use Rattle.dc_kept.proofs.Keeping.{bus_test, paced, picked-filter, stream_test}
use Rattle.dc_spans.specs.Laws.{SpansBecomeWindows}
use Rattle.dc_spans.specs.Spans.{exact_clock, AreTimesOf}
use Rattle.dc_survey.specs.Captures.{of_stream, offered_on, picked}
use Rattle.dc_tables.specs.TableRows.{TableRows, AreValid, bus_row, stream_row, is_policed}
use Rattle.dc_time.specs.Intervals.{Intervals, FitsClock}
use Rattle.dc_trace.specs.Laws.{TracesBringTheCapture}
use Rattle.dc_trace.specs.Traces.{brought, tick_at, traced}

abbrev Words : Type 0
Words = List (ℕ × (ℕ × ℕ))

-- ---- what a run brings, by its ticks

brought-push : (run : List Event) (e : Event) → stamped ends brought 0 (run ++ e ∷ []) ≡ stamped ends brought 0 run ++ stamp (tick_after run) (brought e) []
unfolding stamped
brought-push run e = stamped-append ends brought 0 run (e ∷ []) ∙ (let z : 0 + ticks ends run ≡ tick_after run = omega arith in ap (λ k. stamped ends brought 0 run ++ stamp k (brought e) []) z)

none_brought : stamped ends brought 0 [] ≡ []
unfolding stamped
none_brought = refl

ticks-add : (xs : Words) (k : ℕ) (o : Option (ℕ × ℕ)) (p : ℕ × (ℕ × ℕ) → Bool) → ticks_of (filter p (xs ++ stamp k o [])) ≡ ticks_of (filter p xs) ++ ticks_of (filter p (stamp k o []))
ticks-add xs k o p = ap (λ (l : Words). ticks_of l) (filter-append p xs (stamp k o [])) ∙ ticks_of-append (filter p xs) (filter p (stamp k o []))

-- with one more, or none, by the test
one-of : (k : ℕ) (x : ℕ × ℕ) (p : ℕ × (ℕ × ℕ) → Bool) (o : Option ℕ) (ts : List ℕ) → is_some o ≡ p (k, x) → with_one k o ts ≡ ts ++ ticks_of (filter p ((k, x) ∷ []))
one-of k x p None ts e = sym (ap (λ b. ts ++ ticks_of (cond b ((k, x) ∷ []) [])) (sym e) ∙ append-nil ts)
one-of k x p (Some s) ts e = ap (λ b. ts ++ ticks_of (cond b ((k, x) ∷ []) [])) e

one_more : (t : TableRows) (s : ℕ) (run : List Event) (e : Event) → with_one (tick_after run) (only s (offer_of t (stream_row t s).bus e)) (ticks_of (filter (of_stream t s) (stamped ends brought 0 run)))
    ≡ ticks_of (filter (of_stream t s) (stamped ends brought 0 run)) ++ ticks_of (filter (of_stream t s) (stamp (tick_after run) (brought e) []))
one_more t s run Tick = sym (append-nil _)
one_more t s run (Route r) = sym (append-nil _)
one_more t s run (Send o) = sym (append-nil _)
one_more t s run (Arrive w b) = one-of (tick_after run) (b, w) (of_stream t s) (only s (offer_of t (stream_row t s).bus (Arrive w b))) (ticks_of (filter (of_stream t s) (stamped ends brought 0 run))) (stream_test t s (tick_after run) w b)

arrived-stream : (t : TableRows) (s : ℕ) → is_policed t (stream_row t s).bus ≡ false → (run : List Event) → ticks_of (arrivals t s run) ≡ ticks_of (filter (of_stream t s) (stamped ends brought 0 run))
arrived-stream t s free run =
    snoc_induction (λ run. ticks_of (arrivals t s run) ≡ ticks_of (filter (of_stream t s) (stamped ends brought 0 run))) (arrivals-nil t s ∙ ap (λ (l : Words). ticks_of (filter (of_stream t s) l)) (sym none_brought)) (λ run e h.
    ticks-more t s run e ∙ ap (λ o. with_one (tick_after run) (only s o) (ticks_of (arrivals t s run))) (let_in-all t (stream_row t s).bus run (offer_of t (stream_row t s).bus e) free)
    ∙ ap (with_one (tick_after run) (only s (offer_of t (stream_row t s).bus e))) h
    ∙ one_more t s run e
    ∙ sym (ap (λ (l : Words). ticks_of (filter (of_stream t s) l)) (brought-push run e) ∙ ticks-add (stamped ends brought 0 run) (tick_after run) (brought e) (of_stream t s))) run

one_more-bus : (t : TableRows) (a : ℕ) (run : List Event) (e : Event) → with_one (tick_after run) (offer_of t a e) (ticks_of (filter (offered_on t a) (stamped ends brought 0 run)))
    ≡ ticks_of (filter (offered_on t a) (stamped ends brought 0 run)) ++ ticks_of (filter (offered_on t a) (stamp (tick_after run) (brought e) []))
one_more-bus t a run Tick = sym (append-nil _)
one_more-bus t a run (Route r) = sym (append-nil _)
one_more-bus t a run (Send o) = sym (append-nil _)
one_more-bus t a run (Arrive w b) = one-of (tick_after run) (b, w) (offered_on t a) (offer_of t a (Arrive w b)) (ticks_of (filter (offered_on t a) (stamped ends brought 0 run))) (bus_test t a (tick_after run) w b)

arrived-bus : (t : TableRows) (a : ℕ) → is_policed t a ≡ false → (run : List Event) → ticks_of (bus_arrivals t a run) ≡ ticks_of (filter (offered_on t a) (stamped ends brought 0 run))
arrived-bus t a free run =
    snoc_induction (λ run. ticks_of (bus_arrivals t a run) ≡ ticks_of (filter (offered_on t a) (stamped ends brought 0 run))) (bus_arrivals-nil t a ∙ ap (λ (l : Words). ticks_of (filter (offered_on t a) l)) (sym none_brought)) (λ run e h.
    bus_ticks-more t a run e ∙ ap (λ o. with_one (tick_after run) o (ticks_of (bus_arrivals t a run))) (let_in-all t a run (offer_of t a e) free)
    ∙ ap (with_one (tick_after run) (offer_of t a e)) h
    ∙ one_more-bus t a run e
    ∙ sym (ap (λ (l : Words). ticks_of (filter (offered_on t a) l)) (brought-push run e) ∙ ticks-add (stamped ends brought 0 run) (tick_after run) (brought e) (offered_on t a))) run

-- ---- the capture by its ticks

abbrev placed : (from tick_us : ℕ) → ℕ × (ℕ × ℕ) → ℕ × (ℕ × ℕ)
placed from tick_us x = (tick_at from tick_us x.0, x.1)

-- a test of bus and word alone
abbrev by_word : (ℕ × (ℕ × ℕ) → Bool) → Type 0
by_word p = (k l : ℕ) (x : ℕ × ℕ) → p (k, x) ≡ p (l, x)

filter-placed : (from tick_us : ℕ) (p : ℕ × (ℕ × ℕ) → Bool) → by_word p → (xs : Words) → filter p (map (placed from tick_us) xs) ≡ map (placed from tick_us) (filter p xs)
filter-placed from tick_us p by [] = refl
filter-placed from tick_us p by (x ∷ xs) =
    ap (λ b. cond b (placed from tick_us x ∷ filter p (map (placed from tick_us) xs)) (filter p (map (placed from tick_us) xs))) (by (tick_at from tick_us x.0) x.0 x.1)
    ∙ elim (p x) as (λ b. cond b (placed from tick_us x ∷ filter p (map (placed from tick_us) xs)) (filter p (map (placed from tick_us) xs)) ≡ map (placed from tick_us) (cond b (x ∷ filter p xs) (filter p xs))) [
      | true ↦ ap (λ l. placed from tick_us x ∷ l) (filter-placed from tick_us p by xs)
      | false ↦ filter-placed from tick_us p by xs
    ]

abbrev no_tag : ℕ × (ℕ × ℕ) → ℕ × ℕ
no_tag x = (x.0, 0)

abbrev tick_no_tag : (from tick_us : ℕ) → ℕ × (ℕ × ℕ) → ℕ × ℕ
tick_no_tag from tick_us x = (tick_at from tick_us x.0, 0)

untagged : (xs : Words) → ticks_of (map no_tag xs) ≡ ticks_of xs
untagged [] = refl
untagged (x ∷ xs) = ap (λ l. x.0 ∷ l) (untagged xs)

untagged-ticks : (from tick_us : ℕ) (xs : Words) → ticks_of (map (tick_no_tag from tick_us) xs) ≡ ticks_of (map (placed from tick_us) xs)
untagged-ticks from tick_us [] = refl
untagged-ticks from tick_us (x ∷ xs) = ap (λ l. tick_at from tick_us x.0 ∷ l) (untagged-ticks from tick_us xs)

within_tick : (from tick_us time : ℕ) → 1 ≤ tick_us → from ≤ time → (from + tick_at from tick_us time * tick_us ≤ time) × (time < from + suc (tick_at from tick_us time) * tick_us)
within_tick from tick_us time some le = (omega (arith, div-mul-le_self (time - from) tick_us), omega (arith, div-add-mod' (time - from) tick_us, mod-lt (time - from) some))

times-of : (from tick_us : ℕ) → 1 ≤ tick_us → (xs : Words) → All (λ x. from ≤ x.0) xs → AreTimesOf (exact_clock from tick_us) (map (tick_no_tag from tick_us) xs) (map no_tag xs)
times-of from tick_us some [] all = tt
times-of from tick_us some (x ∷ xs) all =
    let w = within_tick from tick_us x.0 some (All-head (λ x. from ≤ x.0) x xs all) in
    ((refl, record { from = w.0; to = w.1 }), times-of from tick_us some xs (All-tail (λ x. from ≤ x.0) x xs all))

all-filter : (from : ℕ) (p : ℕ × (ℕ × ℕ) → Bool) (xs : Words) → All (λ x. from ≤ x.0) xs → All (λ x. from ≤ x.0) (filter p xs)
all-filter from p [] all = all
all-filter from p (x ∷ xs) all =
    elim (p x) as (λ b. All (λ x. from ≤ x.0) (cond b (x ∷ filter p xs) (filter p xs))) [
      | true ↦ All-cons (λ x. from ≤ x.0) x (filter p xs) (All-head (λ x. from ≤ x.0) x xs all) (all-filter from p xs (All-tail (λ x. from ≤ x.0) x xs all))
      | false ↦ all-filter from p xs (All-tail (λ x. from ≤ x.0) x xs all)
    ]

-- ---- the law

module _ (t : TableRows) (v : AreValid t) (spans : SpansBecomeWindows) (brings : TracesBringTheCapture t) (us : Intervals) (timings : ℕ → StreamTiming) (are : AreTimings t us timings) (from : ℕ) (fits : FitsClock t us (exact_clock from t.tick_us))
    (capture : Words) (order : NeverFall (ticks_of capture)) (all : All (λ x. from ≤ x.0) capture) (keeps : KeepsDeclared t timings capture) where
  some : 1 ≤ t.tick_us
  some = omega (arith, v.ticks_some)

  in_ticks : (p : ℕ × (ℕ × ℕ) → Bool) → by_word p → ticks_of (filter p (stamped ends brought 0 (traced t from capture))) ≡ ticks_of (map (tick_no_tag from t.tick_us) (filter p capture))
  in_ticks p by =
      ap (λ (l : Words). ticks_of (filter p l)) (brings from capture order) ∙ ap (λ (l : Words). ticks_of l) (filter-placed from t.tick_us p by capture) ∙ sym (untagged-ticks from t.tick_us (filter p capture))

  in_times : (p : ℕ × (ℕ × ℕ) → Bool) → ticks_of (picked p capture) ≡ ticks_of (map no_tag (filter p capture))
  in_times p = picked-filter p 1 capture ∙ sym (untagged (filter p capture))

  timed : (p : ℕ × (ℕ × ℕ) → Bool) → AreTimesOf (exact_clock from t.tick_us) (map (tick_no_tag from t.tick_us) (filter p capture)) (map no_tag (filter p capture))
  timed p = times-of from t.tick_us some (filter p capture) (all-filter from p capture all)

  stream-kept : (s : ℕ) → s < length t.streams → is_policed t (stream_row t s).bus ≡ false → HoldsCap (cap_of t s) (ticks_of (arrivals t s (traced t from capture)))
  stream-kept s l free =
      let kept : HoldsCap (jitter_cap (timings s).min_us (timings s).jitter_us) (ticks_of (picked (of_stream t s) capture)) = paced t s (timings s) capture (keeps.streams s l free) in
      let P : List ℕ → Type 0 = λ ts. HoldsCap (jitter_cap (timings s).min_us (timings s).jitter_us) ts in
      let Q : ℕ → Type 0 = λ n. HoldsCap (jitter_cap n (timings s).jitter_us) (ticks_of (map no_tag (filter (of_stream t s) capture))) in
      let R : ℕ → Type 0 = λ n. HoldsCap (jitter_cap (us.stream_least s) n) (ticks_of (map no_tag (filter (of_stream t s) capture))) in
      let S : List ℕ → Type 0 = λ ts. HoldsCap (cap_of t s) ts in
      subst S (sym (arrived-stream t s free (traced t from capture) ∙ in_ticks (of_stream t s) (λ k l x. refl)))
      (spans.of_streams (exact_clock from t.tick_us) (us.stream_least s) (us.stream_jitter s) (stream_row t s).minimum (stream_row t s).jitter (map (tick_no_tag from t.tick_us) (filter (of_stream t s) capture)) (map no_tag (filter (of_stream t s) capture))
      (spans.of_exact from t.tick_us some) (v.minimums s l) (fits.stream_minimums s l) (fits.stream_jitters s l) (timed (of_stream t s))
      (subst R (sym (are.jitters s l)) (subst Q (sym (are.minimums s l)) (subst P (in_times (of_stream t s)) kept))))

  wire-kept : (b : ℕ) → b < length t.buses → is_policed t b ≡ false → HoldsWire t.tick_us (bus_row t b).spacing (ticks_of (bus_arrivals t b (traced t from capture)))
  wire-kept b l free =
      let kept : HoldAtMost 1 (bus_row t b).spacing (ticks_of (picked (offered_on t b) capture)) = (keeps.wires b l free).1 in
      let P : List ℕ → Type 0 = λ ts. HoldAtMost 1 (bus_row t b).spacing ts in
      let Q : ℕ → Type 0 = λ n. HoldAtMost 1 n (ticks_of (map no_tag (filter (offered_on t b) capture))) in
      let R : List ℕ → Type 0 = λ ts. HoldsWire t.tick_us (bus_row t b).spacing ts in
      subst R (sym (arrived-bus t b free (traced t from capture) ∙ in_ticks (offered_on t b) (λ k l x. refl)))
      (spans.of_wires (exact_clock from t.tick_us) (us.spacing b) t.tick_us (bus_row t b).spacing (map (tick_no_tag from t.tick_us) (filter (offered_on t b) capture)) (map no_tag (filter (offered_on t b) capture))
      (spans.of_exact from t.tick_us some) (fits.spacings_some b l) (v.spacings b l) (fits.spacings b l) (timed (offered_on t b)) (subst Q (sym (are.spacings b l)) (subst P (in_times (offered_on t b)) kept)))

  pub kept-sources : KeepsSources t (traced t from capture)
  kept-sources = record { streams_rest = stream-kept; wires_rest = wire-kept }
