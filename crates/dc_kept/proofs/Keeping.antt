-- A capture that keeps what is declared, and the run that it records.
use Rattle.std.proofs.Common.{◌≡◌, ℕ, suc, ◌==◌, ◌&&◌, ◌⊎◌, Bool, true, false, cond, is_some, Option, Some, None, List, [], ◌∷◌, ◌++◌, filter, refl, sym, ap, ◌∙◌, subst, arith, inl, inr, eq-eqb}
use Rattle.std.proofs.lemmas.Bool.{cases_eq, ne_eqb}
use Rattle.std.proofs.lemmas.List.Elements.{filter-append}
use Rattle.dc_bound.specs.Early.{HoldsCap, jitter_cap}
use Rattle.dc_bound.specs.Run.{stamp}
use Rattle.dc_bound.specs.Window.{HoldAtMost, ticks_of}
use Rattle.dc_bound.specs.lemmas.Counts.{count_in-nil}
use Rattle.dc_bound.specs.lemmas.FirstPlaces.{snoc_induction}
use Rattle.dc_bound.specs.lemmas.Steps.{ticks_of-append}
use Rattle.dc_event.specs.Buses.{arrival_of}
use Rattle.dc_event.specs.Offers.{offer_of, only}
use Rattle.dc_event.specs.declared.event.Event.{Event}
use Rattle.dc_event.specs.declared.event.Event.TheVariants.{Tick, Arrive, Route, Send}
use Rattle.dc_event.specs.lemmas.Arrivals.{let_in-all, stream_of-there}
use Rattle.dc_gauge.specs.Gauges.{KeepsTiming}
use Rattle.dc_gauge.specs.declared.timing.StreamTiming.{StreamTiming}
use Rattle.dc_kept.specs.Recorded.{AreTimings, KeepsDeclared, recorded}
use Rattle.dc_survey.specs.Captures.{is_it, of_stream, offered_on, picked, picked_from}
use Rattle.dc_survey.specs.States.{IsPaceState}
use Rattle.dc_survey.specs.declared.states.PaceState.TheVariants.{Kept as PaceKept, Silent}
use Rattle.dc_tables.specs.Declares.{stream_of}
use Rattle.dc_tables.specs.TableRows.{TableRows, bus_row, stream_row, is_policed}
use Rattle.dc_time.specs.Intervals.{Intervals}
use Rattle.dc_time.specs.Sources.{KeepsSourcesInTime, bus_times, stream_arrival, stream_times}
use Rattle.dc_time.specs.Timed.{events, timed}
use Rattle.dc_time.specs.lemmas.TimedRuns.{timed-nil, timed-push}
use Rattle.dc_trace.specs.Traces.{brought}
use Rattle.dc_word.specs.Word.{is_odd}

abbrev Words : Type 0
Words = List (ℕ × (ℕ × ℕ))

abbrev word_at : List Event → Event → Option (ℕ × ℕ)
word_at past e = brought e

-- ---- what passes a test

pub picked-filter : (p : ℕ × (ℕ × ℕ) → Bool) (line : ℕ) (xs : Words) → ticks_of (picked_from p line xs) ≡ ticks_of (filter p xs)
unfolding picked_from
picked-filter p line [] = refl
picked-filter p line (x ∷ xs) = elim (p x) as (λ b. ticks_of (cond b ((x.0, line) ∷ picked_from p (suc line) xs) (picked_from p (suc line) xs)) ≡ ticks_of (cond b (x ∷ filter p xs) (filter p xs))) [
  | true ↦ ap (λ l. x.0 ∷ l) (picked-filter p (suc line) xs)
  | false ↦ picked-filter p (suc line) xs
]

-- the time of an item that a test picks
time_picked : (k : ℕ) (x : ℕ × ℕ) (p : ℕ × (ℕ × ℕ) → Bool) (o : Option ℕ) → is_some o ≡ p (k, x) → ticks_of (stamp k o []) ≡ ticks_of (filter p ((k, x) ∷ []))
time_picked k x p None e = sym (ap (λ b. ticks_of (cond b ((k, x) ∷ []) [])) (sym e))
time_picked k x p (Some s) e = sym (ap (λ b. ticks_of (cond b ((k, x) ∷ []) [])) (sym e))

-- where of each event f picks just what the test picks of its word, the times are the same
module _ (f : List Event → Event → Option ℕ) (p : ℕ × (ℕ × ℕ) → Bool) (alike : (k : ℕ) (past : List Event) (e : Event) → ticks_of (stamp k (f past e) []) ≡ ticks_of (filter p (stamp k (brought e) []))) where
  none_yet : ticks_of (timed f []) ≡ ticks_of (filter p (recorded []))
  none_yet = ap (λ (z : List (ℕ × ℕ)). ticks_of z) (timed-nil f) ∙ sym (ap (λ (z : Words). ticks_of (filter p z)) (timed-nil word_at))

  one_more : (run : List (ℕ × Event)) (e : ℕ × Event) → ticks_of (timed f run) ≡ ticks_of (filter p (recorded run)) → ticks_of (timed f (run ++ e ∷ [])) ≡ ticks_of (filter p (recorded (run ++ e ∷ [])))
  one_more run e rec =
      ap (λ (z : List (ℕ × ℕ)). ticks_of z) (timed-push f run e) ∙ ticks_of-append (timed f run) (stamp e.0 (f (events run) e.1) [])
      ∙ ap (λ (z : List ℕ). z ++ ticks_of (stamp e.0 (f (events run) e.1) [])) rec
      ∙ ap (λ (z : List ℕ). ticks_of (filter p (recorded run)) ++ z) (alike e.0 (events run) e.1)
      ∙ sym (ticks_of-append (filter p (recorded run)) (filter p (stamp e.0 (brought e.1) [])))
      ∙ sym (ap (λ (z : Words). ticks_of z) (filter-append p (recorded run) (stamp e.0 (brought e.1) [])))
      ∙ sym (ap (λ (z : Words). ticks_of (filter p z)) (timed-push word_at run e))

  times_picked : (run : List (ℕ × Event)) → ticks_of (timed f run) ≡ ticks_of (filter p (recorded run))
  times_picked run = snoc_induction (λ run. ticks_of (timed f run) ≡ ticks_of (filter p (recorded run))) none_yet one_more run

  pub times_recorded : (run : List (ℕ × Event)) → ticks_of (picked p (recorded run)) ≡ ticks_of (timed f run)
  times_recorded run = picked-filter p 1 (recorded run) ∙ sym (times_picked run)

-- ---- of a stream

same_test : (s : ℕ) (odd : Bool) (o : Option ℕ) → is_some (only s (cond odd o None)) ≡ is_it s (cond odd o None)
same_test s true None = refl
same_test s true (Some k) = elim (k == s) as (λ b. is_some (cond b (Some k) None) ≡ b) [ true ↦ refl | false ↦ refl ]
same_test s false o = refl

not_here : (t : TableRows) (s b w : ℕ) (odd : Bool) (o : Option ℕ) → stream_of t b w ≡ o → (b ≡ (stream_row t s).bus → ⊥) → is_it s (cond odd o None) ≡ false
not_here t s b w false o is far = refl
not_here t s b w true None is far = refl
not_here t s b w true (Some k) is far = ne_eqb k s (λ e. far (sym ((stream_of-there t b w k is).1) ∙ ap (λ j. (stream_row t j).bus) e))

pub stream_test : (t : TableRows) (s k w b : ℕ) → is_some (only s (offer_of t (stream_row t s).bus (Arrive w b))) ≡ of_stream t s (k, (b, w))
stream_test t s k w b =
    elim (cases_eq b (stream_row t s).bus) [
      | inl here ↦
          let P : ℕ → Type 0 = λ a. is_some (only s (offer_of t a (Arrive w b))) ≡ of_stream t s (k, (b, w)) in
          subst P here (ap (λ c. is_some (only s (cond (c && is_odd w) (stream_of t b w) None))) (eq-eqb b b refl) ∙ same_test s (is_odd w) (stream_of t b w))
      | inr far ↦
          ap (λ c. is_some (only s (cond (c && is_odd w) (stream_of t (stream_row t s).bus w) None))) (ne_eqb b (stream_row t s).bus far)
          ∙ sym (not_here t s b w (is_odd w) (stream_of t b w) refl far)
    ]

stream_alike : (t : TableRows) (s : ℕ) → is_policed t (stream_row t s).bus ≡ false → (k : ℕ) (past : List Event) (e : Event) → ticks_of (stamp k (stream_arrival t s past e) []) ≡ ticks_of (filter (of_stream t s) (stamp k (brought e) []))
stream_alike t s free k past Tick = refl
stream_alike t s free k past (Route r) = refl
stream_alike t s free k past (Send o) = refl
stream_alike t s free k past (Arrive w b) =
    ap (λ (o : Option ℕ). ticks_of (stamp k (only s o) [])) (let_in-all t (stream_row t s).bus past (offer_of t (stream_row t s).bus (Arrive w b)) free)
    ∙ time_picked k (b, w) (of_stream t s) (only s (offer_of t (stream_row t s).bus (Arrive w b))) (stream_test t s k w b)

-- ---- of a bus

pub bus_test : (t : TableRows) (a k w b : ℕ) → is_some (offer_of t a (Arrive w b)) ≡ offered_on t a (k, (b, w))
bus_test t a k w b =
    elim (cases_eq b a) [
      | inl here ↦
          let P : ℕ → Type 0 = λ a. is_some (offer_of t a (Arrive w b)) ≡ offered_on t a (k, (b, w)) in
          subst P here (ap (λ c. is_some (cond (c && is_odd w) (stream_of t b w) None)) (eq-eqb b b refl) ∙ sym (ap (λ c. c && is_some (cond (is_odd w) (stream_of t b w) None)) (eq-eqb b b refl)))
      | inr far ↦ ap (λ c. is_some (cond (c && is_odd w) (stream_of t a w) None)) (ne_eqb b a far) ∙ sym (ap (λ c. c && is_some (cond (is_odd w) (stream_of t b w) None)) (ne_eqb b a far))
    ]

bus_alike : (t : TableRows) (a : ℕ) → is_policed t a ≡ false → (k : ℕ) (past : List Event) (e : Event) → ticks_of (stamp k (arrival_of t a past e) []) ≡ ticks_of (filter (offered_on t a) (stamp k (brought e) []))
bus_alike t a free k past Tick = refl
bus_alike t a free k past (Route r) = refl
bus_alike t a free k past (Send o) = refl
bus_alike t a free k past (Arrive w b) =
    ap (λ (o : Option ℕ). ticks_of (stamp k o [])) (let_in-all t a past (offer_of t a (Arrive w b)) free)
    ∙ time_picked k (b, w) (offered_on t a) (offer_of t a (Arrive w b)) (bus_test t a k w b)

-- ---- the law

-- the words of a stream keep its timing, also where none came
pub paced : (t : TableRows) (s : ℕ) (timing : StreamTiming) (capture : Words) → IsPaceState t s timing capture PaceKept ⊎ IsPaceState t s timing capture Silent → KeepsTiming timing (ticks_of (picked (of_stream t s) capture))
paced t s timing capture (inl kept) = kept.1
paced t s timing capture (inr silent) =
    let P : List (ℕ × ℕ) → Type 0 = λ z. KeepsTiming timing (ticks_of z) in
    subst P (sym silent) (λ d u. omega (arith, count_in-nil u d))

pub kept-time : (t : TableRows) (us : Intervals) (timings : ℕ → StreamTiming) → AreTimings t us timings → (run : List (ℕ × Event)) → KeepsDeclared t timings (recorded run) → KeepsSourcesInTime t us run
kept-time t us timings are run keeps = record {
  streams_rest = λ s there free.
      let kept : HoldsCap (jitter_cap (timings s).min_us (timings s).jitter_us) (ticks_of (picked (of_stream t s) (recorded run))) = paced t s (timings s) (recorded run) (keeps.streams s there free) in
      let same : ticks_of (picked (of_stream t s) (recorded run)) ≡ stream_times t s run = times_recorded (stream_arrival t s) (of_stream t s) (stream_alike t s free) run in
      let P : List ℕ → Type 0 = λ ts. HoldsCap (jitter_cap (timings s).min_us (timings s).jitter_us) ts in
      let Q : ℕ → Type 0 = λ n. HoldsCap (jitter_cap n (timings s).jitter_us) (stream_times t s run) in
      let R : ℕ → Type 0 = λ n. HoldsCap (jitter_cap (us.stream_least s) n) (stream_times t s run) in
      subst R (sym (are.jitters s there)) (subst Q (sym (are.minimums s there)) (subst P same kept));
  wires_rest = λ b there free.
      let kept : HoldAtMost 1 (bus_row t b).spacing (ticks_of (picked (offered_on t b) (recorded run))) = (keeps.wires b there free).1 in
      let same : ticks_of (picked (offered_on t b) (recorded run)) ≡ bus_times t b run = times_recorded (arrival_of t b) (offered_on t b) (bus_alike t b free) run in
      let P : List ℕ → Type 0 = λ ts. HoldAtMost 1 (bus_row t b).spacing ts in
      let Q : ℕ → Type 0 = λ n. HoldAtMost 1 n (bus_times t b run) in
      subst Q (sym (are.spacings b there)) (subst P same kept);
}
