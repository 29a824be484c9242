-- The emissions of a label are apart.
use Rattle.std.proofs.Common.{◌≡◌, ℕ, ◌+◌, ◌<◌, ◌≤◌, ◌⊎◌, ◌==◌, cond, eqb, true, false, Option, Some, None, option_map, List, [], ◌∷◌, ◌++◌, length, refl, sym, ap, ◌∙◌, subst, arith, inl, inr, append_assoc}
use Rattle.std.proofs.lemmas.List.{append-nil}
use Rattle.std.proofs.lemmas.List.Elements.{filter-append}
use Rattle.std.proofs.lemmas.Bool.{eqb-true}
use Rattle.dc_bound.specs.Window.{count_in, ticks_of, HoldAtMost}
use Rattle.dc_bound.specs.Run.{stamp}
use Rattle.dc_bound.specs.lemmas.Counts.{one_in_cases, count_in-nil}
use Rattle.dc_bound.specs.lemmas.Steps.{ticks_of-append, count-append, count_in-push}
use Rattle.dc_bound.specs.lemmas.FirstPlaces.{snoc_induction}
use Rattle.dc_spans.specs.Spans.{Clock}
use Rattle.dc_chain.specs.Carrying.{of_number}
use Rattle.dc_tables.specs.TableRows.{TableRows, stream_row}
use Rattle.dc_event.specs.Offers.{only}
use Rattle.dc_event.specs.Buses.{arrival_of}
use Rattle.dc_event.specs.Choice.{chosen}
use Rattle.dc_event.specs.Emissions.{emission}
use Rattle.dc_event.specs.declared.event.Event.{Event}
use Rattle.dc_event.specs.declared.event.Event.TheVariants.{Tick, Arrive, Route, Send}
use Rattle.dc_time.specs.Timed.{events, timed}
use Rattle.dc_time.specs.Intervals.{Intervals}
use Rattle.dc_time.specs.Sources.{brought, stream_arrival, stream_times}
use Rattle.dc_time.specs.Claims.{emits, emission_times, last_or, IsBetween, ClaimsHoldInTime}
use Rattle.dc_time.specs.lemmas.TimedRuns.{timed-nil, timed-push}
use Rattle.dc_time.specs.lemmas.Claiming.{from_some}
use Rattle.dc_chain.specs.Concentrators.{sent_word}

-- ---- times that are apart

last-push : (start : ℕ) (ts : List ℕ) (a : ℕ) → last_or start (ts ++ a ∷ []) ≡ a
last-push start [] a = refl
last-push start (t ∷ ts) a = last-push t ts a

-- at most one in any m + 1 microseconds, and none after the last
record AreApart (m start : ℕ) (ts : List ℕ) : Type 0 where
  one : HoldAtMost 1 (m + 1) ts
  none_later : (u d : ℕ) → last_or start ts < u → count_in u d ts ≡ 0

none-apart : (m start : ℕ) → AreApart m start []
none-apart m start = record { one = λ u. omega (arith, count_in-nil u (m + 1)); none_later = λ u d h. count_in-nil u d }

empty_or : (ts : List ℕ) → (ts ≡ []) ⊎ (1 ≤ length ts)
empty_or [] = inl refl
empty_or (t ∷ ts) = inr (omega arith)

more-apart : (m start : ℕ) (ts : List ℕ) (a : ℕ) → AreApart m start ts → (1 ≤ length ts → last_or start ts + m < a) → AreApart m start (ts ++ a ∷ [])
more-apart m start ts a h far = record {
  one = λ u. elim (empty_or ts) [
    | inl none ↦ elim (one_in_cases u (m + 1) a) [
      | inl w ↦ omega (arith, count_in-push u (m + 1) ts a, ap (count_in u (m + 1)) none, count_in-nil u (m + 1))
      | inr v ↦ elim v [ inl w ↦ omega (arith, count_in-push u (m + 1) ts a, h.one u) | inr w ↦ omega (arith, count_in-push u (m + 1) ts a, h.one u) ]
    ]
    | inr some ↦ elim (one_in_cases u (m + 1) a) [
      | inl w ↦ omega (arith, count_in-push u (m + 1) ts a, h.none_later u (m + 1) (omega (arith, far some)))
      | inr v ↦ elim v [ inl w ↦ omega (arith, count_in-push u (m + 1) ts a, h.one u) | inr w ↦ omega (arith, count_in-push u (m + 1) ts a, h.one u) ]
    ]
  ];
  none_later = λ u d late.
      let after : a < u = omega (arith, late, last-push start ts a) in
      let before : count_in u d ts ≡ 0 = elim (empty_or ts) [ inl none ↦ ap (count_in u d) none ∙ count_in-nil u d | inr some ↦ h.none_later u d (omega (arith, far some)) ] in
      elim (one_in_cases u d a) [ inl w ↦ absurd (omega arith) | inr v ↦ elim v [ inl w ↦ omega (arith, count_in-push u d ts a) | inr w ↦ omega (arith, count_in-push u d ts a) ] ];
}

-- ---- the emissions of a label

-- one more where there is one
abbrev more_time : ℕ → Option ℕ → List ℕ → List ℕ
more_time a None ts = ts
more_time a (Some x) ts = ts ++ a ∷ []

stamped-time : (a : ℕ) (o : Option ℕ) (xs : List (ℕ × ℕ)) → ticks_of (xs ++ stamp a o []) ≡ more_time a o (ticks_of xs)
stamped-time a None xs = ap (λ (l : List (ℕ × ℕ)). ticks_of l) (append-nil xs)
stamped-time a (Some x) xs = ticks_of-append xs ((a, x) ∷ [])

emission_times-push : (t : TableRows) (x : ℕ) (run : List (ℕ × Event)) (e : ℕ × Event) → emission_times t x (run ++ e ∷ []) ≡ more_time e.0 (emits t x (events run) e.1) (emission_times t x run)
emission_times-push t x run e = ap (λ (l : List (ℕ × ℕ)). ticks_of l) (timed-push (emits t x) run e) ∙ stamped-time e.0 (emits t x (events run) e.1) (timed (emits t x) run)

pub only-some : (x y : ℕ) (o : Option ℕ) → only x o ≡ Some y → o ≡ Some x
only-some x y None h = absurd cc
only-some x y (Some z) h =
    elim (z == x) as (λ b. (z == x) ≡ b → cond b (Some z) None ≡ Some y → Some z ≡ Some x) [
      | true ↦ λ own _. ap Some (eqb-true _ _ own)
      | false ↦ λ _ h. absurd cc
    ] refl h

pub emissions-apart : (t : TableRows) (us : Intervals) (ages : List ℕ) (clock : Clock) (x : ℕ) (run : List (ℕ × Event)) → ClaimsHoldInTime t us ages clock run → HoldAtMost 1 (us.label_least x + 1) (emission_times t x run)
emissions-apart t us ages clock x run claims =
    let m : ℕ = us.label_least x in
    let P : List (ℕ × Event) → Type 0 = λ run. ClaimsHoldInTime t us ages clock run → AreApart (us.label_least x) (clock.begins 0) (emission_times t x run) in
    (snoc_induction P
    (λ _. subst (λ z. AreApart (us.label_least x) (clock.begins 0) z) (sym (ap (λ (l : List (ℕ × ℕ)). ticks_of l) (timed-nil (emits t x)))) (none-apart (us.label_least x) (clock.begins 0)))
    (λ run e rec claims.
    let before : ClaimsHoldInTime t us ages clock run = λ past rest v is. claims past (rest ++ e ∷ []) v (ap (λ z. z ++ e ∷ []) is ∙ append_assoc past (v ∷ rest) (e ∷ [])) in
    let h = rec before in
    subst (λ z. AreApart (us.label_least x) (clock.begins 0) z) (sym (emission_times-push t x run e))
    (elim (emits t x (events run) e.1) as (λ o. emits t x (events run) e.1 ≡ o → AreApart (us.label_least x) (clock.begins 0) (more_time e.0 o (emission_times t x run))) [
      | None ↦ λ _. h
      | Some y ↦ λ is. more-apart (us.label_least x) (clock.begins 0) (emission_times t x run) e.0 h (λ some.
          (from_some (λ x. IsBetween us x (clock.begins 0) (emission_times t x run) e.0) (emission t (events run) e.1) x (only-some x y (emission t (events run) e.1) is) (claims run [] e refl).between).late_enough some)
    ] refl)) run claims).one

-- ---- counts of what is picked, one more event

count-more : {X : Type 0} (f : List Event → Event → Option X) (u d : ℕ) (run : List (ℕ × Event)) (e : ℕ × Event)
    → count_in u d (ticks_of (timed f (run ++ e ∷ []))) ≡ count_in u d (ticks_of (timed f run)) + count_in u d (ticks_of (stamp e.0 (f (events run) e.1) []))
count-more {X} f u d run e =
    ap (λ (l : List (ℕ × X)). count_in u d (ticks_of l)) (timed-push f run e) ∙ ap (λ l. count_in u d l) (ticks_of-append (timed f run) (stamp e.0 (f (events run) e.1) [])) ∙ count-append u d (ticks_of (timed f run)) (ticks_of (stamp e.0 (f (events run) e.1) []))

count-number : (f : List Event → Event → Option (ℕ × ℕ)) (n u d : ℕ) (run : List (ℕ × Event)) (e : ℕ × Event)
    → count_in u d (ticks_of (of_number n (timed f (run ++ e ∷ [])))) ≡ count_in u d (ticks_of (of_number n (timed f run))) + count_in u d (ticks_of (of_number n (stamp e.0 (f (events run) e.1) [])))
count-number f n u d run e =
    ap (λ (l : List (ℕ × (ℕ × ℕ))). count_in u d (ticks_of (of_number n l))) (timed-push f run e)
    ∙ ap (λ (l : List (ℕ × (ℕ × ℕ))). count_in u d (ticks_of l)) (filter-append (λ (x : ℕ × (ℕ × ℕ)). eqb x.1.0 n) (timed f run) (stamp e.0 (f (events run) e.1) []))
    ∙ ap (λ l. count_in u d l) (ticks_of-append (of_number n (timed f run)) (of_number n (stamp e.0 (f (events run) e.1) [])))
    ∙ count-append u d (ticks_of (of_number n (timed f run))) (ticks_of (of_number n (stamp e.0 (f (events run) e.1) [])))

nothing : {X : Type 0} (f : List Event → Event → Option X) (u d : ℕ) → count_in u d (ticks_of (timed f [])) ≡ 0
nothing {X} f u d = ap (λ (l : List (ℕ × X)). count_in u d (ticks_of l)) (timed-nil f) ∙ count_in-nil u d

nothing-number : (f : List Event → Event → Option (ℕ × ℕ)) (n u d : ℕ) → count_in u d (ticks_of (of_number n (timed f []))) ≡ 0
nothing-number f n u d = ap (λ (l : List (ℕ × (ℕ × ℕ))). count_in u d (ticks_of (of_number n l))) (timed-nil f) ∙ count_in-nil u d

-- ---- what is sent of a label is emitted

one-sent : (x u d time : ℕ) (w : ℕ → ℕ) (o : Option ℕ) → count_in u d (ticks_of (of_number x (stamp time (option_map (λ (y : ℕ). (y, w y)) o) []))) ≤ count_in u d (ticks_of (stamp time (only x o) []))
unfolding count_in
one-sent x u d time w None = omega arith
one-sent x u d time w (Some y) =
    let here : List (ℕ × (ℕ × ℕ)) = (time, (y, w y)) ∷ [] in
    let none : List (ℕ × (ℕ × ℕ)) = [] in
    elim (eqb y x) as (λ b. count_in u d (ticks_of (cond b here none)) ≤ count_in u d (ticks_of (stamp time (cond b (Some y) None) []))) [ true ↦ omega arith | false ↦ omega arith ]

event-sent : (t : TableRows) (o x u d time : ℕ) (past : List Event) (e : Event) → count_in u d (ticks_of (of_number x (stamp time (sent_word t o past e) []))) ≤ count_in u d (ticks_of (stamp time (emits t x past e) []))
unfolding count_in
event-sent t o x u d time past Tick = omega arith
event-sent t o x u d time past (Arrive w b) = omega arith
event-sent t o x u d time past (Route r) = omega arith
event-sent t o x u d time past (Send q) =
    elim (q == o) as (λ b. count_in u d (ticks_of (of_number x (stamp time (cond b (option_map (λ (y : ℕ). (y, chosen t y (past ++ Send q ∷ []))) (emission t past (Send q))) None) []))) ≤ count_in u d (ticks_of (stamp time (only x (emission t past (Send q))) []))) [
      | true ↦ one-sent x u d time (λ y. chosen t y (past ++ Send q ∷ [])) (emission t past (Send q))
      | false ↦ omega arith
    ]

pub count-sent : (t : TableRows) (o x u d : ℕ) (run : List (ℕ × Event)) → count_in u d (ticks_of (of_number x (timed (sent_word t o) run))) ≤ count_in u d (emission_times t x run)
count-sent t o x u d run =
    snoc_induction (λ run. count_in u d (ticks_of (of_number x (timed (sent_word t o) run))) ≤ count_in u d (emission_times t x run))
    (omega (arith, nothing-number (sent_word t o) x u d))
    (λ run e rec. omega (arith, rec, count-number (sent_word t o) x u d run e, count-more (emits t x) u d run e, event-sent t o x u d e.0 (events run) e.1)) run

-- ---- what comes of a stream is brought to its bus

one-came : (s u d time w : ℕ) (o : Option ℕ) → count_in u d (ticks_of (stamp time (only s o) [])) ≤ count_in u d (ticks_of (of_number s (stamp time (option_map (λ (y : ℕ). (y, w)) o) [])))
unfolding count_in
one-came s u d time w None = omega arith
one-came s u d time w (Some y) =
    let here : List (ℕ × (ℕ × ℕ)) = (time, (y, w)) ∷ [] in
    let none : List (ℕ × (ℕ × ℕ)) = [] in
    elim (eqb y s) as (λ b. count_in u d (ticks_of (stamp time (cond b (Some y) None) [])) ≤ count_in u d (ticks_of (cond b here none))) [ true ↦ omega arith | false ↦ omega arith ]

event-came : (t : TableRows) (s u d time : ℕ) (past : List Event) (e : Event) → count_in u d (ticks_of (stamp time (stream_arrival t s past e) [])) ≤ count_in u d (ticks_of (of_number s (stamp time (brought t (stream_row t s).bus past e) [])))
unfolding count_in
event-came t s u d time past Tick = omega arith
event-came t s u d time past (Arrive w a) = one-came s u d time w (arrival_of t (stream_row t s).bus past (Arrive w a))
event-came t s u d time past (Route r) = omega arith
event-came t s u d time past (Send q) = omega arith

pub count-came : (t : TableRows) (s u d : ℕ) (run : List (ℕ × Event)) → count_in u d (stream_times t s run) ≤ count_in u d (ticks_of (of_number s (timed (brought t (stream_row t s).bus) run)))
count-came t s u d run =
    snoc_induction (λ run. count_in u d (stream_times t s run) ≤ count_in u d (ticks_of (of_number s (timed (brought t (stream_row t s).bus) run))))
    (omega (arith, nothing (stream_arrival t s) u d))
    (λ run e rec. omega (arith, rec, count-number (brought t (stream_row t s).bus) s u d run e, count-more (stream_arrival t s) u d run e, event-came t s u d e.0 (events run) e.1)) run

-- ---- and the other way

one-brought : (s u d time w : ℕ) (o : Option ℕ) → count_in u d (ticks_of (of_number s (stamp time (option_map (λ (y : ℕ). (y, w)) o) []))) ≤ count_in u d (ticks_of (stamp time (only s o) []))
unfolding count_in
one-brought s u d time w None = omega arith
one-brought s u d time w (Some y) =
    let here : List (ℕ × (ℕ × ℕ)) = (time, (y, w)) ∷ [] in
    let none : List (ℕ × (ℕ × ℕ)) = [] in
    elim (eqb y s) as (λ b. count_in u d (ticks_of (cond b here none)) ≤ count_in u d (ticks_of (stamp time (cond b (Some y) None) []))) [ true ↦ omega arith | false ↦ omega arith ]

event-brought : (t : TableRows) (s u d time : ℕ) (past : List Event) (e : Event) → count_in u d (ticks_of (of_number s (stamp time (brought t (stream_row t s).bus past e) []))) ≤ count_in u d (ticks_of (stamp time (stream_arrival t s past e) []))
unfolding count_in
event-brought t s u d time past Tick = omega arith
event-brought t s u d time past (Arrive w a) = one-brought s u d time w (arrival_of t (stream_row t s).bus past (Arrive w a))
event-brought t s u d time past (Route r) = omega arith
event-brought t s u d time past (Send q) = omega arith

pub came-count : (t : TableRows) (s u d : ℕ) (run : List (ℕ × Event)) → count_in u d (ticks_of (of_number s (timed (brought t (stream_row t s).bus) run))) ≤ count_in u d (stream_times t s run)
came-count t s u d run =
    snoc_induction (λ run. count_in u d (ticks_of (of_number s (timed (brought t (stream_row t s).bus) run))) ≤ count_in u d (stream_times t s run))
    (omega (arith, nothing-number (brought t (stream_row t s).bus) s u d))
    (λ run e rec. omega (arith, rec, count-number (brought t (stream_row t s).bus) s u d run e, count-more (stream_arrival t s) u d run e, event-brought t s u d e.0 (events run) e.1)) run
