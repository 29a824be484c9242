-- Timed runs, one more event at the end; what is picked of them by ticks and by times.
use Rattle.std.proofs.Common.{◌≡◌, ℕ, zero, suc, ◌<◌, Option, Some, None, List, [], ◌∷◌, ◌++◌, length, get_or, refl, sym, ap, ◌∙◌, subst, arith, inl, inr, append_assoc}
use Rattle.std.specs.List.{flat_map, AllZip, Contains}
use Rattle.std.proofs.lemmas.List.{append-nil, map-append}
use Rattle.std.proofs.lemmas.List.Elements.{Contains-get_or, Contains-append_cases}
use Rattle.std.proofs.lemmas.Grind.{flat_map-append}
use Rattle.dc_bound.specs.Run.{stamp}
use Rattle.dc_bound.specs.Places.{each_place}
use Rattle.dc_bound.specs.lemmas.FirstPlaces.{snoc_induction, each_place-push}
use Rattle.dc_spans.specs.Spans.{Clock, IsWithinTick, IsTimeOf, AreTimesOf}
use Rattle.dc_event.specs.Time.{tick_after}
use Rattle.dc_event.specs.declared.event.Event.{Event}
use Rattle.dc_event.specs.declared.event.Event.TheVariants.{Tick, Arrive, Route, Send}
use Rattle.dc_time.specs.Timed.{events, HappensIn, InTheirTicks, timed, ticked}

pub events-push : (run : List (ℕ × Event)) (e : ℕ × Event) → events (run ++ e ∷ []) ≡ events run ++ e.1 ∷ []
events-push run e = map-append (λ (z : ℕ × Event). z.1) run (e ∷ [])

pub timed-nil : {X : Type 0} (f : List Event → Event → Option X) → timed f [] ≡ []
unfolding timed each_place
timed-nil f = refl

pub ticked-nil : {X : Type 0} (f : List Event → Event → Option X) → ticked f [] ≡ []
unfolding ticked each_place
ticked-nil f = refl

module _ {X : Type 0} (f : List Event → Event → Option X) where
  at_time : List (ℕ × Event) → ℕ × Event → List (ℕ × X)
  at_time past e = stamp e.0 (f (events past) e.1) []

  at_tick : List Event → Event → List (ℕ × X)
  at_tick past e = stamp (tick_after past) (f past e) []

  pub timed-push : (run : List (ℕ × Event)) (e : ℕ × Event) → timed f (run ++ e ∷ []) ≡ timed f run ++ stamp e.0 (f (events run) e.1) []
  unfolding timed at_time
  timed-push run e =
      ap (λ (z : List (List (ℕ × X))). flat_map (λ xs. xs) z) (each_place-push at_time run e) ∙ flat_map-append (λ (xs : List (ℕ × X)). xs) (each_place at_time run) (at_time run e ∷ [])
      ∙ ap (λ z. flat_map (λ (xs : List (ℕ × X)). xs) (each_place at_time run) ++ z) (append-nil (at_time run e))

  pub ticked-push : (run : List Event) (e : Event) → ticked f (run ++ e ∷ []) ≡ ticked f run ++ stamp (tick_after run) (f run e) []
  unfolding ticked at_tick
  ticked-push run e =
      ap (λ (z : List (List (ℕ × X))). flat_map (λ xs. xs) z) (each_place-push at_tick run e) ∙ flat_map-append (λ (xs : List (ℕ × X)). xs) (each_place at_tick run) (at_tick run e ∷ [])
      ∙ ap (λ z. flat_map (λ (xs : List (ℕ × X)). xs) (each_place at_tick run) ++ z) (append-nil (at_tick run e))

-- ---- beginnings

pub placed-beginning : (clock : Clock) (run : List (ℕ × Event)) (e : ℕ × Event) → InTheirTicks clock (run ++ e ∷ []) → InTheirTicks clock run
placed-beginning clock run e h = λ past rest x is. h past (rest ++ e ∷ []) x (ap (λ z. z ++ e ∷ []) is ∙ append_assoc past (x ∷ rest) (e ∷ []))

-- ---- by ticks and by times

zip-append : {X : Type 0} (R : X → X → Type 0) (xs ys vs ws : List X) → AllZip R xs ys → AllZip R vs ws → AllZip R (xs ++ vs) (ys ++ ws)
zip-append R [] [] vs ws h k = k
zip-append R [] (y ∷ ys) vs ws h k = absurd h
zip-append R (x ∷ xs) [] vs ws h k = absurd h
zip-append R (x ∷ xs) (y ∷ ys) vs ws h k = (h.0, zip-append R xs ys vs ws h.1 k)

module _ {X : Type 0} (f : List Event → Event → Option X) (no_ticks : (past : List Event) → f past Tick ≡ None) (clock : Clock) where
  one_stamp : (o : Option X) (k time : ℕ) → IsWithinTick clock k time → AreTimesOf clock (stamp k o []) (stamp time o [])
  one_stamp None k time h = tt
  one_stamp (Some x) k time h = ((refl, h), tt)

  one_event : (k time : ℕ) (past : List Event) (e : Event) → HappensIn clock k time e → AreTimesOf clock (stamp k (f past e) []) (stamp time (f past e) [])
  one_event k time past Tick h = let P : Option X → Type 0 = λ o. AreTimesOf clock (stamp k o []) (stamp time o []) in subst P (sym (no_ticks past)) tt
  one_event k time past (Arrive w b) h = one_stamp (f past (Arrive w b)) k time h
  one_event k time past (Route r) h = one_stamp (f past (Route r)) k time h
  one_event k time past (Send o) h = one_stamp (f past (Send o)) k time h

  none_yet : AreTimesOf clock (ticked f []) (timed f [])
  unfolding timed ticked each_place
  none_yet = tt

  pub ticked-timed : (run : List (ℕ × Event)) → InTheirTicks clock run → AreTimesOf clock (ticked f (events run)) (timed f run)
  ticked-timed run h =
      snoc_induction (λ run. InTheirTicks clock run → AreTimesOf clock (ticked f (events run)) (timed f run)) (λ _. none_yet)
      (λ run e rec h.
      let before = rec (placed-beginning clock run e h) in
      let here = one_event (tick_after (events run)) e.0 (events run) e.1 (h run [] e refl) in
      let both = zip-append (IsTimeOf clock) (ticked f (events run)) (timed f run) (stamp (tick_after (events run)) (f (events run) e.1) []) (stamp e.0 (f (events run) e.1) []) before here in
      let P : List (ℕ × X) → Type 0 = λ z. AreTimesOf clock z (timed f run ++ stamp e.0 (f (events run) e.1) []) in
      let Q : List (ℕ × X) → Type 0 = λ z. AreTimesOf clock (ticked f (events (run ++ e ∷ []))) z in
      subst Q (sym (timed-push f run e)) (subst P (sym (ap (ticked f) (events-push run e) ∙ ticked-push f (events run) e.1)) both)) run h

-- ---- one of what is picked, and its place

zip-contains : {X : Type 0} (clock : Clock) (xs ys : List (ℕ × X)) → AreTimesOf clock xs ys → (i : ℕ) (d : ℕ × X) → i < length xs → (i < length ys) × IsTimeOf clock (get_or xs i d) (get_or ys i d)
zip-contains clock [] ys h i d l = absurd (omega arith)
zip-contains clock (x ∷ xs) [] h i d l = absurd h
zip-contains clock (x ∷ xs) (y ∷ ys) h zero d l = (omega arith, h.0)
zip-contains clock (x ∷ xs) (y ∷ ys) h (suc i) d l = let r = zip-contains clock xs ys h.1 i d (omega arith) in (omega (arith, r.0), r.1)

-- an entry by its tick has a time of it
pub time-of : {X : Type 0} (clock : Clock) (k : ℕ) (x : X) (xs ys : List (ℕ × X)) → AreTimesOf clock xs ys → Contains xs (k, x) → (time : ℕ) × Contains ys (time, x) × IsWithinTick clock k time
time-of {X} clock k x xs ys h (i, l, is) =
    let r = zip-contains clock xs ys h i (k, x) l in
    let y : ℕ × X = get_or ys i (k, x) in
    let same : y.1 ≡ x = sym r.1.0 ∙ ap (λ (z : ℕ × X). z.1) is in
    let P : ℕ → Type 0 = λ k. IsWithinTick clock k y.0 in
    let whole : y ≡ (y.0, x) = ap (λ (z : X). (y.0, z)) same in
    (y.0, subst (λ (z : ℕ × X). Contains ys z) whole (Contains-get_or ys i (k, x) r.0), subst P (ap (λ (z : ℕ × X). z.0) is) r.1.1)

-- each one that is picked stands at some place
pub record StandsAt {X : Type 0} (f : List Event → Event → Option X) (run : List (ℕ × Event)) (y : ℕ × X) (past rest : List (ℕ × Event)) (e : ℕ × Event) : Type 0 where
  pub cut : run ≡ past ++ (e ∷ rest)
  pub picked : f (events past) e.1 ≡ Some y.1
  pub time : e.0 ≡ y.0

in_stamp : {X : Type 0} (k : ℕ) (o : Option X) (y : ℕ × X) → Contains (stamp k o []) y → (o ≡ Some y.1) × (k ≡ y.0)
in_stamp k None y (i, l, is) = absurd (omega arith)
in_stamp k (Some x) y (zero, l, is) = (ap (λ z. Some z.1) is, ap (λ z. z.0) is)
in_stamp k (Some x) y (suc i, l, is) = absurd (omega arith)

pub timed-place : {X : Type 0} (f : List Event → Event → Option X) (run : List (ℕ × Event)) (y : ℕ × X) → Contains (timed f run) y
    → (past : List (ℕ × Event)) × (rest : List (ℕ × Event)) × (e : ℕ × Event) × StandsAt f run y past rest e
timed-place {X} f run y there =
    let Found : List (ℕ × Event) → Type 0 = λ run. (past : List (ℕ × Event)) × (rest : List (ℕ × Event)) × (e : ℕ × Event) × StandsAt f run y past rest e in
    let In : List (ℕ × X) → Type 0 = λ z. Contains z y in
    snoc_induction (λ run. Contains (timed f run) y → Found run)
    (λ there. absurd (let h : Contains [] y = subst In (timed-nil f) there in omega (arith, h.1)))
    (λ run e rec there. elim (Contains-append_cases (timed f run) (stamp e.0 (f (events run) e.1) []) y (subst In (timed-push f run e) there)) [
      | inl before ↦ (let r = rec before in (r.0, r.1 ++ e ∷ [], r.2, record { cut = ap (λ z. z ++ e ∷ []) r.3.cut ∙ append_assoc r.0 (r.2 ∷ r.1) (e ∷ []); picked = r.3.picked; time = r.3.time }))
      | inr here ↦ (let r = in_stamp e.0 (f (events run) e.1) y here in (run, [], e, record { cut = refl; picked = r.0; time = r.1 }))
    ]) run there
