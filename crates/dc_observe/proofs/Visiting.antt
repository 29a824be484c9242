-- One more event keeps what is carried of the waits.
use Rattle.std.proofs.Common.{◌≡◌, ℕ, suc, ◌-◌, ◌≤◌, ◌<◌, max, cond, Option, Some, None, List, [], ◌∷◌, ◌++◌, length, get_or, set, sym, ap, ◌∙◌, subst, arith, inl, inr, eq-eqb}
use Rattle.std.proofs.lemmas.Bool.{cases_eq, ne_eqb}
use Rattle.std.proofs.lemmas.List.{get_or-set_same, get_or-set_other}
use Rattle.dc_bound.specs.Moves.{taken, arrived_tick}
use Rattle.dc_bound.specs.Moves.Move.{Visit}
use Rattle.dc_bound.specs.lemmas.QueuePush.{queue-visit}
use Rattle.dc_tables.specs.TableRows.{TableRows}
use Rattle.dc_event.specs.Laws.{QueuesGrow}
use Rattle.dc_event.specs.Time.{tick_after}
use Rattle.dc_event.specs.Buses.{moves, move_of, room, bus_entered, bus_taken, visited_bus}
use Rattle.dc_event.specs.lemmas.RunMoves.{moves-nil}
use Rattle.dc_event.specs.lemmas.RunPush.{moves-push, moves-other}
use Rattle.dc_event.specs.declared.event.Event.{Event}
use Rattle.dc_event.specs.declared.event.Event.TheVariants.{Tick, Arrive, Route, Send}
use Rattle.dc_oracle.specs.BusData.{BusData}
use Rattle.dc_oracle.specs.BusLog.{IsLog, IsLastTaken}
use Rattle.dc_oracle.proofs.Arriving.{TakesAs, TookFrom, still-tick, still-send, still-arrive}
use Rattle.dc_oracle.proofs.Logs.{waiting-length, first-waiting}
use Rattle.dc_oracle.proofs.Replying.{taken-new}
use Rattle.dc_observe.specs.Carried.{longest_taken}
use Rattle.dc_observe.specs.Observed.{greatest_wait}
use Rattle.dc_observe.specs.Waits.{Waits}
use Rattle.dc_observe.specs.declared.waits.WaitGauge.{WaitGauge}
use Rattle.dc_observe.proofs.Waiting.{longest-same, longest-taken, longest-nil, wait-none, wait-some}

-- ---- no events

pub waits-nil : (t : TableRows) (b : ℕ) → longest_taken t b [] ≡ 0
waits-nil t b = longest-nil t b (ap (taken (room t b)) (moves-nil t b) ∙ taken-new (room t b))

-- ---- an event that takes nothing

pub waits-tick : (t : TableRows) (g : WaitGauge) (run : List Event) → Waits t g run → Waits t g (run ++ Tick ∷ [])
waits-tick t g run h b l = h b l ∙ sym (longest-same t b run Tick (still-tick t run b))

pub waits-send : (t : TableRows) (g : WaitGauge) (run : List Event) (o : ℕ) → Waits t g run → Waits t g (run ++ Send o ∷ [])
waits-send t g run o h b l = h b l ∙ sym (longest-same t b run (Send o) (still-send t run o b))

pub waits-arrive : (t : TableRows) (g : WaitGauge) (run : List Event) (w a : ℕ) → Waits t g run → Waits t g (run ++ Arrive w a ∷ [])
waits-arrive t g run w a h b l = h b l ∙ sym (longest-same t b run (Arrive w a) (still-arrive t run a w b))

-- ---- a router visits

module _ (t : TableRows) (run : List Event) (r : ℕ) where
  elsewhere : (a : ℕ) → (visited_bus t r run ≡ a → ⊥) → bus_taken t a (run ++ Route r ∷ []) ≡ bus_taken t a run
  elsewhere a other = (let none : move_of t a run (Route r) ≡ [] = ap (λ x. cond x (Visit ∷ []) []) (ne_eqb (visited_bus t r run) a other) in ap (taken (room t a)) (moves-other t a run (Route r) none))

  -- nothing was taken
  pub waits-nothing : (g : WaitGauge) → QueuesGrow t → TakesAs t run r None → Waits t g run → Waits t g (run ++ Route r ∷ [])
  waits-nothing g grow none h b l = h b l ∙ sym (longest-same t b run (Route r) (elim (cases_eq (visited_bus t r run) b) [
    | inl same ↦
        let P : ℕ → Type 0 = λ a. bus_taken t a (run ++ Route r ∷ []) ≡ bus_taken t a run in
        let still : bus_taken t (visited_bus t r run) (run ++ Route r ∷ []) ≡ bus_taken t (visited_bus t r run) run = omega (arith, none, (grow (visited_bus t r run) run (Route r ∷ [])).taken_grows) in
        subst P same still
    | inr other ↦ elsewhere b other
  ]))

  module _ (b : ℕ) (took : TookFrom t run r b) where
    visit : move_of t b run (Route r) ≡ Visit ∷ []
    visit = ap (λ x. cond x (Visit ∷ []) []) (eq-eqb _ _ (sym took.bus))

    one_more : bus_taken t b (run ++ Route r ∷ []) ≡ suc (bus_taken t b run)
    one_more =
        let q : taken (room t b) (moves t b run ++ Visit ∷ []) ≡ _ = (queue-visit (room t b) (moves t b run)).2 in
        let next : bus_taken t b (run ++ Route r ∷ []) ≡ taken (room t b) (moves t b run ++ Visit ∷ []) = ap (taken (room t b)) (moves-push t b run (Route r) ∙ ap (λ z. moves t b run ++ z) visit) in
        omega (arith, q, next, took.taken)

    pub took-some : (o : Option (ℕ × ℕ)) → IsLastTaken (room t b) (moves t b (run ++ Route r ∷ [])) o → o ≡ None → ⊥
    took-some o log none =
        let P : Option (ℕ × ℕ) → Type 0 = λ o. IsLastTaken (room t b) (moves t b (run ++ Route r ∷ [])) o in
        let zero : bus_taken t b (run ++ Route r ∷ []) ≡ 0 = subst P none log in
        omega (arith, zero, one_more)

    -- a word was taken that came in this tick
    pub waits-took : (old new : WaitGauge) (o : Option (ℕ × ℕ)) (came s : ℕ) → IsLastTaken (room t b) (moves t b (run ++ Route r ∷ [])) o → o ≡ Some (came, s)
        → b < length old.longest.items → b < length t.buses → new.longest.items ≡ set old.longest.items b (max (get_or old.longest.items b 0) (tick_after run - came))
        → Waits t old run → Waits t new (run ++ Route r ∷ [])
    waits-took old new o came s log is sized there items h a l =
        let P : Option (ℕ × ℕ) → Type 0 = λ o. IsLastTaken (room t b) (moves t b (run ++ Route r ∷ [])) o in
        let parts : IsLastTaken (room t b) (moves t b (run ++ Route r ∷ [])) (Some (came, s)) = subst P is log in
        let back : bus_taken t b (run ++ Route r ∷ []) - 1 ≡ bus_taken t b run = omega (arith, one_more) in
        let at : came ≡ arrived_tick (bus_taken t b run) (moves t b (run ++ Route r ∷ [])) = parts.1 ∙ ap (λ n. arrived_tick n (moves t b (run ++ Route r ∷ []))) back in
        ap (λ xs. get_or xs a 0) items ∙ elim (cases_eq b a) [
          | inl mine ↦
              let Q : ℕ → Type 0 = λ a. get_or (set old.longest.items b (max (get_or old.longest.items b 0) (tick_after run - came))) a 0 ≡ longest_taken t a (run ++ Route r ∷ []) in
              subst Q mine (get_or-set_same old.longest.items b _ 0 sized ∙ omega (arith, h b there, at, longest-taken t b run (Route r) visit one_more))
          | inr other ↦
              let ne : a ≡ b → ⊥ = λ e. other (sym e) in
              get_or-set_other old.longest.items b a _ 0 ne ∙ h a l ∙ sym (longest-same t a run (Route r) (elsewhere a (λ e. other (took.bus ∙ e))))
        ]

-- ---- the end, by the log

module _ (t : TableRows) (b : ℕ) (run : List Event) (d : BusData) (log : IsLog (room t b) d (moves t b run)) where
  count : length d.words ≡ length (bus_entered t b run) - bus_taken t b run
  count = ap (λ (l : List (ℕ × (ℕ × ℕ))). length l) log.words ∙ waiting-length (room t b) (moves t b run)

  pub none-waits : d.words ≡ [] → greatest_wait t b run ≡ longest_taken t b run
  none-waits none = wait-none t b run (omega (arith, ap (λ (l : List (ℕ × (ℕ × ℕ))). length l) none, count))

  pub some-wait : (came : ℕ) → 1 ≤ length d.words → came ≡ (get_or d.words 0 (0, (0, 0))).0 → greatest_wait t b run ≡ max (longest_taken t b run) (tick_after run - came)
  some-wait came some is =
      let waits : bus_taken t b run < length (bus_entered t b run) = omega (arith, some, count) in
      let at : came ≡ arrived_tick (bus_taken t b run) (moves t b run) = is ∙ ap (λ (l : List (ℕ × (ℕ × ℕ))). (get_or l 0 (0, (0, 0))).0) log.words ∙ ap (λ (x : ℕ × (ℕ × ℕ)). x.0) (first-waiting (room t b) (moves t b run) waits) in
      omega (arith, wait-some t b run waits, at)
