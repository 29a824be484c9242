-- Where each word is taken within a delay, none is routed later after it came than that.
use Rattle.std.proofs.Common.{◌≡◌, ℕ, ◌+◌, ◌≤◌, ◌<◌, ◌==◌, ◌&&◌, Bool, true, false, cond, Option, Some, None, List, [], ◌∷◌, ◌++◌, length, refl, sym, ap, ◌∙◌, subst, arith, inl, inr, append_assoc}
use Rattle.std.proofs.lemmas.Bool.{cases_lt}
use Rattle.std.proofs.lemmas.List.{append-nil}
use Rattle.dc_bound.specs.Moves.{Move, ins, entered, taken, routed_tick, arrived_tick, ticks_in}
use Rattle.dc_bound.specs.Moves.Move.{Tick as TickMove, In, Visit}
use Rattle.dc_bound.specs.lemmas.FirstPlaces.{snoc_induction}
use Rattle.dc_bound.specs.lemmas.QueuePush.{taken-push, queue-visit, routed_tick-keeps, routed_tick-now}
use Rattle.dc_bound.specs.lemmas.QueueTimes.{arrived-earlier, entered-le, taken-le}
use Rattle.dc_check.specs.Numbers.{AtEachPlace, TakesWithin}
use Rattle.dc_event.specs.Buses.{in_of, move_of, moves, room, visited_bus}
use Rattle.dc_event.specs.Offers.{let_in}
use Rattle.dc_event.specs.declared.event.Event.{Event}
use Rattle.dc_event.specs.declared.event.Event.TheVariants.{Tick, Arrive, Route, Send}
use Rattle.dc_event.specs.lemmas.RunMoves.{moves-nil}
use Rattle.dc_event.specs.lemmas.RunPush.{moves-push, ticks_in-moves}
use Rattle.dc_tables.specs.Declares.{stream_of}
use Rattle.dc_tables.specs.TableRows.{TableRows}
use Rattle.dc_word.specs.Word.{is_odd}

-- ---- an event is one move of a bus at most

few_in : (o : Option ℕ) (w : ℕ) → length (in_of o w) ≤ 1
few_in None w = omega arith
few_in (Some s) w = omega arith

few_where : (v : Bool) (ms : List Move) → length ms ≤ 1 → length (cond v ms []) ≤ 1
few_where true ms few = few
few_where false ms few = omega arith

few-moves : (t : TableRows) (b : ℕ) (past : List Event) (e : Event) → length (move_of t b past e) ≤ 1
few-moves t b past Tick = omega arith
few-moves t b past (Arrive w a) = few_where ((a == b) && is_odd w) (in_of (let_in t b past (stream_of t b w)) w) (few_in (let_in t b past (stream_of t b w)) w)
few-moves t b past (Route r) = few_where (visited_bus t r past == b) (Visit ∷ []) (omega arith)
few-moves t b past (Send o) = omega arith

-- ---- one more move

-- each taken word was taken at most so many ticks after it came
abbrev pub RoutedWithin : (room delay : ℕ) → List Move → Type 0
RoutedWithin room delay ms = (n : ℕ) → n < taken room ms → routed_tick room n ms ≤ arrived_tick n ms + delay

-- a word that is taken just now waited before
waited : (room n : ℕ) (ms : List Move) (m : Move) → taken room ms ≤ n → n < taken room (ms ++ m ∷ []) → (n ≡ taken room ms) × (n < length (entered room ms))
waited room n ms TickMove from to = absurd (omega (arith, taken-push room ms TickMove))
waited room n ms (In x) from to = absurd (omega (arith, taken-push room ms (In x)))
waited room n ms Visit from to = let q = queue-visit room ms in (omega (arith, q.2), omega (arith, q.2))

module _ (t : TableRows) (b delay : ℕ) where
  one_more : (run : List Event) (m : Move) → TakesWithin t b delay run → RoutedWithin (room t b) delay (moves t b run) → RoutedWithin (room t b) delay (moves t b run ++ m ∷ [])
  one_more run m takes before n now =
      elim (cases_lt n (taken (room t b) (moves t b run))) [
        | inl old ↦
            let came : n < length (ins (moves t b run)) = omega (arith, old, taken-le (room t b) (moves t b run), entered-le (room t b) (moves t b run)) in
            omega (arith, before n old, routed_tick-keeps (room t b) n (moves t b run) m old, arrived-earlier n (moves t b run) (m ∷ []) came)
        | inr new ↦
            let w = waited (room t b) n (moves t b run) m new now in
            let came : n < length (ins (moves t b run)) = omega (arith, w.1, entered-le (room t b) (moves t b run)) in
            let more : taken (room t b) (moves t b run) < taken (room t b) (moves t b run ++ m ∷ []) = omega (arith, now, w.0) in
            let at : routed_tick (room t b) n (moves t b run ++ m ∷ []) ≡ ticks_in (moves t b run) = ap (λ k. routed_tick (room t b) k (moves t b run ++ m ∷ [])) w.0 ∙ routed_tick-now (room t b) (moves t b run) m more in
            elim (cases_lt (arrived_tick n (moves t b run) + delay) (ticks_in (moves t b run))) [
              | inl late ↦ absurd (omega (arith, w.0, takes n w.1 (omega (arith, late, ticks_in-moves t b run))))
              | inr early ↦ omega (arith, early, at, arrived-earlier n (moves t b run) (m ∷ []) came)
            ]
      ]

  more : (run : List Event) (ms : List Move) → length ms ≤ 1 → TakesWithin t b delay run → RoutedWithin (room t b) delay (moves t b run) → RoutedWithin (room t b) delay (moves t b run ++ ms)
  more run [] few takes before = subst (λ z. RoutedWithin (room t b) delay z) (sym (append-nil (moves t b run))) before
  more run (m ∷ []) few takes before = one_more run m takes before
  more run (m ∷ k ∷ ms) few takes before = absurd (omega arith)

  none : RoutedWithin (room t b) delay []
  unfolding ins
  none n l = absurd (omega (arith, l, taken-le (room t b) [], entered-le (room t b) []))

  -- ---- each run

  pub routed_within : (run : List Event) → AtEachPlace (TakesWithin t b delay) run → RoutedWithin (room t b) delay (moves t b run)
  routed_within run =
      let Kept : List Event → Type 0 = λ run. AtEachPlace (TakesWithin t b delay) run → RoutedWithin (room t b) delay (moves t b run) in
      snoc_induction Kept (λ h. subst (λ z. RoutedWithin (room t b) delay z) (sym (moves-nil t b)) none) (λ run e rec h.
      subst (λ z. RoutedWithin (room t b) delay z) (sym (moves-push t b run e))
      (more run (move_of t b run e) (few-moves t b run e) (h run (e ∷ []) refl) (rec (λ past rest is. h past (rest ++ e ∷ []) (ap (λ z. z ++ e ∷ []) is ∙ append_assoc past rest (e ∷ [])))))) run
