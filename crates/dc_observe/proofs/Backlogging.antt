-- One more event, and the greatest backlogs.
use Rattle.std.proofs.Common.{◌≡◌, ℕ, zero, suc, ◌-◌, ◌≤◌, ◌<◌, ◌==◌, ◌&&◌, max, true, false, cond, Some, None, List, [], ◌∷◌, ◌++◌, length, get_or, set, take, refl, sym, ap, ◌∙◌, subst, arith, inl, inr, length-append}
use Rattle.std.proofs.lemmas.List.{get_or-set_same, get_or-set_other, take-append-le, take_all}
use Rattle.std.proofs.lemmas.Bool.{cases_eq, ne_eqb}
use Rattle.dc_bound.specs.Rounds.{greatest_to}
use Rattle.dc_bound.specs.Moves.{Move, entered, taken}
use Rattle.dc_bound.specs.Moves.Move.{Tick as TickMove, Visit}
use Rattle.dc_bound.specs.lemmas.QueuePush.{queue-visit, queue-tick, taken-le}
use Rattle.dc_word.specs.Word.{is_odd}
use Rattle.dc_tables.specs.Declares.{stream_of}
use Rattle.dc_tables.specs.TableRows.{TableRows}
use Rattle.dc_event.specs.Offers.{let_in}
use Rattle.dc_event.specs.Buses.{moves, room, move_of, in_of, backlog, visited_bus}
use Rattle.dc_event.specs.lemmas.RunPush.{moves-push, moves-other}
use Rattle.dc_event.specs.declared.event.Event.{Event}
use Rattle.dc_event.specs.declared.event.Event.TheVariants.{Tick, Arrive, Route, Send}
use Rattle.dc_observe.specs.Backlogs.{word_bus, Observes}
use Rattle.dc_observe.specs.declared.backlogs.BacklogGauge.{BacklogGauge}
use Rattle.dc_observe.specs.Observed.{greatest_backlog}
use Rattle.dc_oracle.specs.BusLog.{no_log}
use Rattle.dc_oracle.specs.Replies.{Holds}
use Rattle.dc_oracle.specs.declared.replies.ReplyWatch.{ReplyWatch}
use Rattle.dc_oracle.proofs.Logs.{log-new, waiting-length}

-- ---- the greatest of one more

greatest_to-same : (n : ℕ) (f g : ℕ → ℕ) → ((i : ℕ) → i ≤ n → f i ≡ g i) → greatest_to n f ≡ greatest_to n g
unfolding greatest_to
greatest_to-same zero f g h = h 0 (omega arith)
greatest_to-same (suc n) f g h = ap (λ k. max k (f (suc n))) (greatest_to-same n f g (λ i l. h i (omega arith))) ∙ ap (λ k. max (greatest_to n g) k) (h (suc n) (omega arith))

greatest_to-last : (n : ℕ) (f : ℕ → ℕ) → f n ≤ greatest_to n f
unfolding greatest_to
greatest_to-last zero f = omega arith
greatest_to-last (suc n) f = omega arith

greatest_to-suc : (n : ℕ) (f : ℕ → ℕ) → greatest_to (suc n) f ≡ max (greatest_to n f) (f (suc n))
unfolding greatest_to
greatest_to-suc n f = refl

longer : (run : List Event) (e : Event) → length (run ++ e ∷ []) ≡ suc (length run)
longer run e = length-append run (e ∷ []) ∙ omega arith

module _ (t : TableRows) (b : ℕ) (run : List Event) (e : Event) where
  pub greatest-push : greatest_backlog t b (run ++ e ∷ []) ≡ max (greatest_backlog t b run) (backlog t b (run ++ e ∷ []))
  unfolding greatest_backlog
  greatest-push =
      let f : ℕ → ℕ = λ i. backlog t b (take i (run ++ e ∷ [])) in
      let whole : take (suc (length run)) (run ++ e ∷ []) ≡ run ++ e ∷ [] = take_all (suc (length run)) (run ++ e ∷ []) (omega (arith, longer run e)) in
      ap (λ n. greatest_to n (λ i. backlog t b (take i (run ++ e ∷ [])))) (longer run e)
      ∙ greatest_to-suc (length run) (λ i. backlog t b (take i (run ++ e ∷ [])))
      ∙ ap (λ k. max k (backlog t b (take (suc (length run)) (run ++ e ∷ [])))) (greatest_to-same (length run) (λ i. backlog t b (take i (run ++ e ∷ []))) (λ i. backlog t b (take i run)) (λ i l. ap (backlog t b) (take-append-le i run (e ∷ []) l)))
      ∙ ap (λ r. max (greatest_to (length run) (λ i. backlog t b (take i run))) (backlog t b r)) whole

  now-least : backlog t b run ≤ greatest_backlog t b run
  unfolding greatest_backlog
  now-least = omega (arith, greatest_to-last (length run) (λ i. backlog t b (take i run)), ap (backlog t b) (take_all (length run) run (omega arith)))

  pub greatest-same : backlog t b (run ++ e ∷ []) ≤ backlog t b run → greatest_backlog t b (run ++ e ∷ []) ≡ greatest_backlog t b run
  greatest-same le = omega (arith, greatest-push, now-least)

-- ---- an event that brings no word to the bus

of_moves : ℕ → List Move → ℕ
of_moves room ms = length (entered room ms) - taken room ms

no_more-visit : (room : ℕ) (ms : List Move) → length (entered room (ms ++ Visit ∷ [])) - taken room (ms ++ Visit ∷ []) ≤ length (entered room ms) - taken room ms
no_more-visit room ms = (let q = queue-visit room ms in omega (arith, ap (λ (l : List (ℕ × ℕ)). length l) q.1, q.2, taken-le room ms))

no_more-tick : (room : ℕ) (ms : List Move) → length (entered room (ms ++ TickMove ∷ [])) - taken room (ms ++ TickMove ∷ []) ≤ length (entered room ms) - taken room ms
no_more-tick room ms = (let q = queue-tick room ms in omega (arith, ap (λ (l : List (ℕ × ℕ)). length l) q.1, q.2))

module _ (t : TableRows) (b : ℕ) (run : List Event) where
  by_moves : (e : Event) (more : List Move) → move_of t b run e ≡ more → length (entered (room t b) (moves t b run ++ more)) - taken (room t b) (moves t b run ++ more) ≤ backlog t b run → backlog t b (run ++ e ∷ []) ≤ backlog t b run
  by_moves e more is le =
      let P : List Move → Type 0 = λ ms. length (entered (room t b) ms) - taken (room t b) ms ≤ backlog t b run in
      subst P (sym (moves-push t b run e ∙ ap (λ m. moves t b run ++ m) is)) le

  by_none : (e : Event) → move_of t b run e ≡ [] → backlog t b (run ++ e ∷ []) ≤ backlog t b run
  by_none e is =
      let P : List Move → Type 0 = λ ms. length (entered (room t b) ms) - taken (room t b) ms ≤ backlog t b run in
      subst P (sym (moves-other t b run e is)) (omega arith)

  pub no_more-of_tick : backlog t b (run ++ Tick ∷ []) ≤ backlog t b run
  no_more-of_tick = by_moves Tick (TickMove ∷ []) refl (no_more-tick (room t b) (moves t b run))

  pub no_more-of_send : (o : ℕ) → backlog t b (run ++ Send o ∷ []) ≤ backlog t b run
  no_more-of_send o = by_none (Send o) refl

  pub no_more-of_route : (r : ℕ) → backlog t b (run ++ Route r ∷ []) ≤ backlog t b run
  no_more-of_route r =
      elim (visited_bus t r run == b) as (λ v. (visited_bus t r run == b) ≡ v → backlog t b (run ++ Route r ∷ []) ≤ backlog t b run) [
        | true ↦ λ e. by_moves (Route r) (Visit ∷ []) (ap (λ v. cond v (Visit ∷ []) []) e) (no_more-visit (room t b) (moves t b run))
        | false ↦ λ e. by_none (Route r) (ap (λ v. cond v (Visit ∷ []) []) e)
      ] refl

  pub no_more-elsewhere : (w a : ℕ) → (a ≡ b → ⊥) → backlog t b (run ++ Arrive w a ∷ []) ≤ backlog t b run
  no_more-elsewhere w a other = by_none (Arrive w a) (ap (λ v. cond (v && is_odd w) (in_of (let_in t b run (stream_of t b w)) w) []) (ne_eqb a b other))

-- ---- before any event

pub none-greatest : (t : TableRows) (b : ℕ) → greatest_backlog t b [] ≡ 0
unfolding greatest_backlog greatest_to
none-greatest t b = sym (ap (λ (l : List (ℕ × (ℕ × ℕ))). length l) ((log-new t b).words) ∙ waiting-length (room t b) (moves t b []))

-- ---- by the log

pub backlog-of_log : (t : TableRows) (w : ReplyWatch) (now : List Event) (b : ℕ) → b < length t.buses → Holds t w now → length (get_or w.buses.items b no_log).words ≡ backlog t b now
backlog-of_log t w now b there h = ap (λ (l : List (ℕ × (ℕ × ℕ))). length l) ((h.logs b there).words) ∙ waiting-length (room t b) (moves t b now)

-- ---- one more event

pub observes-quiet : (t : TableRows) (g : BacklogGauge) (run : List Event) (e : Event) → word_bus e ≡ None → Observes t g run → Observes t g (run ++ e ∷ [])
observes-quiet t g run Tick none h b l = h b l ∙ sym (greatest-same t b run Tick (no_more-of_tick t b run))
observes-quiet t g run (Route r) none h b l = h b l ∙ sym (greatest-same t b run (Route r) (no_more-of_route t b run r))
observes-quiet t g run (Send o) none h b l = h b l ∙ sym (greatest-same t b run (Send o) (no_more-of_send t b run o))
observes-quiet t g run (Arrive w a) none h b l = absurd cc

pub observes-word : (t : TableRows) (old new : BacklogGauge) (run : List Event) (e : Event) (a : ℕ) → word_bus e ≡ Some a → a < length old.greatest.items → new.greatest.items ≡ set old.greatest.items a (max (get_or old.greatest.items a 0) (backlog t a (run ++ e ∷ [])))
    → a < length t.buses → Observes t old run → Observes t new (run ++ e ∷ [])
observes-word t old new run Tick a is there same in_tables h b l = absurd cc
observes-word t old new run (Route r) a is there same in_tables h b l = absurd cc
observes-word t old new run (Send o) a is there same in_tables h b l = absurd cc
observes-word t old new run (Arrive w c) a is there same in_tables h b l =
    let it : c ≡ a = cc in
    ap (λ xs. get_or xs b 0) same ∙ elim (cases_eq a b) [
      | inl mine ↦
          let P : ℕ → Type 0 = λ b. get_or (set old.greatest.items a (max (get_or old.greatest.items a 0) (backlog t a (run ++ Arrive w c ∷ [])))) b 0 ≡ greatest_backlog t b (run ++ Arrive w c ∷ []) in
          subst P mine (get_or-set_same old.greatest.items a _ 0 there ∙ ap (λ k. max k (backlog t a (run ++ Arrive w c ∷ []))) (h a in_tables) ∙ sym (greatest-push t a run (Arrive w c)))
      | inr other ↦
          let ne : b ≡ a → ⊥ = λ e. other (sym e) in
          get_or-set_other old.greatest.items a b _ 0 ne ∙ h b l ∙ sym (greatest-same t b run (Arrive w c) (no_more-elsewhere t b run w c (λ e. other (sym it ∙ e))))
    ]
