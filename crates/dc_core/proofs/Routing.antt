-- A router visits.
use Rattle.std.proofs.Common.{◌≡◌, ℕ, zero, suc, ◌+◌, ◌%◌, ◌≤◌, ◌<◌, ◌&&◌, ◌==◌, min, true, false, cond, ltb, Option, Some, None, is_some, option_map, List, [], ◌∷◌, ◌++◌, length, take, drop, get_or, set, slice_get, refl, sym, ap, ⊎_elim, ◌∙◌, subst, arith, eq-eqb}
use Rattle.std.specs.Prelude.{map, nat_le}
use Rattle.std.proofs.lemmas.List.{drop_all, take_all, length-set, append-nil, get_or-set_same, get_or-set_other, drop-drop, drop_min, length-map, get_or_read}
use Rattle.std.proofs.lemmas.List.Quantifiers.{position-Some}
use Rattle.std.proofs.lemmas.Bool.{lt-ltb, le-ltb, cases_eq, ne_eqb, and_parts, eqb-true, leb-true, leb-false}
use Rattle.std.proofs.Math.Nat.{mod-mod, mod-add-mod}
use Rattle.dc_word.specs.declared.format.Format.TheVariants.{Bnr}
use Rattle.dc_bound.specs.Window.{HoldAtMost}
use Rattle.dc_bound.specs.Run.{one_if}
use Rattle.dc_bound.specs.lemmas.Steps.{most_step}
use Rattle.dc_bound.specs.Moves.{Move, ticks_in, entered, taken, item, latest_by}
use Rattle.dc_bound.specs.Moves.Move.{Visit}
use Rattle.dc_bound.specs.lemmas.QueuePush.{queue-visit, taken-le, latest_by-same, latest_by-takes}
use Rattle.dc_queue.specs.WindowData.{WindowData, added}
use Rattle.dc_word.specs.Word.{label_of, sdi_of}
use Rattle.dc_tables.specs.Declares.{stream_of, declares, fits}
use Rattle.dc_tables.specs.TableRows.{TableRows, visited, stream_row, router_row}
use Rattle.dc_event.specs.Time.{tick_after, route_of, send_of, routes, route_ticks}
use Rattle.dc_event.specs.Buses.{move_of, moves, room}
use Rattle.dc_event.specs.Latest.{is_of_stream, latest}
use Rattle.dc_event.specs.Replies.{reply}
use Rattle.dc_event.specs.Admissible.{KeepsBudgets}
use Rattle.dc_event.specs.declared.event.Reply.TheVariants.{Took, Empty}
use Rattle.dc_event.specs.declared.event.Event.{Event}
use Rattle.dc_event.specs.declared.event.Event.TheVariants.{Route}
use Rattle.dc_core.specs.declared.states.RouterState.{RouterState}
use Rattle.dc_core.specs.declared.states.OutputState.{OutputState}
use Rattle.dc_route.specs.Routing.{next_bus, noted, routed}
use Rattle.dc_core.specs.States.{BusData, no_router, router_stepped, visit_reply_of}
use Rattle.dc_core.specs.Windows.{HoldsSteps}
use Rattle.dc_core.specs.Steps.{AreNumbered}
use Rattle.dc_core.specs.Standing.{entered_words, HoldsQueue, word_and_tick, HoldsRouter, Standing}
use Rattle.dc_event.specs.lemmas.RunPush.{steps-push, ticks-other, ticks-step, moves-push, moves-other, latest-other, ticks_in-moves, entered-declared}
use Rattle.dc_event.specs.lemmas.BudgetsPush.{calm, keeps-step, rest-same}
use Rattle.dc_core.proofs.Windows.{window-step}
use Rattle.dc_core.proofs.Standing.{Changes, numbers-push, router-other, output-other}

-- ---- the budget

route_is : (r : ℕ) → route_of r (Route r) ≡ Some r
route_is r = ap (λ b. cond b (Some r) None) (eq-eqb r r refl)

route_not : (r q : ℕ) → (r ≡ q → ⊥) → route_of q (Route r) ≡ None
route_not r q other = ap (λ b. cond b (Some r) None) (ne_eqb r q other)

pub route-keeps : (t : TableRows) (run : List Event) (r : ℕ) → KeepsBudgets t run → HoldAtMost (router_row t r).most 1 (route_ticks r (run ++ Route r ∷ [])) → KeepsBudgets t (run ++ Route r ∷ [])
route-keeps t run r k h =
    keeps-step t run (Route r) k refl
    (λ q l. ⊎_elim
    (λ (same : r ≡ q). (let P : ℕ → Type 0 = λ q. HoldAtMost (router_row t q).most 1 (route_ticks q (run ++ Route r ∷ [])) in subst P same h))
    (λ (other : r ≡ q → ⊥). rest-same _ _ _ _ (ticks-other (route_of q) run (Route r) (route_not r q other)) (k.routers_rest q l)) (cases_eq r q))
    (λ o l. rest-same _ _ _ _ (ticks-other (send_of o) run (Route r) refl) (k.outputs_rest o l))

-- the window's test of room is the rule
pub route-open : (t : TableRows) (r : ℕ) (s : RouterState) (run : List Event) → HoldsRouter t r s run → HoldAtMost (router_row t r).most 1 (route_ticks r run) → nat_le s.window.room s.window.count ≡ false → HoldAtMost (router_row t r).most 1 (route_ticks r (run ++ Route r ∷ []))
route-open t r s run h old free =
    rest-same _ _ _ _ (ticks-step (route_of r) run (Route r) r (route_is r)) ((most_step (router_row t r).most (route_ticks r run) (tick_after run)).1 (old, omega (arith, leb-false _ _ free, h.window.room, h.window.count)))

pub route-spent : (t : TableRows) (r : ℕ) (s : RouterState) (run : List Event) → HoldsRouter t r s run → nat_le s.window.room s.window.count ≡ true → HoldAtMost (router_row t r).most 1 (route_ticks r (run ++ Route r ∷ [])) → ⊥
route-spent t r s run h full k =
    let p = (most_step (router_row t r).most (route_ticks r run) (tick_after run)).0 (rest-same _ _ _ _ (sym (ticks-step (route_of r) run (Route r) r (route_is r))) k) in
    omega (arith, leb-true _ _ full, h.window.room, h.window.count, p.1)

-- ---- the queue

abbrev word_of : ℕ × ℕ → ℕ
word_of x = x.1

words-length : (room : ℕ) (ms : List Move) → length (entered_words room ms) ≡ length (entered room ms)
words-length room ms = length-map (entered room ms) word_of

word_at : (xs : List (ℕ × ℕ)) (n : ℕ) → get_or (map word_of xs) n 0 ≡ (get_or xs n (0, 0)).1
word_at [] n = refl
word_at (x ∷ xs) zero = refl
word_at (x ∷ xs) (suc n) = word_at xs n

-- a visit takes the oldest word
pub record Hands (old : BusData) (r : Option ℕ) (new : BusData) : Type 0 where
  pub word : r ≡ slice_get old.queue.words 0
  pub rest : new.queue ≡ record { words = drop 1 old.queue.words; limit = old.queue.limit }
  pub flag : new.latched ≡ old.latched

-- a router's step visits this bus
pub record Visits (t : TableRows) (r : ℕ) (old : RouterState) (bus : ℕ) (new : RouterState) : Type 0 where
  pub bus_is : bus ≡ visited t r old.router.cursor
  pub turn : new.router.cursor ≡ (old.router.cursor % length (router_row t r).visits + 1) % length (router_row t r).visits
  pub window : new.window ≡ added old.window

holds-visit : (room : ℕ) (old new : BusData) (ms : List Move) (w : Option ℕ) → HoldsQueue room old ms → Hands old w new → HoldsQueue room new (ms ++ Visit ∷ [])
holds-visit room old new ms w h d =
    let q = queue-visit room ms in
    let rest : drop 1 (drop (taken room ms) (entered_words room ms)) ≡ drop (taken room ms + 1) (entered_words room ms) = drop-drop 1 (taken room ms) (entered_words room ms) in
    let same : drop (taken room ms + 1) (entered_words room ms) ≡ drop (min (taken room ms + 1) (length (entered_words room ms))) (entered_words room ms) = sym (drop_min (taken room ms + 1) (entered_words room ms)) in
    let count : min (taken room ms + 1) (length (entered_words room ms)) ≡ taken room (ms ++ Visit ∷ []) = omega (arith, q.2, words-length room ms) in
    record {
      limit = ap (λ q. q.limit) d.rest ∙ h.limit;
      flag = d.flag ∙ h.flag ∙ sym (ap is_some q.0);
      words = ap (λ q. q.words) d.rest ∙ ap (λ l. drop 1 l) h.words ∙ rest ∙ same ∙ ap (λ n. drop n (entered_words room ms)) count ∙ ap (λ xs. drop (taken room (ms ++ Visit ∷ [])) (map word_of xs)) (sym q.1);
    }

no_first : (xs : List ℕ) (k : ℕ) → slice_get (drop k xs) 0 ≡ None → length xs ≤ k
no_first [] k h = omega arith
no_first (x ∷ xs) zero h = absurd cc
no_first (x ∷ xs) (suc k) h = let rec = no_first xs k h in omega arith

some_first : (xs : List ℕ) (k w : ℕ) → slice_get (drop k xs) 0 ≡ Some w → (k < length xs) × (w ≡ get_or xs k 0)
some_first [] zero w h = absurd cc
some_first [] (suc k) w h = absurd cc
some_first (x ∷ xs) zero w h = (omega arith, cc)
some_first (x ∷ xs) (suc k) w h = let rec = some_first xs k w h in (omega (arith, rec.0), rec.1)

visited_now : (t : TableRows) (r b cursor n : ℕ) → b ≡ visited t r cursor → cursor ≡ n % length (router_row t r).visits → visited t r n ≡ b
visited_now t r b cursor n is cur =
    let len = length (router_row t r).visits in
    sym (is ∙ ap (λ c. get_or (router_row t r).visits (c % len) 0) cur ∙ ap (λ k. get_or (router_row t r).visits k 0) (mod-mod n len))

next_turn : (cursor n len next : ℕ) → next ≡ (cursor % len + 1) % len → cursor ≡ n % len → next ≡ (n + 1) % len
next_turn cursor n len next nx cur =
    nx ∙ ap (λ c. (c % len + 1) % len) cur ∙ ap (λ k. (k + 1) % len) (mod-mod n len) ∙ mod-add-mod n len 1

visit_here : (t : TableRows) (run : List Event) (r b : ℕ) → visited t r (routes r run) ≡ b → moves t b (run ++ Route r ∷ []) ≡ moves t b run ++ Visit ∷ []
visit_here t run r b is = let one : (visited t r (routes r run) == b) ≡ true = eq-eqb _ _ is in moves-push t b run (Route r) ∙ ap (λ x. moves t b run ++ cond x (Visit ∷ []) []) one

visit_elsewhere : (t : TableRows) (run : List Event) (r b a : ℕ) → visited t r (routes r run) ≡ b → (b ≡ a → ⊥) → move_of t a run (Route r) ≡ []
visit_elsewhere t run r b a is other = let none : (visited t r (routes r run) == a) ≡ false = ne_eqb _ _ (λ e. other (sym is ∙ e)) in ap (λ x. cond x (Visit ∷ []) []) none

-- ---- the step

pub record IsVisit (t : TableRows) (buses buses' : ℕ → BusData) (routers : List RouterState) (run : List Event) (r b : ℕ) (w : Option ℕ) (bus : BusData) (router : RouterState) : Type 0 where
  pub router_there : r < length t.routers
  pub bus_there : b < length t.buses
  pub changes : Changes b bus buses buses'
  pub routers_sized : length routers ≡ length t.routers
  pub keeps : KeepsBudgets t (run ++ Route r ∷ [])
  pub visits : Visits t r (get_or routers r no_router) b router
  pub hands : Hands (buses b) w bus

module _ (t : TableRows) (now : ℕ) (buses buses' : ℕ → BusData) (lasts : List (Option (ℕ × ℕ))) (routers : List RouterState) (outputs : List OutputState) (run : List Event) (r b : ℕ) (w : Option ℕ) (bus : BusData) (router : RouterState)
    (v : IsVisit t buses buses' routers run r b w bus router) (h : Standing t now buses lasts routers outputs run) where
  visits_b : visited t r (routes r run) ≡ b
  visits_b = visited_now t r b (get_or routers r no_router).router.cursor (routes r run) v.visits.bus_is (h.turns r v.router_there).cursor

  more_b : moves t b (run ++ Route r ∷ []) ≡ moves t b run ++ Visit ∷ []
  more_b = visit_here t run r b visits_b

  router_after : HoldsRouter t r router (run ++ Route r ∷ [])
  router_after =
      let old = h.turns r v.router_there in
      let n : routes r (run ++ Route r ∷ []) ≡ routes r run + 1 = omega (arith, steps-push (route_of r) run (Route r), ap (λ (o : Option ℕ). one_if o) (route_is r)) in
      record {
        cursor = next_turn (get_or routers r no_router).router.cursor (routes r run) (length (router_row t r).visits) router.router.cursor v.visits.turn old.cursor ∙ sym (ap (λ k. k % length (router_row t r).visits) n);
        window = (let P : WindowData → Type 0 = λ w. HoldsSteps (router_row t r).within (router_row t r).most (tick_after (run ++ Route r ∷ [])) (route_ticks r (run ++ Route r ∷ [])) w in subst P (sym v.visits.window) (window-step (route_of r) (router_row t r).within (router_row t r).most run (Route r) (get_or routers r no_router).window r refl (route_is r) old.window));
      }

  turns_after : (q : ℕ) → q < length t.routers → HoldsRouter t q (get_or (set routers r router) q no_router) (run ++ Route r ∷ [])
  turns_after q l =
      ⊎_elim (λ (same : r ≡ q).
      (let there : r < length routers = omega (arith, v.router_there, v.routers_sized) in
      let P : ℕ → Type 0 = λ q. HoldsRouter t q (get_or (set routers r router) q no_router) (run ++ Route r ∷ []) in
      subst P same (rw (get_or-set_same routers r router no_router there) router_after)))
      (λ (other : r ≡ q → ⊥).
      (let ne : q ≡ r → ⊥ = λ e. other (sym e) in
      rw (get_or-set_other routers r q router no_router ne) (router-other t q _ run (Route r) refl (route_not r q other) (h.turns q l)))) (cases_eq r q)

  queues_after : (a : ℕ) → a < length t.buses → HoldsQueue (room t a) (buses' a) (moves t a (run ++ Route r ∷ []))
  queues_after a l = ⊎_elim
      (λ (same : b ≡ a). (let new : buses' b ≡ bus = v.changes.here in
      let P : ℕ → Type 0 = λ a. HoldsQueue (room t a) (buses' a) (moves t a (run ++ Route r ∷ [])) in
      subst P same (rw (new, more_b) (holds-visit (room t b) (buses b) bus (moves t b run) w (h.queues b v.bus_there) v.hands))))
      (λ (other : b ≡ a → ⊥). (let kept : buses' a ≡ buses a = v.changes.elsewhere a other in
      rw (kept, moves-other t a run (Route r) (visit_elsewhere t run r b a visits_b other)) (h.queues a l))) (cases_eq b a)

  pub standing-route : (lasts' : List (Option (ℕ × ℕ))) → ((s : ℕ) → s < length t.streams → get_or lasts' s None ≡ option_map word_and_tick (latest t s (run ++ Route r ∷ []))) → Standing t now buses' lasts' (set routers r router) outputs (run ++ Route r ∷ [])
  standing-route lasts' words' = record {
    numbers = numbers-push t run (Route r) h.numbers v.router_there;
    kept = v.keeps;
    clock = h.clock ∙ sym (calm run (Route r) refl);
    queues = queues_after;
    words = words';
    turns = turns_after;
    sendings = λ o l. output-other t o _ run (Route r) refl refl (h.sendings o l);
  }

  first_b : w ≡ slice_get (drop (taken (room t b) (moves t b run)) (entered_words (room t b) (moves t b run))) 0
  first_b = v.hands.word ∙ ap (λ l. slice_get l 0) (h.queues b v.bus_there).words

  empty_is : w ≡ None → taken (room t b) (moves t b run ++ Visit ∷ []) ≡ taken (room t b) (moves t b run)
  empty_is none =
      let all = no_first (entered_words (room t b) (moves t b run)) (taken (room t b) (moves t b run)) (sym first_b ∙ none) in
      omega (arith, (queue-visit (room t b) (moves t b run)).2, taken-le (room t b) (moves t b run), all, words-length (room t b) (moves t b run))

  took_is : (x : ℕ) → w ≡ Some x → (taken (room t b) (moves t b run) < length (entered (room t b) (moves t b run))) × (x ≡ (item (room t b) (moves t b run) (taken (room t b) (moves t b run))).1)
  took_is x some =
      let p = some_first (entered_words (room t b) (moves t b run)) (taken (room t b) (moves t b run)) x (sym first_b ∙ some) in
      (omega (arith, p.0, words-length (room t b) (moves t b run)), p.1 ∙ word_at (entered (room t b) (moves t b run)) (taken (room t b) (moves t b run)))

  latest_elsewhere : (s : ℕ) → (b ≡ (stream_row t s).bus → ⊥) → latest t s (run ++ Route r ∷ []) ≡ latest t s run
  latest_elsewhere s other = latest-other t s run (Route r) (visit_elsewhere t run r b (stream_row t s).bus visits_b other)

  latest_empty : w ≡ None → (s : ℕ) → latest t s (run ++ Route r ∷ []) ≡ latest t s run
  unfolding latest
  latest_empty none s =
      ⊎_elim (λ (same : b ≡ (stream_row t s).bus).
      (let P : ℕ → Type 0 = λ a. latest_by (room t a) (is_of_stream s) (moves t a (run ++ Route r ∷ [])) ≡ latest_by (room t a) (is_of_stream s) (moves t a run) in
      subst P same (rw more_b (latest_by-same (room t b) (is_of_stream s) (moves t b run) Visit [] ((queue-visit (room t b) (moves t b run)).1 ∙ sym (append-nil _)) (empty_is none)))))
      (latest_elsewhere s) (cases_eq b (stream_row t s).bus)

  latest_took : (x : ℕ) → w ≡ Some x → (s : ℕ) → b ≡ (stream_row t s).bus
      → latest t s (run ++ Route r ∷ []) ≡ cond (is_of_stream s (item (room t b) (moves t b run) (taken (room t b) (moves t b run)))) (Some (item (room t b) (moves t b run) (taken (room t b) (moves t b run)), now)) (latest t s run)
  unfolding latest
  latest_took x some s same =
      let q = took_is x some in
      let time : ticks_in (moves t b run) ≡ now = ticks_in-moves t b run ∙ sym h.clock in
      let P : ℕ → Type 0 = λ a. latest_by (room t a) (is_of_stream s) (moves t a (run ++ Route r ∷ [])) ≡ cond (is_of_stream s (item (room t b) (moves t b run) (taken (room t b) (moves t b run)))) (Some (item (room t b) (moves t b run) (taken (room t b) (moves t b run)), now)) (latest_by (room t a) (is_of_stream s) (moves t a run)) in
      subst P same (ap (λ ms. latest_by (room t b) (is_of_stream s) ms) more_b ∙ latest_by-takes (room t b) (is_of_stream s) (moves t b run) q.0
      ∙ ap (λ k. cond (is_of_stream s (item (room t b) (moves t b run) (taken (room t b) (moves t b run)))) (Some (item (room t b) (moves t b run) (taken (room t b) (moves t b run)), k)) (latest_by (room t b) (is_of_stream s) (moves t b run))) time)

  pub empty_reply : w ≡ None → Empty b ≡ reply t run (Route r)
  unfolding reply
  empty_reply none =
      let stays : ltb (taken (room t b) (moves t b run)) (taken (room t b) (moves t b run ++ Visit ∷ [])) ≡ false = le-ltb _ _ (omega (arith, empty_is none)) in
      rw (visits_b, more_b, stays) refl

  pub took_reply : (x : ℕ) → w ≡ Some x → Took x b ≡ reply t run (Route r)
  unfolding reply
  took_reply x some =
      let q = took_is x some in
      let rises : ltb (taken (room t b) (moves t b run)) (taken (room t b) (moves t b run ++ Visit ∷ [])) ≡ true = lt-ltb _ _ (omega (arith, (queue-visit (room t b) (moves t b run)).2, q.0)) in
      rw (visits_b, more_b, rises) (ap (λ y. Took y b) q.1)

  pub words_empty : w ≡ None → (s : ℕ) → s < length t.streams → get_or lasts s None ≡ option_map word_and_tick (latest t s (run ++ Route r ∷ []))
  words_empty none s l = h.words s l ∙ ap (option_map word_and_tick) (sym (latest_empty none s))

  declared : (x : ℕ) → w ≡ Some x → stream_of t b x ≡ Some (item (room t b) (moves t b run) (taken (room t b) (moves t b run))).0
  declared x some = let q = took_is x some in ap (stream_of t b) q.1 ∙ entered-declared t b (room t b) (taken (room t b) (moves t b run)) run q.0

  -- each word that entered is declared
  pub words_known : (x : ℕ) → w ≡ Some x → stream_of t b x ≡ None → ⊥
  words_known x some none = let d = declared x some in cc

  bus_of : (x k : ℕ) → stream_of t b x ≡ Some k → b ≡ (stream_row t k).bus
  unfolding stream_of
  bus_of x k of =
      let p = position-Some (declares b x) t.streams k (record { bus = 0; label = 0; sdi = None; format = Bnr; minimum = 0; maximum = 0; jitter = 0 }) of in
      let parts = and_parts (((stream_row t k).bus == b) && ((stream_row t k).label == label_of x)) (fits (stream_row t k).sdi (sdi_of x)) p.1 in
      let first = and_parts ((stream_row t k).bus == b) ((stream_row t k).label == label_of x) parts.0 in
      sym (eqb-true _ _ first.0)

  pub words_took : (x k : ℕ) → w ≡ Some x → stream_of t b x ≡ Some k → length lasts ≡ length t.streams → (s : ℕ) → s < length t.streams → get_or (set lasts k (Some (x, now))) s None ≡ option_map word_and_tick (latest t s (run ++ Route r ∷ []))
  words_took x k some of sized s l =
      let d = declared x some in
      let tag : k ≡ (item (room t b) (moves t b run) (taken (room t b) (moves t b run))).0 = cc in
      let q = took_is x some in
      ⊎_elim (λ (same : k ≡ s).
      (let here : b ≡ (stream_row t s).bus = bus_of x k of ∙ ap (λ k. (stream_row t k).bus) same in
      let own : is_of_stream s (item (room t b) (moves t b run) (taken (room t b) (moves t b run))) ≡ true = eq-eqb _ _ (sym tag ∙ same) in
      let there : k < length lasts = omega arith in
      let P : ℕ → Type 0 = λ s. get_or (set lasts k (Some (x, now))) s None ≡ Some (x, now) in
      subst P same (get_or-set_same lasts k (Some (x, now)) None there)
      ∙ ap (λ y. Some (y, now)) q.1
      ∙ ap (option_map word_and_tick) (sym (latest_took x some s here ∙ ap (λ c. cond c (Some (item (room t b) (moves t b run) (taken (room t b) (moves t b run)), now)) (latest t s run)) own))))
      (λ (apart : k ≡ s → ⊥).
      (let ne : s ≡ k → ⊥ = λ e. apart (sym e) in
      let none : is_of_stream s (item (room t b) (moves t b run) (taken (room t b) (moves t b run))) ≡ false = ne_eqb _ _ (λ e. apart (tag ∙ e)) in
      get_or-set_other lasts k s (Some (x, now)) None ne ∙ h.words s l ∙ ap (option_map word_and_tick)
      (⊎_elim (λ (same : b ≡ (stream_row t s).bus). sym (latest_took x some s same ∙ ap (λ c. cond c (Some (item (room t b) (moves t b run) (taken (room t b) (moves t b run)), now)) (latest t s run)) none))
      (λ (other : b ≡ (stream_row t s).bus → ⊥). sym (latest_elsewhere s other)) (cases_eq b (stream_row t s).bus)))) (cases_eq k s)

  -- the latest words after the visit
  after_word : (x : ℕ) (o : Option ℕ) → w ≡ Some x → stream_of t b x ≡ o → length lasts ≡ length t.streams → (s : ℕ) → s < length t.streams → get_or (noted lasts o x now) s None ≡ option_map word_and_tick (latest t s (run ++ Route r ∷ []))
  after_word x None some of sized s l = absurd (words_known x some of)
  after_word x (Some k) some of sized s l = words_took x k some of sized s l

  pub words_routed : (o : Option ℕ) → w ≡ o → length lasts ≡ length t.streams → (s : ℕ) → s < length t.streams → get_or (routed t b now o lasts) s None ≡ option_map word_and_tick (latest t s (run ++ Route r ∷ []))
  words_routed None none sized s l = words_empty none s l
  words_routed (Some x) some sized s l = after_word x (stream_of t b x) some refl sized s l

  pub visit_reply-is : (o : Option ℕ) → w ≡ o → visit_reply_of b o ≡ reply t run (Route r)
  visit_reply-is None none = empty_reply none
  visit_reply-is (Some x) some = took_reply x some

-- what a slice leaves in its vector
pub written : {X : Type 0} (len : ℕ) (items new : List X) → len ≡ length items → length new ≡ length items → take len (new ++ drop (length new) items) ≡ new
written len items new l n =
    let none : drop (length new) items ≡ [] = drop_all (length new) items (omega arith) in
    ap (λ xs. take len (new ++ xs)) none ∙ ap (λ xs. take len xs) (append-nil new) ∙ take_all len new (omega arith)

pub noted-length : (lasts : List (Option (ℕ × ℕ))) (o : Option ℕ) (w tick : ℕ) → length (noted lasts o w tick) ≡ length lasts
noted-length lasts None w tick = refl
noted-length lasts (Some s) w tick = length-set lasts s (Some (w, tick))

pub routed-length : (t : TableRows) (b tick : ℕ) (o : Option ℕ) (lasts : List (Option (ℕ × ℕ))) → length (routed t b tick o lasts) ≡ length lasts
routed-length t b tick None lasts = refl
routed-length t b tick (Some w) lasts = noted-length lasts (stream_of t b w) w tick

-- the same from what the code's reads say
pub visit_from : (t : TableRows) (now : ℕ) (buses buses' : ℕ → BusData) (lasts : List (Option (ℕ × ℕ))) (routers : List RouterState) (outputs : List OutputState) (run : List Event) (r b : ℕ) (w : Option ℕ) (bus : BusData) (router tested old : RouterState)
    → r < length t.routers → b < length t.buses → length routers ≡ length t.routers → (get_or routers r no_router).router.number ≡ r
    → Standing t now buses lasts routers outputs run
    → tested ≡ get_or routers r tested → nat_le tested.window.room tested.window.count ≡ false
    → old ≡ get_or routers r old → b ≡ next_bus t old.router → router ≡ router_stepped t old → Hands (buses b) w bus → Changes b bus buses buses'
    → IsVisit t buses buses' routers run r b w bus router
visit_from t now buses buses' lasts routers outputs run r b w bus router tested old rt bt rs number h was free is next step hands changes =
    let there : r < length routers = omega arith in
    let tested' : tested ≡ get_or routers r no_router = get_or_read routers r tested there was no_router in
    let old' : old ≡ get_or routers r no_router = get_or_read routers r old there is no_router in
    let open_now = ap (λ (s : RouterState). nat_le s.window.room s.window.count) (sym tested') ∙ free in
    let mine : old.router.number ≡ r = ap (λ (s : RouterState). s.router.number) old' ∙ number in
    let P : RouterState → Type 0 = λ s. Visits t r s b router in
    record {
      router_there = rt;
      bus_there = bt;
      changes = changes;
      routers_sized = rs;
      keeps = route-keeps t run r h.kept (route-open t r (get_or routers r no_router) run (h.turns r rt) (h.kept.routers_rest r rt) open_now);
      visits = subst P old' (record {
        bus_is = next ∙ ap (λ q. visited t q old.router.cursor) mine;
        turn = ap (λ (s : RouterState). s.router.cursor) step ∙ ap (λ q. (old.router.cursor % length (router_row t q).visits + 1) % length (router_row t q).visits) mine;
        window = ap (λ (s : RouterState). s.window) step;
      });
      hands = hands;
    }

-- the numbers of the routers after a step
pub numbers-step : (t : TableRows) (routers : List RouterState) (r : ℕ) (router old : RouterState) → length routers ≡ length t.routers → r < length t.routers → AreNumbered t routers
    → old ≡ get_or routers r old → router ≡ router_stepped t old → AreNumbered t (set routers r router)
numbers-step t routers r router old sized lt h is step q l =
    let there : r < length routers = omega arith in
    ⊎_elim (λ (same : r ≡ q). (let P : ℕ → Type 0 = λ q. (get_or (set routers r router) q no_router).router.number ≡ q in
    subst P same (ap (λ (s : RouterState). s.router.number) (get_or-set_same routers r router no_router there ∙ step) ∙ ap (λ (s : RouterState). s.router.number) (get_or_read routers r old there is no_router) ∙ h r lt)))
    (λ (other : r ≡ q → ⊥). (let ne : q ≡ r → ⊥ = λ e. other (sym e) in
    ap (λ (s : RouterState). s.router.number) (get_or-set_other routers r q router no_router ne) ∙ h q l)) (cases_eq r q)
