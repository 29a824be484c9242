-- One more event keeps a state standing for its run.
use Rattle.std.proofs.Common.{◌≡◌, ℕ, ◌+◌, ◌-◌, ◌%◌, ◌^◌, ◌≤◌, ◌<◌, ◌&&◌, ◌==◌, Bool, true, false, cond, Option, Some, None, is_some, option_map, List, [], ◌∷◌, ◌++◌, length, drop, get_or, set, refl, sym, ap, ⊎_elim, ◌∙◌, subst, arith, eq-eqb, length-drop, length-append}
use Rattle.std.specs.Prelude.{if◌then◌else◌, map}
use Rattle.std.proofs.lemmas.List.{append-nil, drop-append-le, get_or-set_same, get_or-set_other, length-map, map-append}
use Rattle.std.proofs.lemmas.List.Elements.{All-append, All-cons, All-nil}
use Rattle.std.proofs.lemmas.Bool.{cases_Bool, cases_lt, ne_eqb, cases_eq}
use Rattle.dc_bound.specs.Run.{one_if}
use Rattle.dc_bound.specs.Moves.{Move, latch, entered, taken, latest_by}
use Rattle.dc_bound.specs.Moves.Move.{In}
use Rattle.dc_bound.specs.lemmas.QueuePush.{queue-in_latched, queue-in_full, queue-in_room, none_from, taken-le, latest_by-same}
use Rattle.dc_queue.specs.QueueData.{QueueData}
use Rattle.dc_route.specs.Routing.{no_queue, queue_at}
use Rattle.dc_word.specs.Word.{is_odd}
use Rattle.dc_tables.specs.Declares.{stream_of}
use Rattle.dc_tables.specs.TableRows.{TableRows, stream_row, router_row, output_row}
use Rattle.dc_event.specs.Time.{ends, tick_after, route_of, send_of, routes}
use Rattle.dc_event.specs.Offers.{refuses_early, let_in}
use Rattle.dc_event.specs.Buses.{in_of, move_of, moves, room}
use Rattle.dc_event.specs.Latest.{is_of_stream, latest}
use Rattle.dc_event.specs.Replies.{reply}
use Rattle.dc_event.specs.Admissible.{IsNumbered, IsRun, KeepsBudgets}
use Rattle.dc_event.specs.declared.event.Reply.{Reply}
use Rattle.dc_event.specs.declared.event.Reply.TheVariants.{Queued, Overrun, Latched}
use Rattle.dc_event.specs.declared.event.Event.{Event}
use Rattle.dc_event.specs.declared.event.Event.TheVariants.{Arrive}
use Rattle.dc_core.specs.declared.states.RouterState.{RouterState}
use Rattle.dc_core.specs.declared.states.OutputState.{OutputState}
use Rattle.dc_core.specs.States.{BusData, bus_at, Receives}
use Rattle.dc_core.specs.Standing.{entered_words, HoldsQueue, word_and_tick, HoldsRouter, HoldsOutput, Standing, MayFollow}
use Rattle.dc_event.specs.lemmas.RunPush.{steps-push, ticks-other, moves-push, moves-other, latest-other, sent-other}
use Rattle.dc_event.specs.lemmas.BudgetsPush.{calm, keeps-nothing}
use Rattle.dc_core.proofs.Windows.{last-same, window-other}

abbrev word_of : ℕ × ℕ → ℕ
word_of x = x.1

words-length : (room : ℕ) (ms : List Move) → length (entered_words room ms) ≡ length (entered room ms)
words-length room ms = length-map (entered room ms) word_of

-- the reply of a queue to a declared word
abbrev pub queue_reply : ℕ → List Move → ℕ × ℕ → Reply
queue_reply room ms x =
    if is_some (latch room ms) then Latched
    else if is_some (latch room (ms ++ In x ∷ [])) then Overrun
    else Queued (length (entered room (ms ++ In x ∷ [])) - taken room (ms ++ In x ∷ []))

pub record Received (room : ℕ) (new : BusData) (ms : List Move) (x : ℕ × ℕ) (r : Reply) : Type 0 where
  pub holds : HoldsQueue room new (ms ++ In x ∷ [])
  pub answer : r ≡ queue_reply room ms x

module _ (room : ℕ) (old new : BusData) (ms : List Move) (x : ℕ × ℕ) (r : Reply) (h : HoldsQueue room old ms) (d : Receives old x.1 r new) where
  same_words : (us : List Move) → entered room us ≡ entered room ms → taken room us ≡ taken room ms → drop (taken room us) (entered_words room us) ≡ drop (taken room ms) (entered_words room ms)
  same_words us e f = ap (λ n. drop n (entered_words room us)) f ∙ ap (λ xs. drop (taken room ms) (map word_of xs)) e

  received-shut : old.latched ≡ true → Received room new ms x r
  received-shut shut =
      let l : is_some (latch room ms) ≡ true = sym h.flag ∙ shut in
      let q = queue-in_latched room ms x l in
      let s = d.shut shut in
      record {
        holds = record { limit = ap (λ (s : BusData). s.queue.limit) s.1 ∙ h.limit; flag = ap (λ (s : BusData). s.latched) s.1 ∙ h.flag ∙ ap is_some (sym q.0); words = ap (λ (s : BusData). s.queue.words) s.1 ∙ h.words ∙ sym (same_words (ms ++ In x ∷ []) q.1 q.2) };
        answer = rw l s.0;
      }

  received-full : old.latched ≡ false → old.queue.limit ≤ length old.queue.words → Received room new ms x r
  received-full free full =
      let l : is_some (latch room ms) ≡ false = sym h.flag ∙ free in
      let long : length old.queue.words ≡ length (entered room ms) - taken room ms = omega (arith, ap length h.words, length-drop (taken room ms) (entered_words room ms), words-length room ms) in
      let q = queue-in_full room ms x (none_from (latch room ms) l) (omega (arith, h.limit)) in
      let s = d.full free full in
      record {
        holds = record { limit = ap (λ q. q.limit) s.2 ∙ h.limit; flag = s.1 ∙ sym q.0; words = ap (λ q. q.words) s.2 ∙ h.words ∙ sym (same_words (ms ++ In x ∷ []) q.1 q.2) };
        answer = rw (l, q.0) s.0;
      }

  received-free : old.latched ≡ false → length old.queue.words < old.queue.limit → Received room new ms x r
  received-free free few =
      let l : is_some (latch room ms) ≡ false = sym h.flag ∙ free in
      let wl = words-length room ms in
      let long : length old.queue.words ≡ length (entered room ms) - taken room ms = omega (arith, ap length h.words, length-drop (taken room ms) (entered_words room ms), wl) in
      let q = queue-in_room room ms x (none_from (latch room ms) l) (omega (arith, h.limit)) in
      let s = d.free free few in
      let back : length (entered room ms ++ x ∷ []) ≡ length (entered room ms) + 1 = length-append (entered room ms) (x ∷ []) in
      let many : length old.queue.words + 1 ≡ length (entered room ms ++ x ∷ []) - taken room ms = omega (arith, taken-le room ms) in
      let all : entered_words room (ms ++ In x ∷ []) ≡ entered_words room ms ++ x.1 ∷ [] = ap (λ xs. map word_of xs) q.1 ∙ map-append word_of (entered room ms) (x ∷ []) in
      let short : taken room ms ≤ length (entered_words room ms) = omega (arith, taken-le room ms) in
      record {
        holds = record { limit = ap (λ q. q.limit) s.2 ∙ h.limit; flag = s.1 ∙ sym (ap is_some q.0); words = ap (λ q. q.words) s.2 ∙ ap (λ ws. ws ++ x.1 ∷ []) h.words ∙ sym (drop-append-le (taken room ms) (entered_words room ms) (x.1 ∷ []) short) ∙ ap (λ ws. drop (taken room ms) ws) (sym all) ∙ ap (λ n. drop n (entered_words room (ms ++ In x ∷ []))) (sym q.2) };
        answer = rw (l, q.0, q.1, q.2) (s.0 ∙ ap Queued many);
      }

  pub received : Received room new ms x r
  received =
      ⊎_elim (λ (shut : old.latched ≡ true). received-shut shut)
      (λ (free : old.latched ≡ false). ⊎_elim (λ (few : length old.queue.words < old.queue.limit). received-free free few)
      (λ (full : old.queue.limit ≤ length old.queue.words). received-full free full) (cases_lt (length old.queue.words) old.queue.limit))
      (cases_Bool old.latched)

-- ---- buses

-- bus b is new, and each other is as it was
pub record Changes (b : ℕ) (new : BusData) (old now : ℕ → BusData) : Type 0 where
  pub here : now b ≡ new
  pub elsewhere : (a : ℕ) → (b ≡ a → ⊥) → now a ≡ old a

-- ---- an event that changes nothing

pub record IsNothing (t : TableRows) (run : List Event) (e : Event) : Type 0 where
  pub no_tick : ends e ≡ 0
  pub no_move : (b : ℕ) → move_of t b run e ≡ []
  pub no_route : (r : ℕ) → route_of r e ≡ None
  pub no_send : (o : ℕ) → send_of o e ≡ None

pub router-other : (t : TableRows) (r : ℕ) (s : RouterState) (run : List Event) (e : Event) → ends e ≡ 0 → route_of r e ≡ None → HoldsRouter t r s run → HoldsRouter t r s (run ++ e ∷ [])
router-other t r s run e c n h =
    let same : routes r (run ++ e ∷ []) ≡ routes r run = omega (arith, steps-push (route_of r) run e, ap (λ (o : Option ℕ). one_if o) n) in
    record {
      cursor = h.cursor ∙ sym (ap (λ k. k % length (router_row t r).visits) same);
      window = window-other (route_of r) (router_row t r).within (router_row t r).most run e s.window c n h.window;
    }

pub output-other : (t : TableRows) (o : ℕ) (s : OutputState) (run : List Event) (e : Event) → ends e ≡ 0 → send_of o e ≡ None → HoldsOutput t o s run → HoldsOutput t o s (run ++ e ∷ [])
output-other t o s run e c n h = record {
  count = h.count ∙ sym (sent-other t o run e n);
  last = last-same s.last _ _ _ _ (calm run e c) (ticks-other (send_of o) run e n) h.last;
  window = window-other (send_of o) (output_row t o).within 1 run e s.window c n h.window;
}

words-same : (t : TableRows) (s : ℕ) (run more : List Event) (o : Option (ℕ × ℕ)) → latest t s more ≡ latest t s run → o ≡ option_map word_and_tick (latest t s run) → o ≡ option_map word_and_tick (latest t s more)
words-same t s run more o e h = h ∙ ap (option_map word_and_tick) (sym e)

queue-same : (t : TableRows) (b : ℕ) (s : BusData) (run more : List Event) → moves t b more ≡ moves t b run → HoldsQueue (room t b) s (moves t b run) → HoldsQueue (room t b) s (moves t b more)
queue-same t b s run more e h = let P : List Move → Type 0 = λ ms. HoldsQueue (room t b) s ms in subst P (sym e) h

-- a run of these tables with one event more of them
pub numbers-push : (t : TableRows) (run : List Event) (e : Event) → IsRun t run → IsNumbered t e → IsRun t (run ++ e ∷ [])
numbers-push t run e numbers there = All-append (IsNumbered t) run (e ∷ []) numbers (All-cons (IsNumbered t) e [] there (All-nil (IsNumbered t)))

pub standing-nothing : (t : TableRows) (now : ℕ) (buses : ℕ → BusData) (lasts : List (Option (ℕ × ℕ))) (routers : List RouterState) (outputs : List OutputState) (run : List Event) (e : Event)
    → IsNumbered t e → IsNothing t run e → Standing t now buses lasts routers outputs run → Standing t now buses lasts routers outputs (run ++ e ∷ [])
standing-nothing t now buses lasts routers outputs run e there n h = record {
  numbers = numbers-push t run e h.numbers there;
  kept = keeps-nothing t run e h.kept n.no_tick n.no_route n.no_send;
  clock = h.clock ∙ sym (calm run e n.no_tick);
  queues = λ b l. queue-same t b _ run (run ++ e ∷ []) (moves-other t b run e (n.no_move b)) (h.queues b l);
  words = λ s l. words-same t s run (run ++ e ∷ []) _ (latest-other t s run e (n.no_move (stream_row t s).bus)) (h.words s l);
  turns = λ r l. router-other t r _ run e n.no_tick (n.no_route r) (h.turns r l);
  sendings = λ o l. output-other t o _ run e n.no_tick (n.no_send o) (h.sendings o l);
}

-- an event that is no Tick may follow where the run with it keeps the budgets
pub may-follow : (t : TableRows) (now : ℕ) (run : List Event) (e : Event) → IsNumbered t e → ends e ≡ 0 → now ≡ tick_after run → now ≤ 2 ^ 40 → KeepsBudgets t (run ++ e ∷ []) → MayFollow t run e
may-follow t now run e n c clock early k = record { numbered = n; early = omega (arith, calm run e c, clock, early); keeps = k }

-- ---- a word comes

false_and : (a b : Bool) → b ≡ false → (a && b) ≡ false
false_and true b h = h
false_and false b h = refl

pub arrive_even : (t : TableRows) (run : List Event) (b w : ℕ) → is_odd w ≡ false → IsNothing t run (Arrive w b)
arrive_even t run b w h = record {
  no_tick = refl;
  no_move = λ a. ap (λ x. cond x (in_of (let_in t a run (stream_of t a w)) w) []) (false_and (b == a) (is_odd w) h);
  no_route = λ r. refl;
  no_send = λ o. refl;
}

move_elsewhere : (t : TableRows) (run : List Event) (a b w : ℕ) → (b == a) ≡ false → move_of t a run (Arrive w b) ≡ []
move_elsewhere t run a b w h = ap (λ x. cond (x && is_odd w) (in_of (let_in t a run (stream_of t a w)) w) []) h

cond_same : (b : Bool) → cond {A = List Move} b [] [] ≡ []
cond_same true = refl
cond_same false = refl

pub arrive_undeclared : (t : TableRows) (run : List Event) (b w : ℕ) → stream_of t b w ≡ None → IsNothing t run (Arrive w b)
arrive_undeclared t run b w h = record {
  no_tick = refl;
  no_move = λ a. ⊎_elim
      (λ (same : b ≡ a). (let P : ℕ → Type 0 = λ a. move_of t a run (Arrive w b) ≡ [] in subst P same (ap (λ o. cond ((b == b) && is_odd w) (in_of (let_in t b run o) w) []) h ∙ cond_same ((b == b) && is_odd w))))
      (λ (other : b ≡ a → ⊥). move_elsewhere t run a b w (ne_eqb b a other)) (cases_eq b a);
  no_route = λ r. refl;
  no_send = λ o. refl;
}

-- a word that the bus refuses
pub arrive_refused : (t : TableRows) (run : List Event) (b w s : ℕ) → stream_of t b w ≡ Some s → refuses_early t b run (Some s) ≡ true → IsNothing t run (Arrive w b)
arrive_refused t run b w s some early = record {
  no_tick = refl;
  no_move = λ a. ⊎_elim
      (λ (same : b ≡ a). (let P : ℕ → Type 0 = λ a. move_of t a run (Arrive w b) ≡ [] in
      subst P same (ap (λ o. cond ((b == b) && is_odd w) (in_of (let_in t b run o) w) []) some ∙ ap (λ v. cond ((b == b) && is_odd w) (in_of (cond v None (Some s)) w) []) early ∙ cond_same ((b == b) && is_odd w))))
      (λ (other : b ≡ a → ⊥). move_elsewhere t run a b w (ne_eqb b a other)) (cases_eq b a);
  no_route = λ r. refl;
  no_send = λ o. refl;
}

move_here : (t : TableRows) (run : List Event) (b w s : ℕ) → is_odd w ≡ true → stream_of t b w ≡ Some s → refuses_early t b run (Some s) ≡ false → move_of t b run (Arrive w b) ≡ In (s, w) ∷ []
move_here t run b w s odd some free = let e : (b == b) ≡ true = eq-eqb b b refl in rw (e, odd, some, free) refl

-- a word that comes leaves every latest word
latest_by-in : (room : ℕ) (p : ℕ × ℕ → Bool) (ms : List Move) (x : ℕ × ℕ) → latest_by room p (ms ++ In x ∷ []) ≡ latest_by room p ms
latest_by-in room p ms x =
    ⊎_elim (λ (l : is_some (latch room ms) ≡ true). (let q = queue-in_latched room ms x l in latest_by-same room p ms (In x) [] (q.1 ∙ sym (append-nil (entered room ms))) q.2))
    (λ (l : is_some (latch room ms) ≡ false).
    ⊎_elim (λ (few : length (entered room ms) - taken room ms < room). (let q = queue-in_room room ms x (none_from (latch room ms) l) few in latest_by-same room p ms (In x) (x ∷ []) q.1 q.2))
    (λ (full : room ≤ length (entered room ms) - taken room ms). (let q = queue-in_full room ms x (none_from (latch room ms) l) full in latest_by-same room p ms (In x) [] (q.1 ∙ sym (append-nil (entered room ms))) q.2))
    (cases_lt (length (entered room ms) - taken room ms) room)) (cases_Bool (is_some (latch room ms)))

latest-arrive : (t : TableRows) (s : ℕ) (run : List Event) (b w k : ℕ) → is_odd w ≡ true → stream_of t b w ≡ Some k → refuses_early t b run (Some k) ≡ false → latest t s (run ++ Arrive w b ∷ []) ≡ latest t s run
unfolding latest
latest-arrive t s run b w k odd some free =
    let a = (stream_row t s).bus in
    ⊎_elim (λ (same : b ≡ a).
    (let here : move_of t a run (Arrive w b) ≡ In (k, w) ∷ [] = (let P : ℕ → Type 0 = λ a. move_of t a run (Arrive w b) ≡ In (k, w) ∷ [] in subst P same (move_here t run b w k odd some free)) in
    ap (λ ms. latest_by (room t a) (is_of_stream s) ms) (moves-push t a run (Arrive w b) ∙ ap (λ m. moves t a run ++ m) here) ∙ latest_by-in (room t a) (is_of_stream s) (moves t a run) (k, w)))
    (λ (other : b ≡ a → ⊥). latest-other t s run (Arrive w b) (move_elsewhere t run a b w (ne_eqb b a other))) (cases_eq b a)

pub standing-arrive : (t : TableRows) (now : ℕ) (buses buses' : ℕ → BusData) (lasts : List (Option (ℕ × ℕ))) (routers : List RouterState) (outputs : List OutputState) (run : List Event) (b w s : ℕ) (r : Reply) (new : BusData)
    → b < length t.buses → Changes b new buses buses' → is_odd w ≡ true → stream_of t b w ≡ Some s → refuses_early t b run (Some s) ≡ false
    → Receives (buses b) w r new
    → Standing t now buses lasts routers outputs run → Standing t now buses' lasts routers outputs (run ++ Arrive w b ∷ []) × (r ≡ reply t run (Arrive w b))
unfolding reply
standing-arrive t now buses buses' lasts routers outputs run b w s r new lt ch odd some free d h =
    let got = received (room t b) (buses b) new (moves t b run) (s, w) r (h.queues b lt) d in
    let more : moves t b (run ++ Arrive w b ∷ []) ≡ moves t b run ++ In (s, w) ∷ [] = moves-push t b run (Arrive w b) ∙ ap (λ m. moves t b run ++ m) (move_here t run b w s odd some free) in
    let same_bus : buses' b ≡ new = ch.here in (
      record {
        numbers = numbers-push t run (Arrive w b) h.numbers lt;
        kept = keeps-nothing t run (Arrive w b) h.kept refl (λ r. refl) (λ o. refl);
        clock = h.clock ∙ sym (calm run (Arrive w b) refl);
        queues = λ a l. ⊎_elim
            (λ (same : b ≡ a). (let P : ℕ → Type 0 = λ a. HoldsQueue (room t a) (buses' a) (moves t a (run ++ Arrive w b ∷ [])) in
            subst P same (rw (same_bus, more) got.holds)))
            (λ (other : b ≡ a → ⊥). (let kept : buses' a ≡ buses a = ch.elsewhere a other in
            rw kept (queue-same t a _ run (run ++ Arrive w b ∷ []) (moves-other t a run (Arrive w b) (move_elsewhere t run a b w (ne_eqb b a other))) (h.queues a l)))) (cases_eq b a);
        words = λ k l. words-same t k run (run ++ Arrive w b ∷ []) _ (latest-arrive t k run b w s odd some free) (h.words k l);
        turns = λ r l. router-other t r _ run (Arrive w b) refl refl (h.turns r l);
        sendings = λ o l. output-other t o _ run (Arrive w b) refl refl (h.sendings o l);
      },
      rw (odd, some, free, more) got.answer,
    )

pub is_there : (o : Option ℕ) → is_some o ≡ true → (k : ℕ) × (o ≡ Some k)
is_there None h = absurd cc
is_there (Some k) h = (k, refl)

-- ---- buses as lists of queues and of latches

pub receives_at : (queues : List QueueData) (latches : List Bool) (b w : ℕ) (r : Reply) (new : BusData) (q : QueueData) (f : Bool)
    → q ≡ queue_at queues b → f ≡ get_or latches b false → Receives (record { queue = q; latched = f }) w r new → Receives (bus_at queues latches b) w r new
receives_at queues latches b w r new q f eq ef d =
    let P : QueueData → Type 0 = λ q. Receives (record { queue = q; latched = f }) w r new in
    let Q : Bool → Type 0 = λ f. Receives (record { queue = queue_at queues b; latched = f }) w r new in
    subst Q ef (subst P eq d)

-- a queue and a latch are written
pub changes_both : (queues : List QueueData) (latches : List Bool) (b : ℕ) (q : QueueData) (f : Bool) → b < length queues → b < length latches
    → Changes b (record { queue = q; latched = f }) (bus_at queues latches) (bus_at (set queues b q) (set latches b f))
changes_both queues latches b q f lq lf = record {
  here = (let eq : get_or (set queues b q) b no_queue ≡ q = get_or-set_same queues b q no_queue lq in
      let ef : get_or (set latches b f) b false ≡ f = get_or-set_same latches b f false lf in
      rw (eq, ef) refl);
  elsewhere = λ a other. (let ne : a ≡ b → ⊥ = λ e. other (sym e) in
      let eq : get_or (set queues b q) a no_queue ≡ get_or queues a no_queue = get_or-set_other queues b a q no_queue ne in
      let ef : get_or (set latches b f) a false ≡ get_or latches a false = get_or-set_other latches b a f false ne in
      rw (eq, ef) refl);
}

-- a queue is written
pub changes_queue : (queues : List QueueData) (latches : List Bool) (b : ℕ) (q : QueueData) → b < length queues
    → Changes b (record { queue = q; latched = get_or latches b false }) (bus_at queues latches) (bus_at (set queues b q) latches)
changes_queue queues latches b q lq = record {
  here = (let eq : get_or (set queues b q) b no_queue ≡ q = get_or-set_same queues b q no_queue lq in rw eq refl);
  elsewhere = λ a other. (let ne : a ≡ b → ⊥ = λ e. other (sym e) in
      let eq : get_or (set queues b q) a no_queue ≡ get_or queues a no_queue = get_or-set_other queues b a q no_queue ne in rw eq refl);
}
