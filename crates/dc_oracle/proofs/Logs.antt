-- One more move keeps the log of a bus.
use Rattle.std.proofs.Common.{◌≡◌, ℕ, zero, suc, ◌+◌, ◌-◌, ◌≤◌, ◌<◌, min, true, false, ltb, Option, Some, None, is_some, List, [], ◌∷◌, ◌++◌, length, get_or, take, drop, refl, sym, ap, ◌∙◌, subst, arith, length-append, length-drop}
use Rattle.std.proofs.lemmas.Bool.{le-ltb}
use Rattle.std.proofs.lemmas.List.{append-nil, take-append-le, drop-append-le, take-append-drop, get_or-drop, get_or-take, get_or_append_left, length-take, take_all, drop_all}
use Rattle.dc_bound.specs.Run.{picks, ticks, stamp, stamped}
use Rattle.dc_bound.specs.Places.{served_in, first_place, each_place}
use Rattle.dc_bound.specs.Moves.{Move, move_ends, came, ticks_in, ins, before, passed, is_overfull, latch, entered, taken, item, arrived_tick}
use Rattle.dc_bound.specs.Moves.Move.{Tick, In, Visit}
use Rattle.dc_bound.specs.lemmas.Steps.{stamped-append}
use Rattle.dc_bound.specs.lemmas.Queued.{ins-append}
use Rattle.dc_bound.specs.lemmas.QueuePush.{entered-open, queue-in_latched, queue-in_full, queue-in_room, queue-visit, queue-tick, none_from, taken-le}
use Rattle.dc_bound.specs.lemmas.QueueTimes.{entered-le, stamped-arrived, stamped-items, arrived-earlier}
use Rattle.dc_tables.specs.TableRows.{TableRows}
use Rattle.dc_event.specs.Buses.{moves, room}
use Rattle.dc_event.specs.declared.event.Reply.TheVariants.{Queued, Overrun, Latched}
use Rattle.dc_oracle.specs.BusData.{BusData}
use Rattle.dc_oracle.specs.BusLog.{IsLog, IsLastTaken, Received, waiting, new_log}

-- ---- what waits

abbrev all_came : List Move → List (ℕ × (ℕ × ℕ))
all_came ms = stamped move_ends came 0 ms

came-in : (ms : List Move) (x : ℕ × ℕ) → all_came (ms ++ In x ∷ []) ≡ all_came ms ++ (ticks_in ms, x) ∷ []
unfolding stamped
came-in ms x = stamped-append move_ends came 0 ms (In x ∷ []) ∙ (let e : 0 + ticks move_ends ms ≡ ticks_in ms = omega arith in ap (λ k. all_came ms ++ (k, x) ∷ []) e)

came-visit : (ms : List Move) → all_came (ms ++ Visit ∷ []) ≡ all_came ms
unfolding stamped
came-visit ms = stamped-append move_ends came 0 ms (Visit ∷ []) ∙ append-nil (all_came ms)

came-tick : (ms : List Move) → all_came (ms ++ Tick ∷ []) ≡ all_came ms
unfolding stamped
came-tick ms = stamped-append move_ends came 0 ms (Tick ∷ []) ∙ append-nil (all_came ms)

drop_more : {X : Type 0} (k : ℕ) (xs : List X) → drop 1 (drop k xs) ≡ drop (suc k) xs
drop_more zero xs = refl
drop_more (suc k) [] = refl
drop_more (suc k) (x ∷ xs) = drop_more k xs

-- what entered stands in front of all that came
entered-front : (room : ℕ) (ms : List Move) → (rest : List (ℕ × ℕ)) × (ins ms ≡ entered room ms ++ rest)
unfolding entered
entered-front room ms =
    elim (latch room ms) as (λ o. (rest : List (ℕ × ℕ)) × (ins ms ≡ ins (before o ms) ++ rest)) [
      | None ↦ ([], sym (append-nil (ins ms)))
      | Some i ↦ (ins (drop (i - 1) ms), ap ins (sym (take-append-drop (i - 1) ms)) ∙ ins-append (take (i - 1) ms) (drop (i - 1) ms))
    ]

in_front : (room : ℕ) (ms : List Move) (n : ℕ) → n < length (entered room ms) → get_or (ins ms) n (0, 0) ≡ item room ms n
in_front room ms n l = (let f = entered-front room ms in ap (λ z. get_or z n (0, 0)) f.1 ∙ get_or_append_left (entered room ms) f.0 (0, 0) n l)

module _ (room : ℕ) (ms : List Move) where
  long : length (entered room ms) ≤ length (all_came ms)
  long = omega (arith, entered-le room ms, stamped-items ms 0)

  pub waiting-length : length (waiting room ms) ≡ length (entered room ms) - taken room ms
  unfolding waiting
  waiting-length = length-drop (taken room ms) (take (length (entered room ms)) (all_came ms)) ∙ ap (λ n. n - taken room ms) (length-take (length (entered room ms)) (all_came ms) ∙ omega (arith, long))

  -- nothing enters and nothing is taken
  waiting-same : (more : List Move) (xs : List (ℕ × (ℕ × ℕ))) → all_came more ≡ all_came ms ++ xs → entered room more ≡ entered room ms → taken room more ≡ taken room ms → waiting room more ≡ waiting room ms
  unfolding waiting
  waiting-same more xs c e k =
      ap (λ n. drop n (take (length (entered room more)) (all_came more))) k ∙ ap (λ ws. drop (taken room ms) (take (length ws) (all_came more))) e ∙ ap (λ z. drop (taken room ms) (take (length (entered room ms)) z)) c
      ∙ ap (drop (taken room ms)) (take-append-le (length (entered room ms)) (all_came ms) xs long)

  pub waiting-in : (x : ℕ × ℕ) → latch room ms ≡ None → entered room (ms ++ In x ∷ []) ≡ entered room ms ++ x ∷ [] → taken room (ms ++ In x ∷ []) ≡ taken room ms → waiting room (ms ++ In x ∷ []) ≡ waiting room ms ++ (ticks_in ms, x) ∷ []
  unfolding waiting
  waiting-in x open_ e k =
      let all : length (entered room ms) ≡ length (all_came ms) = ap length (entered-open room ms open_) ∙ sym (stamped-items ms 0) in
      let more : length (entered room ms ++ x ∷ []) ≡ length (entered room ms) + 1 = length-append (entered room ms) (x ∷ []) ∙ omega arith in
      let whole : length (all_came ms ++ (ticks_in ms, x) ∷ []) ≡ length (all_came ms) + 1 = length-append (all_came ms) ((ticks_in ms, x) ∷ []) ∙ omega arith in
      let same : take (length (entered room ms)) (all_came ms) ≡ all_came ms = take_all (length (entered room ms)) (all_came ms) (omega arith) in
      let now : take (length (entered room ms ++ x ∷ [])) (all_came ms ++ (ticks_in ms, x) ∷ []) ≡ all_came ms ++ (ticks_in ms, x) ∷ [] = take_all (length (entered room ms ++ x ∷ [])) (all_came ms ++ (ticks_in ms, x) ∷ []) (omega arith) in
      ap (λ n. drop n (take (length (entered room (ms ++ In x ∷ []))) (all_came (ms ++ In x ∷ [])))) k ∙ ap (λ ws. drop (taken room ms) (take (length ws) (all_came (ms ++ In x ∷ [])))) e
      ∙ ap (λ z. drop (taken room ms) (take (length (entered room ms ++ x ∷ [])) z)) (came-in ms x) ∙ ap (drop (taken room ms)) now
      ∙ drop-append-le (taken room ms) (all_came ms) ((ticks_in ms, x) ∷ []) (omega (arith, taken-le room ms, long))
      ∙ ap (λ z. drop (taken room ms) z ++ (ticks_in ms, x) ∷ []) (sym same)

  pub waiting-tick : waiting room (ms ++ Tick ∷ []) ≡ waiting room ms
  waiting-tick = (let q = queue-tick room ms in waiting-same (ms ++ Tick ∷ []) [] (came-tick ms ∙ sym (append-nil (all_came ms))) q.1 q.2)

  -- a visit that finds one takes the first
  waiting-visit : taken room ms < length (entered room ms) → waiting room (ms ++ Visit ∷ []) ≡ drop 1 (waiting room ms)
  unfolding waiting
  waiting-visit some =
      let q = queue-visit room ms in
      let next : taken room (ms ++ Visit ∷ []) ≡ suc (taken room ms) = omega (arith, q.2) in
      ap (λ n. drop n (take (length (entered room (ms ++ Visit ∷ []))) (all_came (ms ++ Visit ∷ [])))) next ∙ ap (λ ws. drop (suc (taken room ms)) (take (length ws) (all_came (ms ++ Visit ∷ [])))) q.1
      ∙ ap (λ z. drop (suc (taken room ms)) (take (length (entered room ms)) z)) (came-visit ms) ∙ sym (drop_more (taken room ms) (take (length (entered room ms)) (all_came ms)))

  pub first-waiting : taken room ms < length (entered room ms) → get_or (waiting room ms) 0 (0, (0, 0)) ≡ (arrived_tick (taken room ms) ms, item room ms (taken room ms))
  unfolding waiting
  first-waiting some =
      let e : taken room ms + 0 ≡ taken room ms = omega arith in
      get_or-drop (taken room ms) (take (length (entered room ms)) (all_came ms)) 0 (0, (0, 0)) ∙ ap (λ n. get_or (take (length (entered room ms)) (all_came ms)) n (0, (0, 0))) e
      ∙ get_or-take (length (entered room ms)) (all_came ms) (taken room ms) (0, (0, 0)) some
      ∙ stamped-arrived ms (taken room ms) (omega (arith, some, entered-le room ms)) ∙ ap (λ x. (arrived_tick (taken room ms) ms, x)) (in_front room ms (taken room ms) some)

  -- the last that was taken is so after more moves that take nothing
  last-same : (more : List Move) (ws : List (ℕ × ℕ)) (o : Option (ℕ × ℕ)) → entered room (ms ++ more) ≡ entered room ms ++ ws → taken room (ms ++ more) ≡ taken room ms → IsLastTaken room ms o → IsLastTaken room (ms ++ more) o
  last-same more ws None e k h = omega (arith, k, h)
  last-same more ws (Some x) e k (some, came_is, item_is) = (
    omega (arith, k),
    came_is ∙ sym (arrived-earlier (taken room ms - 1) ms more (omega (arith, some, taken-le room ms, entered-le room ms))) ∙ ap (λ n. arrived_tick (n - 1) (ms ++ more)) (sym k),
    item_is ∙ ap (λ (y : ℕ × ℕ). y.0) (sym (ap (λ n. item room (ms ++ more) (n - 1)) k ∙ ap (λ l. get_or l (taken room ms - 1) (0, 0)) e ∙ get_or_append_left (entered room ms) ws (0, 0) (taken room ms - 1) (omega (arith, some, taken-le room ms)))),
  )

-- ---- a word comes

module _ (room : ℕ) (old : BusData) (ms : List Move) (x : ℕ × ℕ) (h : IsLog room old ms) where
  pub received-shut : old.latched ≡ true → Received room old ms x Latched
  received-shut shut =
      let l : is_some (latch room ms) ≡ true = sym h.flag ∙ shut in
      let q = queue-in_latched room ms x l in
      record {
        holds = record {
          room_is = h.room_is;
          words = h.words ∙ sym (waiting-same room ms (ms ++ In x ∷ []) ((ticks_in ms, x) ∷ []) (came-in ms x) q.1 q.2);
          last = last-same room ms (In x ∷ []) [] old.last (q.1 ∙ sym (append-nil _)) q.2 h.last;
          flag = h.flag ∙ ap is_some (sym q.0);
        };
        answer = rw l refl;
      }

  pub received-full : old.latched ≡ false → room ≤ length old.words → Received room (record { words = old.words; last = old.last; latched = true; room = old.room }) ms x Overrun
  received-full free full =
      let l : is_some (latch room ms) ≡ false = sym h.flag ∙ free in
      let q = queue-in_full room ms x (none_from (latch room ms) l) (omega (arith, ap (λ ws. length ws) h.words, waiting-length room ms)) in
      record {
        holds = record {
          room_is = h.room_is;
          words = h.words ∙ sym (waiting-same room ms (ms ++ In x ∷ []) ((ticks_in ms, x) ∷ []) (came-in ms x) q.1 q.2);
          last = last-same room ms (In x ∷ []) [] old.last (q.1 ∙ sym (append-nil _)) q.2 h.last;
          flag = sym q.0;
        };
        answer = rw (l, q.0) refl;
      }

  pub received-free : old.latched ≡ false → length old.words < room → Received room (record { words = old.words ++ (ticks_in ms, x) ∷ []; last = old.last; latched = old.latched; room = old.room }) ms x (Queued (length (old.words ++ (ticks_in ms, x) ∷ [])))
  received-free free few =
      let l : is_some (latch room ms) ≡ false = sym h.flag ∙ free in
      let open_ = none_from (latch room ms) l in
      let q = queue-in_room room ms x open_ (omega (arith, ap (λ ws. length ws) h.words, waiting-length room ms)) in
      let words : old.words ++ (ticks_in ms, x) ∷ [] ≡ waiting room (ms ++ In x ∷ []) = ap (λ ws. ws ++ (ticks_in ms, x) ∷ []) h.words ∙ sym (waiting-in room ms x open_ q.1 q.2) in
      let many : length (old.words ++ (ticks_in ms, x) ∷ []) ≡ length (entered room (ms ++ In x ∷ [])) - taken room (ms ++ In x ∷ []) = ap (λ ws. length ws) words ∙ waiting-length room (ms ++ In x ∷ []) in
      record {
        holds = record { room_is = h.room_is; words = words; last = last-same room ms (In x ∷ []) (x ∷ []) old.last q.1 q.2 h.last; flag = free ∙ sym (ap is_some q.0) };
        answer = rw (l, q.0) (ap Queued many);
      }

-- ---- the queue is visited, or a tick ends

module _ (room : ℕ) (old : BusData) (ms : List Move) (h : IsLog room old ms) where
  waits : 1 ≤ length old.words → taken room ms < length (entered room ms)
  waits some = omega (arith, ap (λ ws. length ws) h.words, waiting-length room ms)

  pub visit-none : old.words ≡ [] → IsLog room old (ms ++ Visit ∷ [])
  visit-none none =
      let q = queue-visit room ms in
      let same : taken room (ms ++ Visit ∷ []) ≡ taken room ms = omega (arith, ap (λ ws. length ws) (sym none ∙ h.words), waiting-length room ms, q.2, taken-le room ms) in
      record {
        room_is = h.room_is;
        words = h.words ∙ sym (waiting-same room ms (ms ++ Visit ∷ []) [] (came-visit ms ∙ sym (append-nil (all_came ms))) q.1 same);
        last = last-same room ms (Visit ∷ []) [] old.last (q.1 ∙ sym (append-nil _)) same h.last;
        flag = h.flag ∙ sym (ap is_some q.0);
      }

  pub visit-one : (tick s w : ℕ) → 1 ≤ length old.words → (tick, (s, w)) ≡ get_or old.words 0 (0, (0, 0)) → IsLog room (record { words = drop 1 old.words; last = Some (tick, s); latched = old.latched; room = old.room }) (ms ++ Visit ∷ [])
  visit-one tick s w some first =
      let q = queue-visit room ms in
      let next : taken room (ms ++ Visit ∷ []) ≡ suc (taken room ms) = omega (arith, q.2, waits some) in
      let here : (tick, (s, w)) ≡ (arrived_tick (taken room ms) ms, item room ms (taken room ms)) = first ∙ ap (λ ws. get_or ws 0 (0, (0, 0))) h.words ∙ first-waiting room ms (waits some) in
      let back : taken room (ms ++ Visit ∷ []) - 1 ≡ taken room ms = omega (arith, next) in
      record {
        room_is = h.room_is;
        words = ap (drop 1) h.words ∙ sym (waiting-visit room ms (waits some));
        last = (
          omega (arith, next),
          ap (λ (z : ℕ × (ℕ × ℕ)). z.0) here ∙ sym (arrived-earlier (taken room ms) ms (Visit ∷ []) (omega (arith, waits some, entered-le room ms))) ∙ ap (λ n. arrived_tick n (ms ++ Visit ∷ [])) (sym back),
          ap (λ (z : ℕ × (ℕ × ℕ)). z.1.0) here ∙ ap (λ (l : List (ℕ × ℕ)). (get_or l (taken room ms) (0, 0)).0) (sym q.1) ∙ ap (λ n. (item room (ms ++ Visit ∷ []) n).0) (sym back),
        );
        flag = h.flag ∙ sym (ap is_some q.0);
      }

  pub log-tick : IsLog room old (ms ++ Tick ∷ [])
  log-tick =
      let q = queue-tick room ms in
      record { room_is = h.room_is; words = h.words ∙ sym (waiting-tick room ms); last = last-same room ms (Tick ∷ []) [] old.last (q.1 ∙ sym (append-nil _)) q.2 h.last; flag = h.flag ∙ sym (ap is_some q.0) }

pub log-new : (t : TableRows) (b : ℕ) → IsLog (room t b) (new_log (room t b)) (moves t b [])
unfolding moves each_place latch first_place is_overfull ins passed served_in entered taken picks waiting stamped
log-new t b =
    let calm : ltb (room t b + 0) 0 ≡ false = le-ltb _ _ (omega arith) in
    record { room_is = refl; words = rw calm refl; last = rw calm refl; flag = rw calm refl }
