-- One more move of a queue.
use Rattle.std.proofs.Common.{◌≡◌, ℕ, zero, suc, ◌+◌, ◌-◌, ◌≤◌, ◌<◌, min, Bool, true, false, cond, ltb, leb, Option, Some, None, is_some, option_map, List, [], ◌∷◌, ◌++◌, length, take, drop, get_or, refl, sym, ap, ◌∙◌, arith, length-append, take-append-drop}
use Rattle.std.proofs.lemmas.List.{take_all, append-nil, take_more, get_or_append_left}
use Rattle.std.proofs.lemmas.Bool.{ltb-false, lt-ltb, le-ltb, false≢true, le-leb, lt-leb}
use Rattle.std.proofs.lemmas.Bool.Decides.{nat_tests}
use Rattle.dc_bound.specs.Places.{served_in, or_else, when, first_place, last_below}
use Rattle.dc_bound.specs.Run.{picks, one_if}
use Rattle.dc_bound.specs.Moves.{Move, visit_of, ticks_in, visits, ins, passed, is_overfull, latch, before, entered, taken, routed_tick, latest_number, latest_by}
use Rattle.dc_bound.specs.Moves.Move.{Tick, In, Visit}
use Rattle.dc_bound.specs.lemmas.Queued.{ins-append, visits-append}
use Rattle.dc_bound.specs.lemmas.PlacesPush.{least-same, served-push, first_place-push, take_before_last, served-le, first_place-none_now, first_place-none_earlier, first_place-bound, last_below-same}
use Rattle.dc_bound.specs.lemmas.FirstPlaces.{first_place-none}

-- the item that comes in
abbrev pub item_in : Move → List (ℕ × ℕ)
item_in Tick = []
item_in (In x) = x ∷ []
item_in Visit = []

pub ins-push : (ms : List Move) (m : Move) → ins (ms ++ m ∷ []) ≡ ins ms ++ item_in m
unfolding ins
ins-push ms Tick = ins-append ms (Tick ∷ [])
ins-push ms (In x) = ins-append ms (In x ∷ [])
ins-push ms Visit = ins-append ms (Visit ∷ [])

pub visits-push : (ms : List Move) (m : Move) → visits (ms ++ m ∷ []) ≡ visits ms + one_if (visit_of m)
unfolding picks
visits-push ms m = omega (arith, visits-append ms (m ∷ []))

pub visits-rises : (ms : List Move) (j : ℕ) → visits (take j ms) ≤ visits ms
visits-rises ms j = omega (arith, visits-append (take j ms) (drop j ms), ap visits (take-append-drop j ms))

pub passed-push : (ms : List Move) (m : Move) → passed (ms ++ m ∷ []) ≡ min (passed ms + one_if (visit_of m)) (length (ins ms) + length (item_in m))
unfolding passed
passed-push ms m =
    let step = served-push (λ past. length (ins past)) visits ms m (one_if (visit_of m)) (λ j h. visits-rises ms j) (visits-push ms m) in
    let all : length (ins (ms ++ m ∷ [])) ≡ length (ins ms) + length (item_in m) = ap length (ins-push ms m) ∙ length-append (ins ms) (item_in m) in
    step ∙ ap (λ n. min (passed ms + one_if (visit_of m)) n) all

pub passed-le : (ms : List Move) → passed ms ≤ length (ins ms)
unfolding passed
passed-le ms = served-le (λ past. length (ins past)) visits ms

-- ---- the latch

pub latch-push : (room : ℕ) (ms : List Move) (m : Move) → latch room (ms ++ m ∷ []) ≡ or_else (latch room ms) (when (is_overfull room (ms ++ m ∷ [])) (suc (length ms)))
unfolding latch
latch-push room ms m = first_place-push (is_overfull room) ms m

pub latch-open_now : (room : ℕ) (ms : List Move) → latch room ms ≡ None → is_overfull room ms ≡ false
unfolding latch
latch-open_now room ms e = first_place-none_now (is_overfull room) ms e

pub latch-open_earlier : (room : ℕ) (ms : List Move) (j : ℕ) → j ≤ length ms → latch room ms ≡ None → latch room (take j ms) ≡ None
unfolding latch
latch-open_earlier room ms j h e = first_place-none_earlier (is_overfull room) ms j h e

pub latch-bound : (room : ℕ) (ms : List Move) (i : ℕ) → latch room ms ≡ Some i → i ≤ length ms
unfolding latch
latch-bound room ms i e = first_place-bound (is_overfull room) ms i e

-- ---- what entered and what was taken

pub entered-open : (room : ℕ) (ms : List Move) → latch room ms ≡ None → entered room ms ≡ ins ms
unfolding entered
entered-open room ms e = rw e refl

pub entered-at : (room : ℕ) (ms : List Move) (i : ℕ) → latch room ms ≡ Some i → entered room ms ≡ ins (take (i - 1) ms)
unfolding entered
entered-at room ms i e = rw e refl

pub taken-open : (room : ℕ) (ms : List Move) → latch room ms ≡ None → taken room ms ≡ passed ms
unfolding taken served_in passed
taken-open room ms e =
    least-same (λ j. length (entered room (take j ms)) + (visits (take (length ms) ms) - visits (take j ms))) (λ j. length (ins (take j ms)) + (visits (take (length ms) ms) - visits (take j ms))) (length ms)
    (λ j h. ap (λ ws. length ws + (visits (take (length ms) ms) - visits (take j ms))) (entered-open room (take j ms) (latch-open_earlier room ms j h e)))

pub taken-le : (room : ℕ) (ms : List Move) → taken room ms ≤ length (entered room ms)
unfolding taken
taken-le room ms = served-le (λ past. length (entered room past)) visits ms

pub taken-push : (room : ℕ) (ms : List Move) (m : Move) → taken room (ms ++ m ∷ []) ≡ min (taken room ms + one_if (visit_of m)) (length (entered room (ms ++ m ∷ [])))
unfolding taken
taken-push room ms m = served-push (λ past. length (entered room past)) visits ms m (one_if (visit_of m)) (λ j h. visits-rises ms j) (visits-push ms m)

-- once latched, nothing enters
pub entered-latched : (room : ℕ) (ms : List Move) (m : Move) (i : ℕ) → latch room ms ≡ Some i → entered room (ms ++ m ∷ []) ≡ entered room ms
entered-latched room ms m i e =
    let next : latch room (ms ++ m ∷ []) ≡ Some i = latch-push room ms m ∙ ap (λ o. or_else o (when (is_overfull room (ms ++ m ∷ [])) (suc (length ms)))) e in
    let b : i ≤ length ms = latch-bound room ms i e in
    entered-at room (ms ++ m ∷ []) i next ∙ ap ins (take_before_last ms m (i - 1) (omega arith)) ∙ sym (entered-at room ms i e)

-- where it latches, the word that comes does not enter
pub entered-latching : (room : ℕ) (ms : List Move) (m : Move) → latch room ms ≡ None → is_overfull room (ms ++ m ∷ []) ≡ true → entered room (ms ++ m ∷ []) ≡ entered room ms
entered-latching room ms m e over =
    let next : latch room (ms ++ m ∷ []) ≡ Some (suc (length ms)) = latch-push room ms m ∙ rw (e, over) refl in
    let here : take (length ms) (ms ++ m ∷ []) ≡ ms = take_before_last ms m (length ms) (omega arith) ∙ take_all (length ms) ms (omega arith) in
    let back : suc (length ms) - 1 ≡ length ms = omega arith in
    entered-at room (ms ++ m ∷ []) (suc (length ms)) next ∙ ap (λ k. ins (take k (ms ++ m ∷ []))) back ∙ ap ins here ∙ sym (entered-open room ms e)

pub latch-stays_open : (room : ℕ) (ms : List Move) (m : Move) → latch room ms ≡ None → is_overfull room (ms ++ m ∷ []) ≡ false → latch room (ms ++ m ∷ []) ≡ None
latch-stays_open room ms m e over = latch-push room ms m ∙ rw (e, over) refl

pub entered-stays_open : (room : ℕ) (ms : List Move) (m : Move) → latch room ms ≡ None → is_overfull room (ms ++ m ∷ []) ≡ false → entered room (ms ++ m ∷ []) ≡ entered room ms ++ item_in m
entered-stays_open room ms m e over =
    entered-open room (ms ++ m ∷ []) (latch-stays_open room ms m e over) ∙ ins-push ms m ∙ ap (λ ws. ws ++ item_in m) (sym (entered-open room ms e))

-- ---- the whole of one more move

-- nothing but a word that comes makes a queue overfull
pub overfull-other : (room : ℕ) (ms : List Move) (m : Move) → item_in m ≡ [] → is_overfull room ms ≡ false → is_overfull room (ms ++ m ∷ []) ≡ false
unfolding is_overfull
overfull-other room ms m none calm =
    let all : length (ins (ms ++ m ∷ [])) ≡ length (ins ms) = ap length (ins-push ms m ∙ ap (λ ws. ins ms ++ ws) none ∙ append-nil (ins ms)) in
    let few : length (item_in m) ≡ 0 = ap length none in
    let old : length (ins ms) ≤ room + passed ms = ltb-false _ _ calm in
    let le : passed ms ≤ length (ins ms) = passed-le ms in
    let next : passed (ms ++ m ∷ []) ≡ min (passed ms + one_if (visit_of m)) (length (ins ms) + length (item_in m)) = passed-push ms m in
    le-ltb _ _ (omega arith)

pub record SameQueue (room : ℕ) (ms more : List Move) : Type 0 where
  pub latch_same : latch room more ≡ latch room ms
  pub entered_same : entered room more ≡ entered room ms

pub queue-other : (room : ℕ) (ms : List Move) (m : Move) → item_in m ≡ [] → SameQueue room ms (ms ++ m ∷ [])
queue-other room ms m none =
    elim (latch room ms) as (λ o. latch room ms ≡ o → SameQueue room ms (ms ++ m ∷ [])) [
      | None ↦ λ e.
          let calm = overfull-other room ms m none (latch-open_now room ms e) in
          record { latch_same = latch-stays_open room ms m e calm ∙ sym e; entered_same = entered-stays_open room ms m e calm ∙ ap (λ ws. entered room ms ++ ws) none ∙ append-nil (entered room ms) }
      | Some i ↦ λ e. record { latch_same = latch-push room ms m ∙ rw e refl; entered_same = entered-latched room ms m i e }
    ] refl

-- a tick changes nothing
pub queue-tick : (room : ℕ) (ms : List Move) → (latch room (ms ++ Tick ∷ []) ≡ latch room ms) × (entered room (ms ++ Tick ∷ []) ≡ entered room ms) × (taken room (ms ++ Tick ∷ []) ≡ taken room ms)
queue-tick room ms =
    let q : SameQueue room ms (ms ++ Tick ∷ []) = queue-other room ms Tick refl in
    (q.latch_same, q.entered_same, (let l = ap length q.entered_same in omega (arith, taken-push room ms Tick, l, taken-le room ms)))

-- a visit takes one word, where one waits
pub queue-visit : (room : ℕ) (ms : List Move) → (latch room (ms ++ Visit ∷ []) ≡ latch room ms) × (entered room (ms ++ Visit ∷ []) ≡ entered room ms) × (taken room (ms ++ Visit ∷ []) ≡ min (taken room ms + 1) (length (entered room ms)))
queue-visit room ms =
    let q : SameQueue room ms (ms ++ Visit ∷ []) = queue-other room ms Visit refl in
    (q.latch_same, q.entered_same, (let l = ap length q.entered_same in omega (arith, taken-push room ms Visit, l)))

-- a word that comes to a latched queue
pub queue-in_latched : (room : ℕ) (ms : List Move) (w : ℕ × ℕ) → is_some (latch room ms) ≡ true → (latch room (ms ++ In w ∷ []) ≡ latch room ms) × (entered room (ms ++ In w ∷ []) ≡ entered room ms) × (taken room (ms ++ In w ∷ []) ≡ taken room ms)
queue-in_latched room ms w h =
    elim (latch room ms) as (λ o. latch room ms ≡ o → is_some o ≡ true → (latch room (ms ++ In w ∷ []) ≡ latch room ms) × (entered room (ms ++ In w ∷ []) ≡ entered room ms) × (taken room (ms ++ In w ∷ []) ≡ taken room ms)) [
      | None ↦ λ e h. absurd cc
      | Some i ↦ λ e h.
          let same = entered-latched room ms (In w) i e in
          let l = ap length same in
          (latch-push room ms (In w) ∙ rw e refl, same, omega (arith, taken-push room ms (In w), l, taken-le room ms))
    ] refl h

pub none_from : (o : Option ℕ) → is_some o ≡ false → o ≡ None
none_from None h = refl
none_from (Some i) h = absurd cc

-- an open queue is overfull with one more word exactly where its backlog is its room
pub overfull-in : (room : ℕ) (ms : List Move) (w : ℕ × ℕ) → latch room ms ≡ None → is_overfull room (ms ++ In w ∷ []) ≡ leb room (length (entered room ms) - taken room ms)
unfolding is_overfull
overfull-in room ms w e =
    let all : length (ins (ms ++ In w ∷ [])) ≡ length (ins ms) + 1 = ap length (ins-push ms (In w)) ∙ length-append (ins ms) (w ∷ []) in
    let le : passed ms ≤ length (ins ms) = passed-le ms in
    let next : passed (ms ++ In w ∷ []) ≡ passed ms = omega (arith, passed-push ms (In w), le) in
    let t : taken room ms ≡ passed ms = taken-open room ms e in
    let n : length (entered room ms) ≡ length (ins ms) = ap length (entered-open room ms e) in
    grind (arith, nat_tests)

pub queue-in_full : (room : ℕ) (ms : List Move) (w : ℕ × ℕ) → latch room ms ≡ None → room ≤ length (entered room ms) - taken room ms
    → (is_some (latch room (ms ++ In w ∷ [])) ≡ true) × (entered room (ms ++ In w ∷ []) ≡ entered room ms) × (taken room (ms ++ In w ∷ []) ≡ taken room ms)
queue-in_full room ms w e full =
    let over : is_overfull room (ms ++ In w ∷ []) ≡ true = overfull-in room ms w e ∙ le-leb _ _ full in
    let same = entered-latching room ms (In w) e over in
    let l = ap length same in
    (ap is_some (latch-push room ms (In w)) ∙ rw (e, over) refl, same, omega (arith, taken-push room ms (In w), l, taken-le room ms))

pub queue-in_room : (room : ℕ) (ms : List Move) (w : ℕ × ℕ) → latch room ms ≡ None → length (entered room ms) - taken room ms < room
    → (latch room (ms ++ In w ∷ []) ≡ None) × (entered room (ms ++ In w ∷ []) ≡ entered room ms ++ w ∷ []) × (taken room (ms ++ In w ∷ []) ≡ taken room ms)
queue-in_room room ms w e free =
    let calm : is_overfull room (ms ++ In w ∷ []) ≡ false = overfull-in room ms w e ∙ lt-leb _ _ free in
    let more = entered-stays_open room ms (In w) e calm in
    let l : length (entered room (ms ++ In w ∷ [])) ≡ length (entered room ms) + 1 = ap length more ∙ length-append (entered room ms) (w ∷ []) in
    (latch-stays_open room ms (In w) e calm, more, omega (arith, taken-push room ms (In w), l, taken-le room ms))

-- ---- when words were taken

pub entered-grows : (room : ℕ) (ms : List Move) (m : Move) → length (entered room ms) ≤ length (entered room (ms ++ m ∷ []))
entered-grows room ms m =
    elim (latch room ms) as (λ o. latch room ms ≡ o → length (entered room ms) ≤ length (entered room (ms ++ m ∷ []))) [
      | None ↦ λ e.
          elim (is_overfull room (ms ++ m ∷ [])) as (λ b. is_overfull room (ms ++ m ∷ []) ≡ b → length (entered room ms) ≤ length (entered room (ms ++ m ∷ []))) [
            | true ↦ λ over. (let l = ap length (entered-latching room ms m e over) in omega arith)
            | false ↦ λ over. (let l = ap length (entered-stays_open room ms m e over) in omega (arith, l, length-append (entered room ms) (item_in m)))
          ] refl
      | Some i ↦ λ e. (let l = ap length (entered-latched room ms m i e) in omega arith)
    ] refl

pub taken-grows : (room : ℕ) (ms : List Move) (m : Move) → taken room ms ≤ taken room (ms ++ m ∷ [])
taken-grows room ms m = omega (arith, taken-push room ms m, entered-grows room ms m, taken-le room ms)

pub taken-rises_by : (room : ℕ) (ms : List Move) (j d : ℕ) → j + d ≤ length ms → taken room (take j ms) ≤ taken room (take (j + d) ms)
taken-rises_by room ms j zero h = let z : j + 0 ≡ j = omega arith in rw z (omega arith)
taken-rises_by room ms j (suc d) h =
    let rec : taken room (take j ms) ≤ taken room (take (j + d) ms) = taken-rises_by room ms j d (omega arith) in
    let more : take (j + d + 1) ms ≡ take (j + d) ms ++ get_or ms (j + d) Tick ∷ [] = take_more ms (j + d) Tick (omega arith) in
    let e : j + suc d ≡ j + d + 1 = omega arith in
    let step : taken room (take (j + d) ms) ≤ taken room (take (j + d) ms ++ get_or ms (j + d) Tick ∷ []) = taken-grows room (take (j + d) ms) (get_or ms (j + d) Tick) in
    rw (e, more) (omega arith)

pub taken-rises : (room : ℕ) (ms : List Move) (j : ℕ) → j ≤ length ms → taken room (take j ms) ≤ taken room ms
taken-rises room ms j h =
    let d : j + (length ms - j) ≡ length ms = omega arith in
    let whole : take (j + (length ms - j)) ms ≡ ms = rw d (take_all (length ms) ms (omega arith)) in
    let le = taken-rises_by room ms j (length ms - j) (omega arith) in
    let e = ap (taken room) whole in
    omega arith

-- a word that was taken keeps its tick
pub routed_tick-keeps : (room n : ℕ) (ms : List Move) (m : Move) → n < taken room ms → routed_tick room n (ms ++ m ∷ []) ≡ routed_tick room n ms
unfolding routed_tick
routed_tick-keeps room n ms m h =
    let p : List Move → Bool = λ past. ltb n (taken room past) in
    elim (first_place p ms) as (λ o. first_place p ms ≡ o → ticks_in (before (first_place p (ms ++ m ∷ [])) (ms ++ m ∷ [])) ≡ ticks_in (before (first_place p ms) ms)) [
      | None ↦ λ e. absurd (false≢true (sym (first_place-none_now p ms e) ∙ lt-ltb n (taken room ms) h))
      | Some i ↦ λ e.
          let b : i ≤ length ms = first_place-bound p ms i e in
          let next : first_place p (ms ++ m ∷ []) ≡ Some i = first_place-push p ms m ∙ ap (λ o. or_else o (when (p (ms ++ m ∷ [])) (suc (length ms)))) e in
          ap (λ o. ticks_in (before o (ms ++ m ∷ []))) next ∙ ap ticks_in (take_before_last ms m (i - 1) (omega arith)) ∙ sym (ap (λ o. ticks_in (before o ms)) e)
    ] refl

-- a word that is taken now has the tick of now
pub routed_tick-now : (room : ℕ) (ms : List Move) (m : Move) → taken room ms < taken room (ms ++ m ∷ []) → routed_tick room (taken room ms) (ms ++ m ∷ []) ≡ ticks_in ms
unfolding routed_tick
routed_tick-now room ms m h =
    let p : List Move → Bool = λ past. ltb (taken room ms) (taken room past) in
    let none : first_place p ms ≡ None = first_place-none p ms (λ j l. le-ltb _ _ (taken-rises room ms j l)) in
    let yes : p (ms ++ m ∷ []) ≡ true = lt-ltb _ _ h in
    let next : first_place p (ms ++ m ∷ []) ≡ Some (suc (length ms)) = first_place-push p ms m ∙ rw (none, yes) refl in
    let here : take (length ms) (ms ++ m ∷ []) ≡ ms = take_before_last ms m (length ms) (omega arith) ∙ take_all (length ms) ms (omega arith) in
    let back : suc (length ms) - 1 ≡ length ms = omega arith in
    ap (λ o. ticks_in (before o (ms ++ m ∷ []))) next ∙ ap (λ k. ticks_in (take k (ms ++ m ∷ []))) back ∙ ap ticks_in here

-- where nothing more was taken, and words entered at most after, the latest word is the same
pub latest_by-same : (room : ℕ) (p : ℕ × ℕ → Bool) (ms : List Move) (m : Move) (ws : List (ℕ × ℕ)) → entered room (ms ++ m ∷ []) ≡ entered room ms ++ ws → taken room (ms ++ m ∷ []) ≡ taken room ms
    → latest_by room p (ms ++ m ∷ []) ≡ latest_by room p ms
unfolding latest_by latest_number
latest_by-same room p ms m ws behind same =
    let le = taken-le room ms in
    let at : (k : ℕ) → k < taken room ms → get_or (entered room (ms ++ m ∷ [])) k (0, 0) ≡ get_or (entered room ms) k (0, 0) = λ k h. ap (λ l. get_or l k (0, 0)) behind ∙ get_or_append_left (entered room ms) ws (0, 0) k (omega arith) in
    rw same (last_below-same (λ n. p (get_or (entered room (ms ++ m ∷ [])) n (0, 0))) (λ n. p (get_or (entered room ms) n (0, 0))) (λ n. (get_or (entered room (ms ++ m ∷ [])) n (0, 0), routed_tick room n (ms ++ m ∷ []))) (λ n. (get_or (entered room ms) n (0, 0), routed_tick room n ms)) (taken room ms)
    (λ k h. ap p (at k h)) (λ k h. ap (λ w. (w, routed_tick room k (ms ++ m ∷ []))) (at k h) ∙ ap (λ u. (get_or (entered room ms) k (0, 0), u)) (routed_tick-keeps room k ms m h)))

-- a visit that takes a word makes it the latest, if it passes
pub latest_by-takes : (room : ℕ) (p : ℕ × ℕ → Bool) (ms : List Move) → taken room ms < length (entered room ms)
    → latest_by room p (ms ++ Visit ∷ []) ≡ cond (p (get_or (entered room ms) (taken room ms) (0, 0))) (Some (get_or (entered room ms) (taken room ms) (0, 0), ticks_in ms)) (latest_by room p ms)
unfolding latest_by latest_number
latest_by-takes room p ms h =
    let v = queue-visit room ms in
    let next : taken room (ms ++ Visit ∷ []) ≡ suc (taken room ms) = omega (arith, v.2) in
    let now : routed_tick room (taken room ms) (ms ++ Visit ∷ []) ≡ ticks_in ms = routed_tick-now room ms Visit (omega arith) in
    let old : option_map (λ n. (get_or (entered room ms) n (0, 0), routed_tick room n (ms ++ Visit ∷ []))) (last_below (λ n. p (get_or (entered room ms) n (0, 0))) (taken room ms)) ≡ latest_by room p ms =
    last_below-same (λ n. p (get_or (entered room ms) n (0, 0))) (λ n. p (get_or (entered room ms) n (0, 0))) (λ n. (get_or (entered room ms) n (0, 0), routed_tick room n (ms ++ Visit ∷ []))) (λ n. (get_or (entered room ms) n (0, 0), routed_tick room n ms)) (taken room ms)
    (λ k l. refl) (λ k l. ap (λ u. (get_or (entered room ms) k (0, 0), u)) (routed_tick-keeps room k ms Visit l)) in
    let at : (k : ℕ) → get_or (entered room (ms ++ Visit ∷ [])) k (0, 0) ≡ get_or (entered room ms) k (0, 0) = λ k. ap (λ l. get_or l k (0, 0)) v.1 in
    let moved = last_below-same (λ n. p (get_or (entered room (ms ++ Visit ∷ [])) n (0, 0))) (λ n. p (get_or (entered room ms) n (0, 0))) (λ n. (get_or (entered room (ms ++ Visit ∷ [])) n (0, 0), routed_tick room n (ms ++ Visit ∷ []))) (λ n. (get_or (entered room ms) n (0, 0), routed_tick room n (ms ++ Visit ∷ []))) (suc (taken room ms))
    (λ k l. ap p (at k)) (λ k l. ap (λ w. (w, routed_tick room k (ms ++ Visit ∷ []))) (at k)) in
    rw next (moved ∙
    (elim (p (get_or (entered room ms) (taken room ms) (0, 0))) as (λ b. option_map (λ n. (get_or (entered room ms) n (0, 0), routed_tick room n (ms ++ Visit ∷ []))) (cond b (Some (taken room ms)) (last_below (λ n. p (get_or (entered room ms) n (0, 0))) (taken room ms)))
    ≡ cond b (Some (get_or (entered room ms) (taken room ms) (0, 0), ticks_in ms)) (latest_by room p ms))
    [ true ↦ ap (λ u. Some (get_or (entered room ms) (taken room ms) (0, 0), u)) now | false ↦ old ]))
