-- Laws of a queue over its moves, and of a bus's queue over a run.
use Rattle.std.proofs.Common.{◌≡◌, ℕ, ◌+◌, ◌-◌, ◌≤◌, ◌<◌, ◌==◌, ◌&&◌, Bool, true, false, cond, not, ltb, eqb, Option, Some, None, is_some, List, [], ◌∷◌, ◌++◌, length, take, map, refl, sym, ap, inl, inr, ◌∙◌, subst, arith, append_assoc, take-append-drop}
use Rattle.std.specs.Prelude.{if◌then◌else◌}
use Rattle.std.specs.List.{flat_map}
use Rattle.std.proofs.lemmas.List.{append-nil, take-append-le, take_all, take_more, map-append, length-map, get_or-map}
use Rattle.std.proofs.lemmas.Grind.{flat_map-append}
use Rattle.std.proofs.lemmas.Bool.{cases_lt, cases_eq, eq-eqb, ne_eqb, ltb-false, lt-ltb, le-ltb}
use Rattle.dc_bound.specs.Run.{stamp, stamped}
use Rattle.dc_bound.specs.lemmas.FirstPlaces.{snoc_induction}
use Rattle.dc_bound.specs.Places.{each_place}
use Rattle.dc_bound.specs.Moves.{Move, move_ends, came, push, ins, is_overfull, latch, entered, taken, item, passed}
use Rattle.dc_bound.specs.Moves.Move.{Tick as TickMove, In, Visit}
use Rattle.dc_bound.specs.lemmas.QueuePush.{item_in, latch-push, entered-open, entered-latched, entered-latching, entered-stays_open, taken-open, taken-le, taken-grows, queue-tick, queue-visit, queue-in_latched, queue-in_full, queue-in_room, none_from}
use Rattle.dc_bound.specs.lemmas.QueueTimes.{entered-le, arrived-le-routed}
use Rattle.dc_word.specs.Word.{is_odd}
use Rattle.dc_tables.specs.Declares.{stream_of}
use Rattle.dc_tables.specs.TableRows.{TableRows}
use Rattle.dc_event.specs.Offers.{refuses_early, let_in}
use Rattle.dc_event.specs.Buses.{visited_bus, in_of, move_of, moves, room, is_latched, bus_entered, bus_taken, bus_item, backlog}
use Rattle.dc_event.specs.Outputs.{sent}
use Rattle.dc_event.specs.Replies.{reply, outputs_of}
use Rattle.dc_event.specs.Laws.{BacklogFits, words_of, taken_word, taken_words, waiting_words, IsFirstInFirstOut, QueuesGrow, AllEnter, ComeBeforeRouted}
use Rattle.dc_event.specs.lemmas.RunPush.{outputs_of-push, moves-push}
use Rattle.dc_event.specs.lemmas.RunMoves.{moves-beginning, moves-nil}
use Rattle.dc_event.specs.declared.event.Event.{Event}
use Rattle.dc_event.specs.declared.event.Event.TheVariants.{Tick, Arrive, Route, Send}
use Rattle.dc_event.specs.declared.event.Reply.TheVariants.{Queued, BadParity, Undeclared, TooEarly, Overrun, Latched, Took, Empty, Sent, Idle}

-- ---- the backlog

nothing : length (ins []) ≡ 0
unfolding ins
nothing = refl

fits-step : (room : ℕ) (ms : List Move) (m : Move) → length (entered room ms) ≤ room + taken room ms → length (entered room (ms ++ m ∷ [])) ≤ room + taken room (ms ++ m ∷ [])
unfolding is_overfull
fits-step room ms m h =
    let more : List Move = ms ++ m ∷ [] in
    let grows : taken room ms ≤ taken room (ms ++ m ∷ []) = taken-grows room ms m in
    elim (latch room ms) as (λ o. latch room ms ≡ o → length (entered room (ms ++ m ∷ [])) ≤ room + taken room (ms ++ m ∷ [])) [
      | Some i ↦ λ e. omega (arith, ap length (entered-latched room ms m i e))
      | None ↦ λ e. elim (is_overfull room (ms ++ m ∷ [])) as (λ v. is_overfull room (ms ++ m ∷ []) ≡ v → length (entered room (ms ++ m ∷ [])) ≤ room + taken room (ms ++ m ∷ [])) [
        | true ↦ λ over. omega (arith, ap length (entered-latching room ms m e over))
        | false ↦ λ calm.
            let unlatched : latch room (ms ++ m ∷ []) ≡ None = latch-push room ms m ∙ rw (e, calm) refl in
            omega (arith, ap length (entered-open room (ms ++ m ∷ []) unlatched), taken-open room (ms ++ m ∷ []) unlatched, ltb-false (room + passed (ms ++ m ∷ [])) (length (ins (ms ++ m ∷ []))) calm)
      ] refl
    ] refl

pub backlog-fits : (room : ℕ) (ms : List Move) → length (entered room ms) ≤ room + taken room ms
backlog-fits room ms =
    let P : List Move → Type 0 = λ ms. length (entered room ms) ≤ room + taken room ms in
    snoc_induction P (omega (arith, entered-le room [], nothing)) (λ ms m h. fits-step room ms m h) ms

pub backlogs_fit : (t : TableRows) → BacklogFits t
backlogs_fit t b run = omega (arith, backlog-fits (room t b) (moves t b run))

-- ---- what entered and what was taken only grow

entered-more : (room : ℕ) (ms : List Move) (m : Move) → (more : List (ℕ × ℕ)) × (entered room (ms ++ m ∷ []) ≡ entered room ms ++ more)
entered-more room ms m =
    elim (latch room ms) as (λ o. latch room ms ≡ o → (more : List (ℕ × ℕ)) × (entered room (ms ++ m ∷ []) ≡ entered room ms ++ more)) [
      | Some i ↦ λ e. ([], entered-latched room ms m i e ∙ sym (append-nil (entered room ms)))
      | None ↦ λ e. elim (is_overfull room (ms ++ m ∷ [])) as (λ v. is_overfull room (ms ++ m ∷ []) ≡ v → (more : List (ℕ × ℕ)) × (entered room (ms ++ m ∷ []) ≡ entered room ms ++ more)) [
        | true ↦ λ over. ([], entered-latching room ms m e over ∙ sym (append-nil (entered room ms)))
        | false ↦ λ calm. (item_in m, entered-stays_open room ms m e calm)
      ] refl
    ] refl

pub entered-beginning : (room : ℕ) (a b : List Move) → (more : List (ℕ × ℕ)) × (entered room (a ++ b) ≡ entered room a ++ more)
entered-beginning room a [] = ([], ap (entered room) (append-nil a) ∙ sym (append-nil (entered room a)))
entered-beginning room a (m ∷ b) =
    let r = entered-beginning room (a ++ m ∷ []) b in
    let one = entered-more room a m in
    (one.0 ++ r.0, ap (entered room) (sym (append_assoc a (m ∷ []) b)) ∙ r.1 ∙ ap (λ xs. xs ++ r.0) one.1 ∙ append_assoc (entered room a) one.0 r.0)

pub taken-beginning : (room : ℕ) (a b : List Move) → taken room a ≤ taken room (a ++ b)
taken-beginning room a [] = omega (arith, ap (taken room) (append-nil a))
taken-beginning room a (m ∷ b) = omega (arith, taken-grows room a m, taken-beginning room (a ++ m ∷ []) b, ap (taken room) (append_assoc a (m ∷ []) b))

pub queues_grow : (t : TableRows) → QueuesGrow t
queues_grow t b past rest =
    let r = moves-beginning t b past rest in
    let more = entered-beginning (room t b) (moves t b past) r.0 in
    record {
      entered_grows = (more.0, ap (entered (room t b)) r.1 ∙ more.1);
      taken_grows = omega (arith, taken-beginning (room t b) (moves t b past) r.0, ap (taken (room t b)) r.1);
      taken_entered = taken-le (room t b) (moves t b past);
    }

-- ---- without a latch

stamp-items : (t : ℕ) (m : Move) (rest : List (ℕ × (ℕ × ℕ))) → map (λ a. a.1) (stamp t (came m) rest) ≡ push m (map (λ a. a.1) rest)
stamp-items t TickMove rest = refl
stamp-items t (In x) rest = refl
stamp-items t Visit rest = refl

pub came-items : (t : ℕ) (ms : List Move) → map (λ a. a.1) (stamped move_ends came t ms) ≡ ins ms
unfolding stamped ins
came-items t [] = refl
came-items t (m ∷ ms) = stamp-items t m (stamped move_ends came (t + move_ends m) ms) ∙ ap (λ xs. push m xs) (came-items (t + move_ends m) ms)

pub all_enter : (t : TableRows) → AllEnter t
all_enter t b run unlatched =
    let none : latch (room t b) (moves t b run) ≡ None = none_from (latch (room t b) (moves t b run)) unlatched in
    came-items 0 (moves t b run) ∙ sym (entered-open (room t b) (moves t b run) none)

pub come_before_routed : (t : TableRows) → ComeBeforeRouted t
come_before_routed t b n run h = arrived-le-routed (room t b) n (moves t b run) h

-- ---- first in, first out

taken_words-push : (t : TableRows) (b : ℕ) (run : List Event) (e : Event) → taken_words t b (run ++ e ∷ []) ≡ taken_words t b run ++ taken_word b (reply t run e)
taken_words-push t b run e =
    ap (λ l. flat_map (taken_word b) l) (outputs_of-push t run e) ∙ flat_map-append (taken_word b) (outputs_of t run) (reply t run e ∷ [])
    ∙ ap (λ z. flat_map (taken_word b) (outputs_of t run) ++ z) (append-nil (taken_word b (reply t run e)))

-- the words of the first taken items
abbrev front : ℕ → List Move → List ℕ
front room ms = take (taken room ms) (words_of (entered room ms))

front-same : (room : ℕ) (ms next : List Move) (more : List (ℕ × ℕ)) → entered room next ≡ entered room ms ++ more → taken room next ≡ taken room ms → front room next ≡ front room ms
front-same room ms next more behind same =
    let le : taken room ms ≤ length (words_of (entered room ms)) = omega (arith, taken-le room ms, length-map (entered room ms) (λ x. x.1)) in
    ap (λ n. take n (words_of (entered room next))) same ∙ ap (λ xs. take (taken room ms) (words_of xs)) behind
    ∙ ap (λ xs. take (taken room ms) xs) (map-append (λ x. x.1) (entered room ms) more) ∙ take-append-le (taken room ms) (words_of (entered room ms)) (words_of more) le

front-tick : (room : ℕ) (ms : List Move) → front room (ms ++ TickMove ∷ []) ≡ front room ms
front-tick room ms =
    let q = queue-tick room ms in
    front-same room ms (ms ++ TickMove ∷ []) [] (q.1 ∙ sym (append-nil (entered room ms))) q.2

front-in : (room : ℕ) (ms : List Move) (x : ℕ × ℕ) → front room (ms ++ In x ∷ []) ≡ front room ms
front-in room ms x =
    elim (latch room ms) as (λ o. latch room ms ≡ o → front room (ms ++ In x ∷ []) ≡ front room ms) [
      | Some i ↦ λ e.
          let q = queue-in_latched room ms x (ap is_some e) in
          front-same room ms (ms ++ In x ∷ []) [] (q.1 ∙ sym (append-nil (entered room ms))) q.2
      | None ↦ λ e. elim (cases_lt (length (entered room ms) - taken room ms) room) [
        | inl free ↦
            let q = queue-in_room room ms x e free in
            front-same room ms (ms ++ In x ∷ []) (x ∷ []) q.1 q.2
        | inr full ↦
            let q = queue-in_full room ms x e full in
            front-same room ms (ms ++ In x ∷ []) [] (q.1 ∙ sym (append-nil (entered room ms))) q.2
      ]
    ] refl

front-arrival : (room : ℕ) (ms : List Move) (o : Option ℕ) (w : ℕ) → front room (ms ++ in_of o w) ≡ front room ms
front-arrival room ms None w = ap (front room) (append-nil ms)
front-arrival room ms (Some s) w = front-in room ms (s, w)

-- a visit takes the next word, where one waits
front-takes : (room : ℕ) (ms : List Move) → taken room ms < length (entered room ms) → front room (ms ++ Visit ∷ []) ≡ front room ms ++ (item room ms (taken room ms)).1 ∷ []
front-takes room ms h =
    let q = queue-visit room ms in
    let next : taken room (ms ++ Visit ∷ []) ≡ taken room ms + 1 = omega (arith, q.2) in
    let lt : taken room ms < length (words_of (entered room ms)) = omega (arith, length-map (entered room ms) (λ x. x.1)) in
    ap (λ n. take n (words_of (entered room (ms ++ Visit ∷ [])))) next ∙ ap (λ xs. take (taken room ms + 1) (words_of xs)) q.1
    ∙ take_more (words_of (entered room ms)) (taken room ms) 0 lt
    ∙ ap (λ w. front room ms ++ w ∷ []) (get_or-map (λ x. x.1) (entered room ms) (taken room ms) (0, 0) 0 h)

front-empty : (room : ℕ) (ms : List Move) → length (entered room ms) ≤ taken room ms → front room (ms ++ Visit ∷ []) ≡ front room ms
front-empty room ms h =
    let q = queue-visit room ms in
    let same : taken room (ms ++ Visit ∷ []) ≡ taken room ms = omega (arith, q.2, taken-le room ms) in
    front-same room ms (ms ++ Visit ∷ []) [] (q.1 ∙ sym (append-nil (entered room ms))) same

-- an arrival's reply takes nothing
arrival_takes_nothing : (b n : ℕ) (p q early r s : Bool) → taken_word b (if p then BadParity else if q then Undeclared else if early then TooEarly else if r then Latched else if s then Overrun else Queued n) ≡ []
arrival_takes_nothing b n true q early r s = refl
arrival_takes_nothing b n false true early r s = refl
arrival_takes_nothing b n false false true r s = refl
arrival_takes_nothing b n false false false true s = refl
arrival_takes_nothing b n false false false false true = refl
arrival_takes_nothing b n false false false false false = refl

send_takes_nothing : (b l w : ℕ) (p : Bool) → taken_word b (if p then Sent l w else Idle) ≡ []
send_takes_nothing b l w true = refl
send_takes_nothing b l w false = refl

other_takes_nothing : (b a w : ℕ) (p : Bool) → eqb a b ≡ false → taken_word b (if p then Took w a else Empty a) ≡ []
other_takes_nothing b a w true e = rw e refl
other_takes_nothing b a w false e = refl

module _ (t : TableRows) (b : ℕ) (run : List Event) where
  abbrev here : List Move
  here = moves t b run

  abbrev Steps : Event → Type 0
  Steps e = front (room t b) (moves t b (run ++ e ∷ [])) ≡ front (room t b) (moves t b run) ++ taken_word b (reply t run e)

  quiet : (e : Event) → front (room t b) (moves t b run ++ move_of t b run e) ≡ front (room t b) (moves t b run) → taken_word b (reply t run e) ≡ [] → Steps e
  quiet e same none = ap (front (room t b)) (moves-push t b run e) ∙ same ∙ sym (append-nil (front (room t b) (moves t b run))) ∙ ap (λ z. front (room t b) (moves t b run) ++ z) (sym none)

  step-tick : Steps Tick
  unfolding reply
  step-tick = quiet Tick (front-tick (room t b) (moves t b run)) refl

  step-arrive : (a w : ℕ) → Steps (Arrive w a)
  unfolding reply
  step-arrive a w =
      let R : ℕ = room t b in
      let same : front (room t b) (moves t b run ++ move_of t b run (Arrive w a)) ≡ front (room t b) (moves t b run) =
      elim ((a == b) && is_odd w) as (λ v. front (room t b) (moves t b run ++ cond v (in_of (let_in t b run (stream_of t b w)) w) []) ≡ front (room t b) (moves t b run)) [
        | true ↦ front-arrival (room t b) (moves t b run) (let_in t b run (stream_of t b w)) w
        | false ↦ ap (front (room t b)) (append-nil (moves t b run))
      ] in
      quiet (Arrive w a) same (arrival_takes_nothing b (backlog t a (run ++ Arrive w a ∷ [])) (not (is_odd w)) (not (is_some (stream_of t a w))) (refuses_early t a run (stream_of t a w)) (is_latched t a run) (is_latched t a (run ++ Arrive w a ∷ [])))

  step-send : (o : ℕ) → Steps (Send o)
  unfolding reply
  step-send o =
      quiet (Send o) (ap (front (room t b)) (append-nil (moves t b run))) (send_takes_nothing b _ _ (ltb (sent t o run) (sent t o (run ++ Send o ∷ []))))

  step-elsewhere : (r : ℕ) → eqb (visited_bus t r run) b ≡ false → Steps (Route r)
  unfolding reply
  step-elsewhere r other =
      let same : front (room t b) (moves t b run ++ move_of t b run (Route r)) ≡ front (room t b) (moves t b run) =
      ap (λ v. front (room t b) (moves t b run ++ cond v (Visit ∷ []) [])) other ∙ ap (front (room t b)) (append-nil (moves t b run)) in
      quiet (Route r) same (other_takes_nothing b (visited_bus t r run) _ (ltb (bus_taken t (visited_bus t r run) run) (bus_taken t (visited_bus t r run) (run ++ Route r ∷ []))) other)

  -- the reply to a step that visits the bus
  step-here : (r : ℕ) → visited_bus t r run ≡ b → Steps (Route r)
  unfolding reply
  step-here r at =
      let yes' : eqb (visited_bus t r run) b ≡ true = eq-eqb (visited_bus t r run) b at in
      let self : eqb b b ≡ true = eq-eqb b b refl in
      let next : moves t b (run ++ Route r ∷ []) ≡ moves t b run ++ Visit ∷ [] = moves-push t b run (Route r) ∙ ap (λ v. moves t b run ++ cond v (Visit ∷ []) []) yes' in
      let q = queue-visit (room t b) (moves t b run) in
      let taken_now : bus_taken t b (run ++ Route r ∷ []) ≡ taken (room t b) (moves t b run ++ Visit ∷ []) = ap (taken (room t b)) next in
      let P : ℕ → Type 0 = λ a. front (room t b) (moves t b (run ++ Route r ∷ [])) ≡ front (room t b) (moves t b run) ++ taken_word b (if ltb (bus_taken t a run) (bus_taken t a (run ++ Route r ∷ [])) then Took (bus_item t a run (bus_taken t a run)).1 a else Empty a) in
      subst P (sym at) (elim (cases_lt (taken (room t b) (moves t b run)) (length (entered (room t b) (moves t b run)))) [
        | inl l ↦
            let more : ltb (bus_taken t b run) (bus_taken t b (run ++ Route r ∷ [])) ≡ true = lt-ltb _ _ (omega (arith, q.2, taken_now)) in
            ap (front (room t b)) next ∙ front-takes (room t b) (moves t b run) l ∙ rw (more, self) refl
        | inr l ↦
            let none : ltb (bus_taken t b run) (bus_taken t b (run ++ Route r ∷ [])) ≡ false = le-ltb _ _ (omega (arith, q.2, taken_now)) in
            ap (front (room t b)) next ∙ front-empty (room t b) (moves t b run) l ∙ sym (append-nil (front (room t b) (moves t b run))) ∙ rw none refl
      ])

  step-route : (r : ℕ) → Steps (Route r)
  step-route r = elim (cases_eq (visited_bus t r run) b) [ inl at ↦ step-here r at | inr other ↦ step-elsewhere r (ne_eqb _ _ other) ]

  step-each : (e : Event) → Steps e
  step-each Tick = step-tick
  step-each (Arrive w a) = step-arrive a w
  step-each (Route r) = step-route r
  step-each (Send o) = step-send o

taken_words-nil : (t : TableRows) (b : ℕ) → taken_words t b [] ≡ []
unfolding outputs_of each_place
taken_words-nil t b = refl

none_of_length : (xs : List (ℕ × ℕ)) → length xs ≡ 0 → xs ≡ []
none_of_length [] h = refl
none_of_length (x ∷ xs) h = absurd (omega arith)

front-nil : (room : ℕ) → front room [] ≡ []
front-nil room =
    let none : entered room [] ≡ [] = none_of_length (entered room []) (omega (arith, entered-le room [], nothing)) in
    ap (λ xs. take (taken room []) (words_of xs)) none ∙ take_all (taken room []) [] (omega arith)

pub taken_words-front : (t : TableRows) (b : ℕ) (run : List Event) → taken_words t b run ≡ front (room t b) (moves t b run)
taken_words-front t b run =
    let P : List Event → Type 0 = λ run. taken_words t b run ≡ front (room t b) (moves t b run) in
    snoc_induction P (taken_words-nil t b ∙ sym (ap (front (room t b)) (moves-nil t b) ∙ front-nil (room t b)))
    (λ run e h. taken_words-push t b run e ∙ ap (λ z. z ++ taken_word b (reply t run e)) h ∙ sym (step-each t b run e)) run

pub first_in_first_out : (t : TableRows) → IsFirstInFirstOut t
first_in_first_out t b run =
    sym (take-append-drop (bus_taken t b run) (words_of (bus_entered t b run))) ∙ ap (λ z. z ++ waiting_words t b run) (sym (taken_words-front t b run))
