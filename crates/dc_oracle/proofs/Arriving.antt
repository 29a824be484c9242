-- One more event keeps what is carried of the words that came.
use Rattle.std.proofs.Common.{◌≡◌, ℕ, zero, suc, ◌+◌, ◌-◌, ◌≤◌, ◌<◌, ◌&&◌, ◌==◌, Bool, true, false, cond, ltb, Option, Some, None, option_map, is_some, List, [], ◌∷◌, ◌++◌, length, get_or, set, refl, sym, ap, ◌∙◌, subst, arith, inl, inr, eq-eqb, zero-add, length-append}
use Rattle.std.specs.List.{All}
use Rattle.std.proofs.lemmas.List.{append-nil, get_or-set_same, get_or-set_other}
use Rattle.std.proofs.lemmas.Bool.{cases_Bool, cases_lt, cases_eq, ne_eqb, lt-ltb, le-ltb, ltb-true}
use Rattle.dc_bound.specs.Window.{ticks_of}
use Rattle.dc_bound.specs.Run.{ticks, stamp, stamped}
use Rattle.dc_bound.specs.Places.{last_below}
use Rattle.dc_bound.specs.Moves.{Move, move_ends, came, entries, ins, latch, entered, taken, item, arrived_tick, latest_number}
use Rattle.dc_bound.specs.Moves.Move.{Tick as TickMove, In, Visit}
use Rattle.dc_bound.specs.lemmas.Steps.{stamped-append}
use Rattle.dc_bound.specs.lemmas.QueuePush.{queue-in_latched, queue-in_full, queue-in_room, queue-visit, queue-tick, none_from}
use Rattle.dc_bound.specs.lemmas.QueueTimes.{entered-le, taken-le}
use Rattle.dc_word.specs.Word.{is_odd}
use Rattle.dc_tables.specs.Declares.{stream_of}
use Rattle.dc_tables.specs.TableRows.{TableRows, AreValid, stream_row}
use Rattle.dc_event.specs.Time.{tick_after, routes}
use Rattle.dc_event.specs.Offers.{only, refuses_early, let_in}
use Rattle.dc_event.specs.Buses.{visited_bus, in_of, move_of, moves, room, bus_arrivals, arrivals, arrival_of, is_latched, bus_entered, bus_taken, bus_item, backlog}
use Rattle.dc_event.specs.Latest.{is_of_stream, latest_arrived}
use Rattle.dc_event.specs.Alive.{came_words}
use Rattle.dc_event.specs.Laws.{QueuesGrow}
use Rattle.dc_event.specs.Replies.{reply}
use Rattle.dc_event.specs.lemmas.RunPush.{tick-push, moves-push, moves-other, ticks_in-moves, entered-declared}
use Rattle.dc_event.specs.lemmas.RunMoves.{moves-nil}
use Rattle.dc_event.specs.lemmas.BudgetsPush.{calm}
use Rattle.dc_event.specs.lemmas.Arrivals.{arrivals-other, arrivals-push, arrivals-nil, arrivals-none_later, bus_arrivals-other, bus_arrivals-push, bus_arrivals-nil}
use Rattle.dc_event.specs.declared.event.Event.{Event}
use Rattle.dc_event.specs.declared.event.Event.TheVariants.{Tick, Arrive, Route, Send}
use Rattle.dc_event.specs.declared.event.Reply.{Reply}
use Rattle.dc_event.specs.declared.event.Reply.TheVariants.{Queued, BadParity, Undeclared, TooEarly, Overrun, Latched, Took, Empty}
use Rattle.dc_oracle.specs.declared.arrivals.ArrivalWatch.{ArrivalWatch}
use Rattle.dc_oracle.specs.declared.life.Life.{Life}
use Rattle.dc_oracle.specs.declared.replies.ReplyWatch.{ReplyWatch}
use Rattle.dc_oracle.specs.Arrivals.{is_arrival, taken_bus, ArrivesOf, Arrives, Follows}
use Rattle.dc_oracle.specs.BusLog.{IsLastTaken}
use Rattle.dc_oracle.specs.Fresh.{AllMade}
use Rattle.dc_oracle.specs.Life.{IsLife, lived, no_life}
use Rattle.dc_oracle.specs.Replies.{Holds}
use Rattle.dc_oracle.proofs.Living.{life-new, life-same, life-other, life-push}
use Rattle.dc_event.specs.lemmas.Arrivals.{stream_of-there}
use Rattle.dc_oracle.proofs.Replying.{taken-new}
use Rattle.dc_oracle.proofs.Taking.{latest_came, came-same, came-next, stamped-by}

-- ---- the words that came to a bus

abbrev pub word_of : Event → ℕ
word_of Tick = 0
word_of (Arrive w b) = w
word_of (Route r) = 0
word_of (Send o) = 0

abbrev item_of : ℕ → Option ℕ → Option (ℕ × ℕ)
item_of w None = None
item_of w (Some s) = Some (s, w)

word-came : (k w : ℕ) (o : Option ℕ) → stamped move_ends came k (in_of o w) ≡ stamp k (item_of w o) []
unfolding stamped
word-came k w None = refl
word-came k w (Some s) = refl

move-came : (t : TableRows) (b k : ℕ) (past : List Event) (e : Event) → stamped move_ends came k (move_of t b past e) ≡ stamp k (item_of (word_of e) (arrival_of t b past e)) []
unfolding stamped
move-came t b k past Tick = refl
move-came t b k past (Arrive w a) =
    elim ((a == b) && is_odd w) as (λ v. stamped move_ends came k (cond v (in_of (let_in t b past (stream_of t b w)) w) []) ≡ stamp k (item_of w (let_in t b past (cond v (stream_of t b w) None))) []) [
      | true ↦ word-came k w (let_in t b past (stream_of t b w))
      | false ↦ refl
    ]
move-came t b k past (Route r) = elim (visited_bus t r past == b) as (λ v. stamped move_ends came k (cond v (Visit ∷ []) []) ≡ []) [ true ↦ refl | false ↦ refl ]
move-came t b k past (Send o) = refl

came-more : (t : TableRows) (b : ℕ) (run : List Event) (e : Event) → came_words t b (run ++ e ∷ []) ≡ came_words t b run ++ stamp (tick_after run) (item_of (word_of e) (arrival_of t b run e)) []
came-more t b run e =
    ap (stamped move_ends came 0) (moves-push t b run e)
    ∙ stamped-append move_ends came 0 (moves t b run) (move_of t b run e)
    ∙ ap (λ k. came_words t b run ++ stamped move_ends came k (move_of t b run e)) (zero-add (ticks move_ends (moves t b run)) ∙ ticks_in-moves t b run)
    ∙ ap (λ z. came_words t b run ++ z) (move-came t b (tick_after run) run e)

came-none : (t : TableRows) (b : ℕ) (run : List Event) (e : Event) → arrival_of t b run e ≡ None → came_words t b (run ++ e ∷ []) ≡ came_words t b run
came-none t b run e h = came-more t b run e ∙ ap (λ o. came_words t b run ++ stamp (tick_after run) (item_of (word_of e) o) []) h ∙ append-nil (came_words t b run)

came-some : (t : TableRows) (b s : ℕ) (run : List Event) (e : Event) → arrival_of t b run e ≡ Some s → came_words t b (run ++ e ∷ []) ≡ came_words t b run ++ (tick_after run, (s, word_of e)) ∷ []
came-some t b s run e h = came-more t b run e ∙ ap (λ o. came_words t b run ++ stamp (tick_after run) (item_of (word_of e) o) []) h

came-by : (t : TableRows) (b : ℕ) (run : List Event) → All (λ a. a.0 ≤ tick_after run) (came_words t b run)
came-by t b run = stamped-by move_ends came 0 (tick_after run) (moves t b run) (omega (arith, ticks_in-moves t b run))

came-nil : (t : TableRows) (b : ℕ) → came_words t b [] ≡ []
unfolding stamped
came-nil t b = ap (stamped move_ends came 0) (moves-nil t b)

-- ---- how many were taken

taken-in : (room : ℕ) (ms : List Move) (o : Option ℕ) (w : ℕ) → taken room (ms ++ in_of o w) ≡ taken room ms
taken-in room ms None w = ap (taken room) (append-nil ms)
taken-in room ms (Some s) w = elim (cases_Bool (is_some (latch room ms))) [
  | inl l ↦ (queue-in_latched room ms (s, w) l).2
  | inr l ↦ elim (cases_lt (length (entered room ms) - taken room ms) room) [
    | inl few ↦ (queue-in_room room ms (s, w) (none_from (latch room ms) l) few).2
    | inr full ↦ (queue-in_full room ms (s, w) (none_from (latch room ms) l) full).2
  ]
]

move-arrive : (t : TableRows) (b : ℕ) (past : List Event) (a w : ℕ) → move_of t b past (Arrive w a) ≡ in_of (arrival_of t b past (Arrive w a)) w
move-arrive t b past a w =
    elim ((a == b) && is_odd w) as (λ v. cond v (in_of (let_in t b past (stream_of t b w)) w) [] ≡ in_of (let_in t b past (cond v (stream_of t b w) None)) w) [ true ↦ refl | false ↦ refl ]

-- the event takes no word from the bus
abbrev pub IsStill : TableRows → List Event → Event → ℕ → Type 0
IsStill t run e b = bus_taken t b (run ++ e ∷ []) ≡ bus_taken t b run

still-move : (t : TableRows) (run : List Event) (e : Event) (b : ℕ) (ms : List Move) → move_of t b run e ≡ ms → taken (room t b) (moves t b run ++ ms) ≡ taken (room t b) (moves t b run) → IsStill t run e b
still-move t run e b ms is h = ap (taken (room t b)) (moves-push t b run e ∙ ap (λ z. moves t b run ++ z) is) ∙ h

still-none : (t : TableRows) (run : List Event) (e : Event) (b : ℕ) → move_of t b run e ≡ [] → IsStill t run e b
still-none t run e b h = ap (taken (room t b)) (moves-other t b run e h)

pub still-tick : (t : TableRows) (run : List Event) (b : ℕ) → IsStill t run Tick b
still-tick t run b = still-move t run Tick b (TickMove ∷ []) refl ((queue-tick (room t b) (moves t b run)).2)

pub still-send : (t : TableRows) (run : List Event) (o b : ℕ) → IsStill t run (Send o) b
still-send t run o b = still-none t run (Send o) b refl

pub still-arrive : (t : TableRows) (run : List Event) (a w b : ℕ) → IsStill t run (Arrive w a) b
still-arrive t run a w b = still-move t run (Arrive w a) b (in_of (arrival_of t b run (Arrive w a)) w) (move-arrive t b run a w) (taken-in (room t b) (moves t b run) (arrival_of t b run (Arrive w a)) w)

-- ---- when the latest words came

arrived-is : (t : TableRows) (s : ℕ) (run : List Event) → latest_arrived t s run ≡ latest_came (room t (stream_row t s).bus) (is_of_stream s) (moves t (stream_row t s).bus run)
unfolding latest_arrived
arrived-is t s run =
    let ms = moves t (stream_row t s).bus run in
    elim (latest_number (room t (stream_row t s).bus) (is_of_stream s) (moves t (stream_row t s).bus run)) as (λ o. (elim o [ None ↦ None | Some n ↦ Some (arrived_tick n (moves t (stream_row t s).bus run)) ]) ≡ option_map (λ n. arrived_tick n (moves t (stream_row t s).bus run)) o) [ None ↦ refl | Some n ↦ refl ]

came-nothing : (room : ℕ) (p : ℕ × ℕ → Bool) → latest_came room p [] ≡ None
unfolding latest_number
came-nothing room p = ap (λ k. option_map (λ n. arrived_tick n []) (last_below (λ n. p (item room [] n)) k)) (taken-new room)

arrived-new : (t : TableRows) (s : ℕ) → latest_arrived t s [] ≡ None
arrived-new t s =
    arrived-is t s [] ∙ ap (latest_came (room t (stream_row t s).bus) (is_of_stream s)) (moves-nil t (stream_row t s).bus) ∙ came-nothing (room t (stream_row t s).bus) (is_of_stream s)

module _ (t : TableRows) (grow : QueuesGrow t) (run : List Event) (e : Event) where
  behind : (b : ℕ) → (ws : List (ℕ × ℕ)) × (entered (room t b) (moves t b run ++ move_of t b run e) ≡ entered (room t b) (moves t b run) ++ ws)
  behind b =
      let g = (grow b run (e ∷ [])).entered_grows in
      let P : List Move → Type 0 = λ ms. entered (room t b) ms ≡ entered (room t b) (moves t b run) ++ g.0 in
      (g.0, subst P (moves-push t b run e) g.1)

  pub arrived-same : (s : ℕ) → IsStill t run e (stream_row t s).bus → latest_arrived t s (run ++ e ∷ []) ≡ latest_arrived t s run
  arrived-same s still =
      let b = (stream_row t s).bus in
      let g = behind (stream_row t s).bus in
      arrived-is t s (run ++ e ∷ [])
      ∙ ap (latest_came (room t (stream_row t s).bus) (is_of_stream s)) (moves-push t (stream_row t s).bus run e)
      ∙ came-same (room t (stream_row t s).bus) (is_of_stream s) (moves t (stream_row t s).bus run) (move_of t (stream_row t s).bus run e) g.0 g.1
      (sym (ap (taken (room t (stream_row t s).bus)) (moves-push t (stream_row t s).bus run e)) ∙ still)
      ∙ sym (arrived-is t s run)

  pub arrived-next : (s : ℕ) → bus_taken t (stream_row t s).bus (run ++ e ∷ []) ≡ suc (bus_taken t (stream_row t s).bus run)
      → latest_arrived t s (run ++ e ∷ []) ≡ cond (is_of_stream s (bus_item t (stream_row t s).bus (run ++ e ∷ []) (bus_taken t (stream_row t s).bus run))) (Some (arrived_tick (bus_taken t (stream_row t s).bus run) (moves t (stream_row t s).bus (run ++ e ∷ [])))) (latest_arrived t s run)
  arrived-next s next =
      let b = (stream_row t s).bus in
      let g = behind (stream_row t s).bus in
      let P : List Move → Type 0 = λ ms. latest_came (room t (stream_row t s).bus) (is_of_stream s) ms
      ≡ cond (is_of_stream s (item (room t (stream_row t s).bus) ms (bus_taken t (stream_row t s).bus run))) (Some (arrived_tick (bus_taken t (stream_row t s).bus run) ms)) (latest_came (room t (stream_row t s).bus) (is_of_stream s) (moves t (stream_row t s).bus run)) in
      arrived-is t s (run ++ e ∷ [])
      ∙ subst P (sym (moves-push t (stream_row t s).bus run e))
      (came-next (room t (stream_row t s).bus) (is_of_stream s) (moves t (stream_row t s).bus run) (move_of t (stream_row t s).bus run e) g.0 g.1
      (sym (ap (taken (room t (stream_row t s).bus)) (moves-push t (stream_row t s).bus run e)) ∙ next))
      ∙ ap (cond (is_of_stream s (bus_item t (stream_row t s).bus (run ++ e ∷ []) (bus_taken t (stream_row t s).bus run))) (Some (arrived_tick (bus_taken t (stream_row t s).bus run) (moves t (stream_row t s).bus (run ++ e ∷ []))))) (sym (arrived-is t s run))

  -- ---- an event that brings nothing, and takes nothing

  pub follows-still : (w : ArrivalWatch) → ((a : ℕ) → arrival_of t a run e ≡ None) → ((a : ℕ) → IsStill t run e a) → Follows t w run → Follows t w (run ++ e ∷ [])
  follows-still w none still h = record {
    lives = λ s l. life-same (stream_row t s).maximum s (tick_after run) (tick_after (run ++ e ∷ [])) _ _ _ _ _ (omega (arith, tick-push run e))
        (arrivals-other t s run e (ap (only s) (none (stream_row t s).bus))) (came-none t (stream_row t s).bus run e (none (stream_row t s).bus)) (h.lives s l);
    latest = λ s l. h.latest s l ∙ sym (arrived-same s (still (stream_row t s).bus));
  }

-- ---- no events

pub follows-new : (t : TableRows) (w : ArrivalWatch) → AllMade (λ _. no_life) no_life (length t.streams) w.lives.items → AllMade (λ _. None) None (length t.streams) w.latest.items → Follows t w []
follows-new t w ls as' = record {
  lives = λ s l. (
      let P : Life → Type 0 = λ x. IsLife (stream_row t s).maximum s (tick_after []) (ticks_of (arrivals t s [])) (came_words t (stream_row t s).bus []) x in
      subst P (sym (ls.1 s l)) (life-same (stream_row t s).maximum s (tick_after []) (tick_after []) [] _ [] _ no_life (omega arith) (arrivals-nil t s) (came-nil t (stream_row t s).bus) (life-new (stream_row t s).maximum s (tick_after []))));
  latest = λ s l. as'.1 s l ∙ sym (arrived-new t s);
}

-- ---- a word comes

only_own : (s : ℕ) → only s (Some s) ≡ Some s
only_own s = ap (λ b. cond b (Some s) None) (eq-eqb s s refl)

only_other : (s k : ℕ) → (s ≡ k → ⊥) → only k (Some s) ≡ None
only_other s k other = ap (λ b. cond b (Some s) None) (ne_eqb s k other)

pub follows-arrive : (t : TableRows) (v : AreValid t) (grow : QueuesGrow t) (old new : ArrivalWatch) (run : List Event) (b w s tick : ℕ) → ArrivesOf t run b w s → tick ≡ tick_after run
    → length old.lives.items ≡ length t.streams → b < length t.buses
    → new.lives.items ≡ set old.lives.items s (lived (stream_row t s).maximum tick w (get_or old.lives.items s no_life)) → new.latest.items ≡ old.latest.items
    → Follows t old run → Follows t new (run ++ Arrive w b ∷ [])
follows-arrive t v grow old new run b w s tick a clock lives_sized bus_there lives latests h =
    let e = Arrive w b in
    let still : tick_after (run ++ Arrive w b ∷ []) ≡ tick_after run = calm run (Arrive w b) refl in
    let some : 1 ≤ (stream_row t s).maximum = omega (arith, v.minimums s a.there, v.maximums s a.there) in
    let own : arrival_of t (stream_row t s).bus run (Arrive w b) ≡ Some s = ap (λ c. arrival_of t c run (Arrive w b)) a.bus ∙ a.here in
    record {
      lives = λ k l. elim (cases_eq s k) [
        | inl mine ↦
            let P : ℕ → Type 0 = λ k. IsLife (stream_row t k).maximum k (tick_after (run ++ Arrive w b ∷ [])) (ticks_of (arrivals t k (run ++ Arrive w b ∷ []))) (came_words t (stream_row t k).bus (run ++ Arrive w b ∷ [])) (get_or new.lives.items k no_life) in
            let Q : Life → Type 0 = λ x. IsLife (stream_row t s).maximum s (tick_after (run ++ Arrive w b ∷ [])) (ticks_of (arrivals t s (run ++ Arrive w b ∷ []))) (came_words t (stream_row t s).bus (run ++ Arrive w b ∷ [])) x in
            let is : get_or new.lives.items s no_life ≡ lived (stream_row t s).maximum (tick_after run) w (get_or old.lives.items s no_life) =
            ap (λ xs. get_or xs s no_life) lives ∙ get_or-set_same old.lives.items s _ no_life (omega (arith, a.there)) ∙ ap (λ n. lived (stream_row t s).maximum n w (get_or old.lives.items s no_life)) clock in
            subst P mine (subst Q (sym is)
            (life-same (stream_row t s).maximum s (tick_after run) (tick_after (run ++ Arrive w b ∷ [])) _ _ _ _ _ (omega (arith, still))
            (arrivals-push t s s run (Arrive w b) (ap (only s) own ∙ only_own s)) (came-some t (stream_row t s).bus s run (Arrive w b) own)
            (life-push (stream_row t s).maximum s (tick_after run) w _ _ (get_or old.lives.items s no_life) some (arrivals-none_later t s run) (came-by t (stream_row t s).bus run) (h.lives s a.there))))
        | inr other ↦
            let ne : k ≡ s → ⊥ = λ e. other (sym e) in
            let Q : Life → Type 0 = λ x. IsLife (stream_row t k).maximum k (tick_after (run ++ Arrive w b ∷ [])) (ticks_of (arrivals t k (run ++ Arrive w b ∷ []))) (came_words t (stream_row t k).bus (run ++ Arrive w b ∷ [])) x in
            let is : get_or new.lives.items k no_life ≡ get_or old.lives.items k no_life = ap (λ xs. get_or xs k no_life) lives ∙ get_or-set_other old.lives.items s k _ no_life ne in
            subst Q (sym is) (elim (cases_eq b (stream_row t k).bus) [
              | inl same ↦
                  let here : arrival_of t (stream_row t k).bus run (Arrive w b) ≡ Some s = ap (λ c. arrival_of t c run (Arrive w b)) (sym same) ∙ a.here in
                  life-same (stream_row t k).maximum k (tick_after run) (tick_after (run ++ Arrive w b ∷ [])) _ _ _ _ _ (omega (arith, still))
                  (arrivals-other t k run (Arrive w b) (ap (only k) here ∙ only_other s k other)) (came-some t (stream_row t k).bus s run (Arrive w b) here)
                  (life-other (stream_row t k).maximum k (tick_after run) s w _ _ (get_or old.lives.items k no_life) other (h.lives k l))
              | inr far ↦
                  let none : arrival_of t (stream_row t k).bus run (Arrive w b) ≡ None = a.elsewhere (stream_row t k).bus far in
                  life-same (stream_row t k).maximum k (tick_after run) (tick_after (run ++ Arrive w b ∷ [])) _ _ _ _ _ (omega (arith, still))
                  (arrivals-other t k run (Arrive w b) (ap (only k) none)) (came-none t (stream_row t k).bus run (Arrive w b) none) (h.lives k l)
            ])
      ];
      latest = λ k l. ap (λ xs. get_or xs k None) latests ∙ h.latest k l ∙ sym (arrived-same t grow run (Arrive w b) k (still-arrive t run b w (stream_row t k).bus));
    }

-- ---- the reply to a word tells whether it was an arrival

cond_none : (b : Bool) → cond {A = Option ℕ} b None None ≡ None
cond_none true = refl
cond_none false = refl

elsewhere : (t : TableRows) (run : List Event) (b w a : ℕ) → (b ≡ a → ⊥) → arrival_of t a run (Arrive w b) ≡ None
elsewhere t run b w a other = ap (λ v. let_in t a run (cond (v && is_odd w) (stream_of t a w) None)) (ne_eqb b a other)

-- what it is at its own bus, it is
at_own : (t : TableRows) (run : List Event) (b w : ℕ) → arrival_of t b run (Arrive w b) ≡ None → (a : ℕ) → arrival_of t a run (Arrive w b) ≡ None
at_own t run b w none a = elim (cases_eq b a) [
  | inl same ↦ (let P : ℕ → Type 0 = λ a. arrival_of t a run (Arrive w b) ≡ None in subst P same none)
  | inr other ↦ elsewhere t run b w a other
]

here : (t : TableRows) (run : List Event) (b w : ℕ) (odd : Bool) (o : Option ℕ) → is_odd w ≡ odd → stream_of t b w ≡ o → arrival_of t b run (Arrive w b) ≡ let_in t b run (cond odd o None)
here t run b w odd o odd_is o_is =
    let one : (b == b) ≡ true = eq-eqb b b refl in
    ap (λ v. let_in t b run (cond (v && is_odd w) (stream_of t b w) None)) one
    ∙ ap (λ v. let_in t b run (cond v (stream_of t b w) None)) odd_is
    ∙ ap (λ z. let_in t b run (cond odd z None)) o_is

-- the reply's two last choices tell an arrival
reported_in : (latched full : Bool) (n : ℕ) → is_arrival (cond latched Latched (cond full Overrun (Queued n))) ≡ true
reported_in true full n = refl
reported_in false true n = refl
reported_in false false n = refl

arrives-word : (t : TableRows) (run : List Event) (b w : ℕ) (odd refused : Bool) (o : Option ℕ) → is_odd w ≡ odd → stream_of t b w ≡ o → refuses_early t b run o ≡ refused
    → (is_arrival (reply t run (Arrive w b)) ≡ true → Arrives t run b w o) × (is_arrival (reply t run (Arrive w b)) ≡ false → Arrives t run b w None)
unfolding reply
arrives-word t run b w false refused o odd_is o_is refused_is = (
  λ h. absurd (let no' : is_arrival (reply t run (Arrive w b)) ≡ false = rw odd_is refl in let both : true ≡ false = sym h ∙ no' in cc),
  λ h. at_own t run b w (here t run b w false o odd_is o_is),
)
arrives-word t run b w true refused None odd_is o_is refused_is = (
  λ h. absurd (let no' : is_arrival (reply t run (Arrive w b)) ≡ false = rw (odd_is, o_is) refl in let both : true ≡ false = sym h ∙ no' in cc),
  λ h. at_own t run b w (here t run b w true None odd_is o_is),
)
arrives-word t run b w true true (Some s) odd_is o_is refused_is = (
  λ h. absurd (let no' : is_arrival (reply t run (Arrive w b)) ≡ false = rw (odd_is, o_is, refused_is) refl in let both : true ≡ false = sym h ∙ no' in cc),
  λ h. at_own t run b w (here t run b w true (Some s) odd_is o_is ∙ ap (λ v. cond v None (Some s)) refused_is),
)
arrives-word t run b w true false (Some s) odd_is o_is refused_is =
    let own = stream_of-there t b w s o_is in (
      λ h. record { there = own.0; bus = own.1; here = here t run b w true (Some s) odd_is o_is ∙ ap (λ v. cond v None (Some s)) refused_is; elsewhere = λ a other. elsewhere t run b w a other },
      λ h. absurd (
          let yes' : is_arrival (reply t run (Arrive w b)) ≡ true = rw (odd_is, o_is, refused_is) (reported_in (is_latched t b run) (is_latched t b (run ++ Arrive w b ∷ [])) (backlog t b (run ++ Arrive w b ∷ []))) in
          let both : true ≡ false = sym yes' ∙ h in cc),
    )

pub arrives-yes : (t : TableRows) (run : List Event) (b w : ℕ) (r : Reply) → r ≡ reply t run (Arrive w b) → is_arrival r ≡ true → Arrives t run b w (stream_of t b w)
arrives-yes t run b w r is h = (arrives-word t run b w (is_odd w) (refuses_early t b run (stream_of t b w)) (stream_of t b w) refl refl refl).0 (sym (ap is_arrival is) ∙ h)

pub arrives-no : (t : TableRows) (run : List Event) (b w : ℕ) (r : Reply) → r ≡ reply t run (Arrive w b) → is_arrival r ≡ false → Arrives t run b w None
arrives-no t run b w r is h = (arrives-word t run b w (is_odd w) (refuses_early t b run (stream_of t b w)) (stream_of t b w) refl refl refl).1 (sym (ap is_arrival is) ∙ h)

-- ---- a router visits

-- what the reply to a step of a router tells
pub record TookFrom (t : TableRows) (run : List Event) (r b : ℕ) : Type 0 where
  pub bus : b ≡ visited_bus t r run
  pub taken : bus_taken t b run < bus_taken t b (run ++ Route r ∷ [])

abbrev pub TakesAs : TableRows → List Event → ℕ → Option ℕ → Type 0
TakesAs t run r None = bus_taken t (visited_bus t r run) (run ++ Route r ∷ []) ≤ bus_taken t (visited_bus t r run) run
TakesAs t run r (Some b) = TookFrom t run r b

pub takes-as : (t : TableRows) (run : List Event) (r : ℕ) (reported : Reply) → reported ≡ reply t run (Route r) → TakesAs t run r (taken_bus reported)
unfolding reply
takes-as t run r reported is =
    let b = visited_bus t r run in
    let P : Reply → Type 0 = λ x. TakesAs t run r (taken_bus x) in
    subst P (sym is) (elim (cases_lt (bus_taken t (visited_bus t r run) run) (bus_taken t (visited_bus t r run) (run ++ Route r ∷ []))) [
      | inl more ↦ (let yes' : ltb (bus_taken t (visited_bus t r run) run) (bus_taken t (visited_bus t r run) (run ++ Route r ∷ [])) ≡ true = lt-ltb _ _ more in rw yes' (record { bus = refl; taken = more }))
      | inr none ↦ (let no' : ltb (bus_taken t (visited_bus t r run) run) (bus_taken t (visited_bus t r run) (run ++ Route r ∷ [])) ≡ false = le-ltb _ _ none in rw no' none)
    ])

visit_elsewhere : (t : TableRows) (run : List Event) (r a : ℕ) → (visited_bus t r run ≡ a → ⊥) → move_of t a run (Route r) ≡ []
visit_elsewhere t run r a other = ap (λ x. cond x (Visit ∷ []) []) (ne_eqb (visited_bus t r run) a other)

still-elsewhere : (t : TableRows) (run : List Event) (r a : ℕ) → (visited_bus t r run ≡ a → ⊥) → IsStill t run (Route r) a
still-elsewhere t run r a other = still-none t run (Route r) a (visit_elsewhere t run r a other)

-- nothing was taken
pub follows-nothing : (t : TableRows) (grow : QueuesGrow t) (w : ArrivalWatch) (run : List Event) (r : ℕ) → TakesAs t run r None → Follows t w run → Follows t w (run ++ Route r ∷ [])
follows-nothing t grow w run r none h =
    follows-still t grow run (Route r) w (λ a. refl) (λ a. elim (cases_eq (visited_bus t r run) a) [
      | inl same ↦ (let P : ℕ → Type 0 = λ a. IsStill t run (Route r) a in
          let s : IsStill t run (Route r) (visited_bus t r run) = omega (arith, none, (grow (visited_bus t r run) run (Route r ∷ [])).taken_grows) in
          subst P same s)
      | inr other ↦ still-elsewhere t run r a other
    ]) h

module _ (t : TableRows) (grow : QueuesGrow t) (old new : ArrivalWatch) (run : List Event) (r b : ℕ) (took : TookFrom t run r b) where
  one_more : bus_taken t b (run ++ Route r ∷ []) ≡ suc (bus_taken t b run)
  one_more =
      let visit : move_of t b run (Route r) ≡ Visit ∷ [] = ap (λ x. cond x (Visit ∷ []) []) (eq-eqb _ _ (sym took.bus)) in
      let q : taken (room t b) (moves t b run ++ Visit ∷ []) ≡ _ = (queue-visit (room t b) (moves t b run)).2 in
      let next : bus_taken t b (run ++ Route r ∷ []) ≡ taken (room t b) (moves t b run ++ Visit ∷ []) = ap (taken (room t b)) (moves-push t b run (Route r) ∙ ap (λ z. moves t b run ++ z) visit) in
      omega (arith, q, next, took.taken)

  -- the last word that was taken, by the log after it
  module _ (o : Option (ℕ × ℕ)) (log : IsLastTaken (room t b) (moves t b (run ++ Route r ∷ [])) o) where
    pub some_taken : o ≡ None → ⊥
    some_taken none = (let P : Option (ℕ × ℕ) → Type 0 = λ o. IsLastTaken (room t b) (moves t b (run ++ Route r ∷ [])) o in
        let z : taken (room t b) (moves t b (run ++ Route r ∷ [])) ≡ 0 = subst P none log in omega (arith, z, one_more))

    module _ (came_at s : ℕ) (last : o ≡ Some (came_at, s)) where
      number : ℕ
      number = bus_taken t b run

      parts : IsLastTaken (room t b) (moves t b (run ++ Route r ∷ [])) (Some (came_at, s))
      parts = (let P : Option (ℕ × ℕ) → Type 0 = λ o. IsLastTaken (room t b) (moves t b (run ++ Route r ∷ [])) o in subst P last log)

      before_it : bus_taken t b (run ++ Route r ∷ []) - 1 ≡ bus_taken t b run
      before_it = omega (arith, one_more)

      stream_is : s ≡ (bus_item t b (run ++ Route r ∷ []) (bus_taken t b run)).0
      stream_is = parts.2 ∙ ap (λ n. (bus_item t b (run ++ Route r ∷ []) n).0) before_it

      came_is : came_at ≡ arrived_tick (bus_taken t b run) (moves t b (run ++ Route r ∷ []))
      came_is = parts.1 ∙ ap (λ n. arrived_tick n (moves t b (run ++ Route r ∷ []))) before_it

      in_entered : bus_taken t b run < length (entered (room t b) (moves t b (run ++ Route r ∷ [])))
      in_entered = omega (arith, one_more, taken-le (room t b) (moves t b (run ++ Route r ∷ [])))

      own : (s < length t.streams) × ((stream_row t s).bus ≡ b)
      own =
          let P : ℕ → Type 0 = λ s. (s < length t.streams) × ((stream_row t s).bus ≡ b) in
          subst P (sym stream_is) (stream_of-there t b _ _ (entered-declared t b (room t b) (bus_taken t b run) (run ++ Route r ∷ []) in_entered))

      -- the latest of a stream on the bus, by the number
      on_bus : (k : ℕ) → (stream_row t k).bus ≡ b → latest_arrived t k (run ++ Route r ∷ []) ≡ cond (is_of_stream k (bus_item t b (run ++ Route r ∷ []) (bus_taken t b run))) (Some came_at) (latest_arrived t k run)
      on_bus k same =
          let P : ℕ → Type 0 = λ c. bus_taken t c (run ++ Route r ∷ []) ≡ suc (bus_taken t c run) in
          let Q : ℕ → Type 0 = λ c. latest_arrived t k (run ++ Route r ∷ []) ≡ cond (is_of_stream k (bus_item t c (run ++ Route r ∷ []) (bus_taken t c run))) (Some (arrived_tick (bus_taken t c run) (moves t c (run ++ Route r ∷ [])))) (latest_arrived t k run) in
          subst Q same (arrived-next t grow run (Route r) k (subst P (sym same) one_more))
          ∙ ap (λ n. cond (is_of_stream k (bus_item t b (run ++ Route r ∷ []) (bus_taken t b run))) (Some n) (latest_arrived t k run)) (sym came_is)

      pub follows-took : length old.latest.items ≡ length t.streams → b < length t.buses → new.lives.items ≡ old.lives.items → new.latest.items ≡ set old.latest.items s (Some came_at)
          → Follows t old run → Follows t new (run ++ Route r ∷ [])
      follows-took sized bus_there lives latests h =
          let none : (a : ℕ) → arrival_of t a run (Route r) ≡ None = λ a. refl in
          record {
            lives = λ k l. (let P : Life → Type 0 = λ x. IsLife (stream_row t k).maximum k (tick_after (run ++ Route r ∷ [])) (ticks_of (arrivals t k (run ++ Route r ∷ []))) (came_words t (stream_row t k).bus (run ++ Route r ∷ [])) x in
                subst P (sym (ap (λ xs. get_or xs k no_life) lives))
                (life-same (stream_row t k).maximum k (tick_after run) (tick_after (run ++ Route r ∷ [])) _ _ _ _ _ (omega (arith, tick-push run (Route r)))
                (arrivals-other t k run (Route r) refl) (came-none t (stream_row t k).bus run (Route r) refl) (h.lives k l)));
            latest = λ k l. ap (λ xs. get_or xs k None) latests ∙ elim (cases_eq s k) [
              | inl mine ↦
                  let P : ℕ → Type 0 = λ k. get_or (set old.latest.items s (Some came_at)) k None ≡ latest_arrived t k (run ++ Route r ∷ []) in
                  let yes' : is_of_stream s (bus_item t b (run ++ Route r ∷ []) (bus_taken t b run)) ≡ true = eq-eqb _ _ (sym stream_is) in
                  subst P mine (get_or-set_same old.latest.items s _ None (omega (arith, own.0))
                  ∙ sym (on_bus s own.1 ∙ ap (λ v. cond v (Some came_at) (latest_arrived t s run)) yes'))
              | inr other ↦
                  let ne : k ≡ s → ⊥ = λ e. other (sym e) in
                  get_or-set_other old.latest.items s k _ None ne ∙ h.latest k l ∙ sym (elim (cases_eq (stream_row t k).bus b) [
                    | inl same ↦
                        let no' : is_of_stream k (bus_item t b (run ++ Route r ∷ []) (bus_taken t b run)) ≡ false = ne_eqb _ _ (λ e. other (stream_is ∙ e)) in
                        on_bus k same ∙ ap (λ v. cond v (Some came_at) (latest_arrived t k run)) no'
                    | inr far ↦ arrived-same t grow run (Route r) k (still-elsewhere t run r (stream_row t k).bus (λ e. far (sym e ∙ sym took.bus)))
                  ])
            ];
          }
