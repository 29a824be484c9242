-- One more event keeps what is carried of a run, and gives its reply.
use Rattle.std.proofs.Common.{◌≡◌, ℕ, ◌+◌, ◌-◌, ◌%◌, ◌≤◌, ◌<◌, ◌&&◌, ◌==◌, min, Bool, true, false, cond, ltb, Option, Some, None, is_some, List, [], ◌∷◌, ◌++◌, length, get_or, set, refl, sym, ap, inl, inr, ◌∙◌, subst, arith, eq-eqb}
use Rattle.std.proofs.lemmas.List.{append-nil, get_or-set_same, get_or-set_other}
use Rattle.std.proofs.lemmas.List.Quantifiers.{position-Some}
use Rattle.std.proofs.lemmas.Bool.{cases_Bool, cases_lt, cases_eq, ne_eqb, lt-ltb, le-ltb, and_parts, eqb-true}
use Rattle.std.proofs.Math.Nat.{mod-mod, mod-add-mod, zero-mod}
use Rattle.dc_word.specs.declared.format.Format.TheVariants.{Bnr}
use Rattle.dc_bound.specs.Run.{ticks, picks, one_if}
use Rattle.dc_bound.specs.Places.{served_in, first_place, each_place}
use Rattle.dc_bound.specs.Moves.{Move, ticks_in, ins, passed, is_overfull, latch, entered, taken, item, latest_number, latest_by}
use Rattle.dc_bound.specs.Moves.Move.{Tick as TickMove, In, Visit}
use Rattle.dc_bound.specs.lemmas.QueuePush.{queue-in_latched, queue-in_full, queue-in_room, queue-visit, queue-tick, none_from, taken-le, latest_by-same, latest_by-takes}
use Rattle.dc_word.specs.Word.{is_odd, label_of, sdi_of}
use Rattle.dc_tables.specs.Declares.{stream_of, declares, fits}
use Rattle.dc_tables.specs.TableRows.{TableRows, AreValid, visited, stream_row, router_row, label_row}
use Rattle.dc_event.specs.Time.{ends, tick_after, route_of, send_of, routes}
use Rattle.dc_event.specs.Offers.{refuses_early, let_in}
use Rattle.dc_oracle.specs.Police.{is_refused}
use Rattle.dc_event.specs.Buses.{in_of, move_of, moves, room}
use Rattle.dc_event.specs.Latest.{is_of_stream, latest}
use Rattle.dc_event.specs.Outputs.{due_tick, due_by, sent, entry_label}
use Rattle.dc_event.specs.Choice.{chosen}
use Rattle.dc_event.specs.Emissions.{emission}
use Rattle.dc_event.specs.Replies.{reply}
use Rattle.dc_event.specs.lemmas.OutputMoves.{due_by-due, due-due_by}
use Rattle.dc_event.specs.lemmas.RunPush.{tick-push, steps-push, moves-push, moves-other, latest-other, ticks_in-moves, sent-push, sent-le, sent-other, entered-declared}
use Rattle.dc_event.specs.lemmas.BudgetsPush.{calm}
use Rattle.dc_event.specs.declared.event.Event.{Event}
use Rattle.dc_event.specs.declared.event.Event.TheVariants.{Tick, Arrive, Route, Send}
use Rattle.dc_event.specs.declared.event.Reply.{Reply}
use Rattle.dc_event.specs.declared.event.Reply.TheVariants.{BadParity, Undeclared, TooEarly, Took, Empty, Sent, Idle, Now}
use Rattle.dc_oracle.specs.declared.replies.ReplyWatch.{ReplyWatch}
use Rattle.dc_oracle.specs.Fresh.{AllMade}
use Rattle.dc_oracle.specs.BusData.{BusData}
use Rattle.dc_oracle.specs.BusLog.{IsLog, Received, new_log, no_log}
use Rattle.dc_oracle.specs.Replies.{Holds, Replies}
use Rattle.dc_oracle.proofs.Logs.{log-new, log-tick, waiting-length, first-waiting}
use Rattle.dc_oracle.proofs.Entries.{due-late}

-- ---- no events

pub taken-new : (room : ℕ) → taken room [] ≡ 0
unfolding latch first_place is_overfull ins passed served_in entered taken picks
taken-new room = let calm : ltb (room + 0) 0 ≡ false = le-ltb _ _ (omega arith) in rw calm refl

latest-new : (t : TableRows) (s : ℕ) → latest t s [] ≡ None
unfolding latest latest_by latest_number moves each_place
latest-new t s = rw (taken-new (room t (stream_row t s).bus)) refl

turns-new : (t : TableRows) (r : ℕ) → 0 ≡ routes r [] % length (router_row t r).visits
unfolding picks
turns-new t r = sym (zero-mod (length (router_row t r).visits))

sent-new : (t : TableRows) (o : ℕ) → 0 ≡ sent t o []
unfolding ticks picks sent served_in
sent-new t o = sym (let u : min 0 (due_by t o 0 + 0) ≡ 0 = omega arith in u)

no_ticks : 0 ≡ tick_after []
unfolding ticks
no_ticks = refl

pub holds-new : (t : TableRows) (w : ReplyWatch) → w.tick ≡ 0 → AllMade (λ b. new_log (room t b)) no_log (length t.buses) w.buses.items → AllMade (λ _. None) None (length t.streams) w.latest.items
    → AllMade (λ _. 0) 0 (length t.routers) w.cursors.items → AllMade (λ _. 0) 0 (length t.outputs) w.sent.items → Holds t w []
holds-new t w start bs ls rs os = record {
  clock = start ∙ no_ticks;
  logs = λ b l. (let P : BusData → Type 0 = λ d. IsLog (room t b) d (moves t b []) in subst P (sym (bs.1 b l)) (log-new t b));
  words = λ s l. ls.1 s l ∙ sym (latest-new t s);
  turns = λ r l. rs.1 r l ∙ turns-new t r;
  counts = λ o l. os.1 o l ∙ sent-new t o;
}

-- ---- what an event leaves

log-same : (t : TableRows) (b : ℕ) (d : BusData) (run : List Event) (e : Event) → move_of t b run e ≡ [] → IsLog (room t b) d (moves t b run) → IsLog (room t b) d (moves t b (run ++ e ∷ []))
log-same t b d run e none h = let P : List Move → Type 0 = λ ms. IsLog (room t b) d ms in subst P (sym (moves-other t b run e none)) h

logs-set : (t : TableRows) (run : List Event) (e : Event) (buses : List BusData) (b : ℕ) (d : BusData) → b < length buses → IsLog (room t b) d (moves t b (run ++ e ∷ [])) → ((a : ℕ) → (b ≡ a → ⊥) → move_of t a run e ≡ [])
    → ((a : ℕ) → a < length t.buses → IsLog (room t a) (get_or buses a no_log) (moves t a run)) → (a : ℕ) → a < length t.buses → IsLog (room t a) (get_or (set buses b d) a no_log) (moves t a (run ++ e ∷ []))
logs-set t run e buses b d there here apart h a l = elim (cases_eq b a) [
  | inl same ↦
      let P : ℕ → Type 0 = λ a. IsLog (room t a) (get_or (set buses b d) a no_log) (moves t a (run ++ e ∷ [])) in
      let Q : BusData → Type 0 = λ d. IsLog (room t b) d (moves t b (run ++ e ∷ [])) in
      subst P same (subst Q (sym (get_or-set_same buses b d no_log there)) here)
  | inr other ↦
      let ne : a ≡ b → ⊥ = λ e. other (sym e) in
      let Q : BusData → Type 0 = λ d. IsLog (room t a) d (moves t a (run ++ e ∷ [])) in
      subst Q (sym (get_or-set_other buses b a d no_log ne)) (log-same t a (get_or buses a no_log) run e (apart a other) (h a l))
]

turn-same : (t : TableRows) (r : ℕ) (run : List Event) (e : Event) → route_of r e ≡ None → routes r run % length (router_row t r).visits ≡ routes r (run ++ e ∷ []) % length (router_row t r).visits
turn-same t r run e none =
    let same : routes r (run ++ e ∷ []) ≡ routes r run = omega (arith, steps-push (route_of r) run e, ap (λ (o : Option ℕ). one_if o) none) in
    ap (λ n. n % length (router_row t r).visits) (sym same)

pub record IsNothing (t : TableRows) (run : List Event) (e : Event) : Type 0 where
  pub no_tick : ends e ≡ 0
  pub no_move : (b : ℕ) → move_of t b run e ≡ []
  pub no_route : (r : ℕ) → route_of r e ≡ None
  pub no_send : (o : ℕ) → send_of o e ≡ None

pub holds-nothing : (t : TableRows) (w : ReplyWatch) (run : List Event) (e : Event) → IsNothing t run e → Holds t w run → Holds t w (run ++ e ∷ [])
holds-nothing t w run e n h = record {
  clock = h.clock ∙ sym (calm run e n.no_tick);
  logs = λ b l. log-same t b (get_or w.buses.items b no_log) run e (n.no_move b) (h.logs b l);
  words = λ s l. h.words s l ∙ sym (latest-other t s run e (n.no_move (stream_row t s).bus));
  turns = λ r l. h.turns r l ∙ turn-same t r run e (n.no_route r);
  counts = λ o l. h.counts o l ∙ sym (sent-other t o run e (n.no_send o));
}

-- ---- a word comes

false_and : (a b : Bool) → b ≡ false → (a && b) ≡ false
false_and true b h = h
false_and false b h = refl

cond_same : (b : Bool) → cond {A = List Move} b [] [] ≡ []
cond_same true = refl
cond_same false = refl

move_elsewhere : (t : TableRows) (run : List Event) (a b w : ℕ) → (b ≡ a → ⊥) → move_of t a run (Arrive w b) ≡ []
move_elsewhere t run a b w other = ap (λ x. cond (x && is_odd w) (in_of (let_in t a run (stream_of t a w)) w) []) (ne_eqb b a other)

arrive_even : (t : TableRows) (run : List Event) (b w : ℕ) → is_odd w ≡ false → IsNothing t run (Arrive w b)
arrive_even t run b w h = record {
  no_tick = refl;
  no_move = λ a. ap (λ x. cond x (in_of (let_in t a run (stream_of t a w)) w) []) (false_and (b == a) (is_odd w) h);
  no_route = λ r. refl;
  no_send = λ o. refl;
}

arrive_undeclared : (t : TableRows) (run : List Event) (b w : ℕ) → stream_of t b w ≡ None → IsNothing t run (Arrive w b)
arrive_undeclared t run b w h = record {
  no_tick = refl;
  no_move = λ a. elim (cases_eq b a) [
    | inl same ↦
        let P : ℕ → Type 0 = λ a. move_of t a run (Arrive w b) ≡ [] in
        subst P same (ap (λ o. cond ((b == b) && is_odd w) (in_of (let_in t b run o) w) []) h ∙ cond_same ((b == b) && is_odd w))
    | inr other ↦ move_elsewhere t run a b w other
  ];
  no_route = λ r. refl;
  no_send = λ o. refl;
}

-- a word that the bus refuses
refused_parts : (t : TableRows) (run : List Event) (b w : ℕ) → is_refused t run (Arrive w b) ≡ true → (is_odd w ≡ true) × ((k : ℕ) × (stream_of t b w ≡ Some k) × (refuses_early t b run (Some k) ≡ true))
refused_parts t run b w h =
    let p = and_parts (is_odd w) (refuses_early t b run (stream_of t b w)) h in (
      p.0,
      elim (stream_of t b w) as (λ o. stream_of t b w ≡ o → refuses_early t b run o ≡ true → (k : ℕ) × (stream_of t b w ≡ Some k) × (refuses_early t b run (Some k) ≡ true)) [
        | None ↦ λ e r. absurd cc
        | Some k ↦ λ e r. (k, e, r)
      ] refl p.1,
    )

arrive_refused : (t : TableRows) (run : List Event) (b w s : ℕ) → stream_of t b w ≡ Some s → refuses_early t b run (Some s) ≡ true → IsNothing t run (Arrive w b)
arrive_refused t run b w s some early = record {
  no_tick = refl;
  no_move = λ a. elim (cases_eq b a) [
    | inl same ↦
        let P : ℕ → Type 0 = λ a. move_of t a run (Arrive w b) ≡ [] in
        subst P same (ap (λ o. cond ((b == b) && is_odd w) (in_of (let_in t b run o) w) []) some ∙ ap (λ v. cond ((b == b) && is_odd w) (in_of (cond v None (Some s)) w) []) early ∙ cond_same ((b == b) && is_odd w))
    | inr other ↦ move_elsewhere t run a b w other
  ];
  no_route = λ r. refl;
  no_send = λ o. refl;
}

replies-refused_word : (t : TableRows) (w : ReplyWatch) (run : List Event) (b word : ℕ) → is_refused t run (Arrive word b) ≡ true → Holds t w run → Replies t w run (Arrive word b) TooEarly
unfolding reply
replies-refused_word t w run b word h holds =
    let p = refused_parts t run b word h in
    let odd : is_odd word ≡ true = p.0 in
    let some : stream_of t b word ≡ Some p.1.0 = p.1.1 in
    let early : refuses_early t b run (Some p.1.0) ≡ true = p.1.2 in
    record { holds = holds-nothing t w run (Arrive word b) (arrive_refused t run b word p.1.0 some early) holds; answer = rw (odd, some, early) refl }

pub replies-refused : (t : TableRows) (w : ReplyWatch) (run : List Event) (e : Event) → is_refused t run e ≡ true → Holds t w run → Replies t w run e TooEarly
replies-refused t w run Tick h holds = absurd cc
replies-refused t w run (Arrive word b) h holds = replies-refused_word t w run b word h holds
replies-refused t w run (Route r) h holds = absurd cc
replies-refused t w run (Send o) h holds = absurd cc

pub replies-even : (t : TableRows) (w : ReplyWatch) (run : List Event) (b word : ℕ) → is_odd word ≡ false → Holds t w run → Replies t w run (Arrive word b) BadParity
unfolding reply
replies-even t w run b word even h = record { holds = holds-nothing t w run (Arrive word b) (arrive_even t run b word even) h; answer = rw even refl }

pub replies-undeclared : (t : TableRows) (w : ReplyWatch) (run : List Event) (b word : ℕ) → is_odd word ≡ true → stream_of t b word ≡ None → Holds t w run → Replies t w run (Arrive word b) Undeclared
unfolding reply
replies-undeclared t w run b word odd none h = record { holds = holds-nothing t w run (Arrive word b) (arrive_undeclared t run b word none) h; answer = rw (odd, none) refl }

move_here : (t : TableRows) (run : List Event) (b w s : ℕ) → is_odd w ≡ true → stream_of t b w ≡ Some s → refuses_early t b run (Some s) ≡ false → move_of t b run (Arrive w b) ≡ In (s, w) ∷ []
move_here t run b w s odd some free = let e : (b == b) ≡ true = eq-eqb b b refl in rw (e, odd, some, free) refl

-- a word that comes leaves every latest word
latest_by-in : (room : ℕ) (p : ℕ × ℕ → Bool) (ms : List Move) (x : ℕ × ℕ) → latest_by room p (ms ++ In x ∷ []) ≡ latest_by room p ms
latest_by-in room p ms x = elim (cases_Bool (is_some (latch room ms))) [
  | inl l ↦ let q = queue-in_latched room ms x l in latest_by-same room p ms (In x) [] (q.1 ∙ sym (append-nil (entered room ms))) q.2
  | inr l ↦ elim (cases_lt (length (entered room ms) - taken room ms) room) [
    | inl few ↦ let q = queue-in_room room ms x (none_from (latch room ms) l) few in latest_by-same room p ms (In x) (x ∷ []) q.1 q.2
    | inr full ↦ let q = queue-in_full room ms x (none_from (latch room ms) l) full in latest_by-same room p ms (In x) [] (q.1 ∙ sym (append-nil (entered room ms))) q.2
  ]
]

latest-arrive : (t : TableRows) (s : ℕ) (run : List Event) (b w k : ℕ) → is_odd w ≡ true → stream_of t b w ≡ Some k → refuses_early t b run (Some k) ≡ false → latest t s (run ++ Arrive w b ∷ []) ≡ latest t s run
unfolding latest
latest-arrive t s run b w k odd some free =
    let a = (stream_row t s).bus in
    elim (cases_eq b (stream_row t s).bus) [
      | inl same ↦
          let P : ℕ → Type 0 = λ a. move_of t a run (Arrive w b) ≡ In (k, w) ∷ [] in
          let here : move_of t a run (Arrive w b) ≡ In (k, w) ∷ [] = subst P same (move_here t run b w k odd some free) in
          ap (λ ms. latest_by (room t a) (is_of_stream s) ms) (moves-push t a run (Arrive w b) ∙ ap (λ m. moves t a run ++ m) here) ∙ latest_by-in (room t a) (is_of_stream s) (moves t a run) (k, w)
      | inr other ↦ latest-other t s run (Arrive w b) (move_elsewhere t run a b w other)
    ]

pub replies-arrive : (t : TableRows) (old new : ReplyWatch) (run : List Event) (b w s : ℕ) (d : BusData) (r : Reply) → b < length old.buses.items → is_odd w ≡ true → stream_of t b w ≡ Some s → refuses_early t b run (Some s) ≡ false
    → Received (room t b) d (moves t b run) (s, w) r → new.tick ≡ old.tick → new.buses.items ≡ set old.buses.items b d → new.latest.items ≡ old.latest.items → new.cursors.items ≡ old.cursors.items → new.sent.items ≡ old.sent.items
    → Holds t old run → Replies t new run (Arrive w b) r
unfolding reply
replies-arrive t old new run b w s d r there odd some free got same_tick buses latests cursors sents h =
    let more : moves t b (run ++ Arrive w b ∷ []) ≡ moves t b run ++ In (s, w) ∷ [] = moves-push t b run (Arrive w b) ∙ ap (λ m. moves t b run ++ m) (move_here t run b w s odd some free) in
    let P : List Move → Type 0 = λ ms. IsLog (room t b) d ms in
    let here : IsLog (room t b) d (moves t b (run ++ Arrive w b ∷ [])) = subst P (sym more) got.holds in
    let Q : List BusData → Type 0 = λ xs. (a : ℕ) → a < length t.buses → IsLog (room t a) (get_or xs a no_log) (moves t a (run ++ Arrive w b ∷ [])) in
    record {
      holds = record {
        clock = same_tick ∙ h.clock ∙ sym (calm run (Arrive w b) refl);
        logs = subst Q (sym buses) (logs-set t run (Arrive w b) old.buses.items b d there here (λ a other. move_elsewhere t run a b w other) h.logs);
        words = λ k l. ap (λ xs. get_or xs k None) latests ∙ h.words k l ∙ sym (latest-arrive t k run b w s odd some free);
        turns = λ q l. ap (λ xs. get_or xs q 0) cursors ∙ h.turns q l ∙ turn-same t q run (Arrive w b) refl;
        counts = λ o l. ap (λ xs. get_or xs o 0) sents ∙ h.counts o l ∙ sym (sent-other t o run (Arrive w b) refl);
      };
      answer = rw (odd, some, free, more) got.answer;
    }

-- ---- a router visits

route_here : (r : ℕ) → route_of r (Route r) ≡ Some r
route_here r = ap (λ b. cond b (Some r) None) (eq-eqb r r refl)

route_elsewhere : (q r : ℕ) → (r ≡ q → ⊥) → route_of q (Route r) ≡ None
route_elsewhere q r other = ap (λ b. cond b (Some r) None) (ne_eqb r q other)

visited_now : (t : TableRows) (r b cursor n : ℕ) → b ≡ visited t r cursor → cursor ≡ n % length (router_row t r).visits → visited t r n ≡ b
visited_now t r b cursor n is cur =
    let len = length (router_row t r).visits in
    sym (is ∙ ap (λ c. get_or (router_row t r).visits (c % len) 0) cur ∙ ap (λ k. get_or (router_row t r).visits k 0) (mod-mod n len))

next_turn : (cursor n len next : ℕ) → next ≡ (cursor % len + 1) % len → cursor ≡ n % len → next ≡ (n + 1) % len
next_turn cursor n len next nx cur =
    nx ∙ ap (λ c. (c % len + 1) % len) cur ∙ ap (λ k. (k + 1) % len) (mod-mod n len) ∙ mod-add-mod n len 1

visit_here : (t : TableRows) (run : List Event) (r b : ℕ) → visited t r (routes r run) ≡ b → moves t b (run ++ Route r ∷ []) ≡ moves t b run ++ Visit ∷ []
visit_here t run r b is = let one : (visited t r (routes r run) == b) ≡ true = eq-eqb _ _ is in moves-push t b run (Route r) ∙ ap (λ x. moves t b run ++ cond x (Visit ∷ []) []) one

visit_elsewhere : (t : TableRows) (run : List Event) (r b a : ℕ) → visited t r (routes r run) ≡ b → (b ≡ a → ⊥) → move_of t a run (Route r) ≡ []
visit_elsewhere t run r b a is other = let none : (visited t r (routes r run) == a) ≡ false = ne_eqb _ _ (λ e. other (sym is ∙ e)) in ap (λ x. cond x (Visit ∷ []) []) none

bus_of : (t : TableRows) (b x k : ℕ) → stream_of t b x ≡ Some k → b ≡ (stream_row t k).bus
unfolding stream_of
bus_of t b x k of =
    let p = position-Some (declares b x) t.streams k (record { bus = 0; label = 0; sdi = None; format = Bnr; minimum = 0; maximum = 0; jitter = 0 }) of in
    let parts = and_parts (((stream_row t k).bus == b) && ((stream_row t k).label == label_of x)) (fits (stream_row t k).sdi (sdi_of x)) p.1 in
    let first = and_parts ((stream_row t k).bus == b) ((stream_row t k).label == label_of x) parts.0 in
    sym (eqb-true _ _ first.0)

-- what the code does in a step of router r: it visits bus b, whose log becomes d, and moves on
pub record Steps (t : TableRows) (old new : ReplyWatch) (r b : ℕ) (d : BusData) : Type 0 where
  pub router_there : r < length old.cursors.items
  pub bus_there : b < length old.buses.items
  pub in_tables : (r < length t.routers) × (b < length t.buses)
  pub bus_is : b ≡ visited t r (get_or old.cursors.items r 0)
  pub next : ℕ
  pub next_is : next ≡ (get_or old.cursors.items r 0 % length (router_row t r).visits + 1) % length (router_row t r).visits
  pub same_tick : new.tick ≡ old.tick
  pub buses : new.buses.items ≡ set old.buses.items b d
  pub cursors : new.cursors.items ≡ set old.cursors.items r next
  pub sents : new.sent.items ≡ old.sent.items
  pub visit : (ms : List Move) → IsLog (room t b) (get_or old.buses.items b no_log) ms → IsLog (room t b) d (ms ++ Visit ∷ [])

module _ (t : TableRows) (old new : ReplyWatch) (run : List Event) (r b : ℕ) (d : BusData) (v : Steps t old new r b d) (h : Holds t old run) where
  visits_b : visited t r (routes r run) ≡ b
  visits_b = visited_now t r b (get_or old.cursors.items r 0) (routes r run) v.bus_is (h.turns r v.in_tables.0)

  more_b : moves t b (run ++ Route r ∷ []) ≡ moves t b run ++ Visit ∷ []
  more_b = visit_here t run r b visits_b

  log_b : IsLog (room t b) (get_or old.buses.items b no_log) (moves t b run)
  log_b = h.logs b v.in_tables.1

  log_after : IsLog (room t b) d (moves t b (run ++ Route r ∷ []))
  log_after = let P : List Move → Type 0 = λ ms. IsLog (room t b) d ms in subst P (sym more_b) (v.visit (moves t b run) log_b)

  turn_after : v.next ≡ routes r (run ++ Route r ∷ []) % length (router_row t r).visits
  turn_after =
      let n : routes r (run ++ Route r ∷ []) ≡ routes r run + 1 = omega (arith, steps-push (route_of r) run (Route r), ap (λ (o : Option ℕ). one_if o) (route_here r)) in
      next_turn (get_or old.cursors.items r 0) (routes r run) (length (router_row t r).visits) v.next v.next_is (h.turns r v.in_tables.0) ∙ sym (ap (λ k. k % length (router_row t r).visits) n)

  turns_after : (q : ℕ) → q < length t.routers → get_or (set old.cursors.items r v.next) q 0 ≡ routes q (run ++ Route r ∷ []) % length (router_row t q).visits
  turns_after q l = elim (cases_eq r q) [
    | inl same ↦
        let P : ℕ → Type 0 = λ q. get_or (set old.cursors.items r v.next) q 0 ≡ routes q (run ++ Route r ∷ []) % length (router_row t q).visits in
        subst P same (get_or-set_same old.cursors.items r v.next 0 v.router_there ∙ turn_after)
    | inr other ↦
        let ne : q ≡ r → ⊥ = λ e. other (sym e) in
        get_or-set_other old.cursors.items r q v.next 0 ne ∙ h.turns q l ∙ turn-same t q run (Route r) (route_elsewhere q r other)
  ]

  holds-route : ((s : ℕ) → s < length t.streams → get_or new.latest.items s None ≡ latest t s (run ++ Route r ∷ [])) → Holds t new (run ++ Route r ∷ [])
  holds-route words' =
      let Q : List BusData → Type 0 = λ xs. (a : ℕ) → a < length t.buses → IsLog (room t a) (get_or xs a no_log) (moves t a (run ++ Route r ∷ [])) in
      record {
        clock = v.same_tick ∙ h.clock ∙ sym (calm run (Route r) refl);
        logs = subst Q (sym v.buses) (logs-set t run (Route r) old.buses.items b d v.bus_there log_after (λ a other. visit_elsewhere t run r b a visits_b other) h.logs);
        words = words';
        turns = λ q l. ap (λ xs. get_or xs q 0) v.cursors ∙ turns_after q l;
        counts = λ o l. ap (λ xs. get_or xs o 0) v.sents ∙ h.counts o l ∙ sym (sent-other t o run (Route r) refl);
      }

  latest_elsewhere : (s : ℕ) → (b ≡ (stream_row t s).bus → ⊥) → latest t s (run ++ Route r ∷ []) ≡ latest t s run
  latest_elsewhere s other = latest-other t s run (Route r) (visit_elsewhere t run r b (stream_row t s).bus visits_b other)

  -- ---- an empty queue

  module _ (none : (get_or old.buses.items b no_log).words ≡ []) where
    empty_is : taken (room t b) (moves t b run ++ Visit ∷ []) ≡ taken (room t b) (moves t b run)
    empty_is = omega (arith, (queue-visit (room t b) (moves t b run)).2, taken-le (room t b) (moves t b run), ap (λ (xs : List (ℕ × (ℕ × ℕ))). length xs) (sym none ∙ log_b.words), waiting-length (room t b) (moves t b run))

    latest_empty : (s : ℕ) → latest t s (run ++ Route r ∷ []) ≡ latest t s run
    unfolding latest
    latest_empty s = elim (cases_eq b (stream_row t s).bus) [
      | inl same ↦
          let P : ℕ → Type 0 = λ a. latest_by (room t a) (is_of_stream s) (moves t a (run ++ Route r ∷ [])) ≡ latest_by (room t a) (is_of_stream s) (moves t a run) in
          subst P same (rw more_b (latest_by-same (room t b) (is_of_stream s) (moves t b run) Visit [] ((queue-visit (room t b) (moves t b run)).1 ∙ sym (append-nil _)) empty_is))
      | inr other ↦ latest_elsewhere s other
    ]

    pub replies-empty : new.latest.items ≡ old.latest.items → Replies t new run (Route r) (Empty b)
    unfolding reply
    replies-empty latests =
        let stays : ltb (taken (room t b) (moves t b run)) (taken (room t b) (moves t b run ++ Visit ∷ [])) ≡ false = le-ltb _ _ (omega (arith, empty_is)) in
        record {
          holds = holds-route (λ s l. ap (λ xs. get_or xs s None) latests ∙ h.words s l ∙ sym (latest_empty s));
          answer = rw (visits_b, more_b, stays) refl;
        }

  -- ---- a word is taken

  module _ (x : ℕ × ℕ) (some : 1 ≤ length (get_or old.buses.items b no_log).words) (is : x ≡ (get_or (get_or old.buses.items b no_log).words 0 (0, (0, 0))).1) where
    waits : taken (room t b) (moves t b run) < length (entered (room t b) (moves t b run))
    waits = omega (arith, ap (λ (xs : List (ℕ × (ℕ × ℕ))). length xs) log_b.words, waiting-length (room t b) (moves t b run), some)

    item_is : x ≡ item (room t b) (moves t b run) (taken (room t b) (moves t b run))
    item_is = is ∙ ap (λ (xs : List (ℕ × (ℕ × ℕ))). (get_or xs 0 (0, (0, 0))).1) log_b.words ∙ ap (λ (z : ℕ × (ℕ × ℕ)). z.1) (first-waiting (room t b) (moves t b run) waits)

    declared : stream_of t b x.1 ≡ Some x.0
    declared =
        let P : ℕ × ℕ → Type 0 = λ y. stream_of t b y.1 ≡ Some y.0 in
        subst P (sym item_is) (entered-declared t b (room t b) (taken (room t b) (moves t b run)) run waits)

    latest_took : (s : ℕ) → b ≡ (stream_row t s).bus → latest t s (run ++ Route r ∷ []) ≡ cond (is_of_stream s x) (Some (x, old.tick)) (latest t s run)
    unfolding latest
    latest_took s same =
        let time : ticks_in (moves t b run) ≡ old.tick = ticks_in-moves t b run ∙ sym h.clock in
        let P : ℕ → Type 0 = λ a. latest_by (room t a) (is_of_stream s) (moves t a (run ++ Route r ∷ [])) ≡ cond (is_of_stream s x) (Some (x, old.tick)) (latest_by (room t a) (is_of_stream s) (moves t a run)) in
        subst P same (ap (λ ms. latest_by (room t b) (is_of_stream s) ms) more_b ∙ latest_by-takes (room t b) (is_of_stream s) (moves t b run) waits
        ∙ ap (λ y. cond (is_of_stream s y) (Some (y, ticks_in (moves t b run))) (latest_by (room t b) (is_of_stream s) (moves t b run))) (sym item_is)
        ∙ ap (λ k. cond (is_of_stream s x) (Some (x, k)) (latest_by (room t b) (is_of_stream s) (moves t b run))) time)

    latest_other : (s : ℕ) → (x.0 ≡ s → ⊥) → latest t s (run ++ Route r ∷ []) ≡ latest t s run
    latest_other s apart = elim (cases_eq b (stream_row t s).bus) [
      | inl same ↦ latest_took s same ∙ ap (λ c. cond c (Some (x, old.tick)) (latest t s run)) (ne_eqb x.0 s apart)
      | inr other ↦ latest_elsewhere s other
    ]

    words_took : length old.latest.items ≡ length t.streams → (s : ℕ) → s < length t.streams → get_or (set old.latest.items x.0 (Some (x, old.tick))) s None ≡ latest t s (run ++ Route r ∷ [])
    words_took sized s l = elim (cases_eq x.0 s) [
      | inl same ↦
          let here : b ≡ (stream_row t s).bus = bus_of t b x.1 x.0 declared ∙ ap (λ k. (stream_row t k).bus) same in
          let there : x.0 < length old.latest.items = omega arith in
          let P : ℕ → Type 0 = λ s. get_or (set old.latest.items x.0 (Some (x, old.tick))) s None ≡ Some (x, old.tick) in
          subst P same (get_or-set_same old.latest.items x.0 (Some (x, old.tick)) None there) ∙ sym (latest_took s here ∙ ap (λ c. cond c (Some (x, old.tick)) (latest t s run)) (eq-eqb x.0 s same))
      | inr apart ↦
          let ne : s ≡ x.0 → ⊥ = λ e. apart (sym e) in
          get_or-set_other old.latest.items x.0 s (Some (x, old.tick)) None ne ∙ h.words s l ∙ sym (latest_other s apart)
    ]

    pub replies-took : length old.latest.items ≡ length t.streams → new.latest.items ≡ set old.latest.items x.0 (Some (x, old.tick)) → Replies t new run (Route r) (Took x.1 b)
    unfolding reply
    replies-took sized latests =
        let rises : ltb (taken (room t b) (moves t b run)) (taken (room t b) (moves t b run ++ Visit ∷ [])) ≡ true = lt-ltb _ _ (omega (arith, (queue-visit (room t b) (moves t b run)).2, waits)) in
        record {
          holds = holds-route (λ s l. ap (λ xs. get_or xs s None) latests ∙ words_took sized s l);
          answer = rw (visits_b, more_b, rises) (ap (λ (y : ℕ × ℕ). Took y.1 b) item_is);
        }

-- nothing but a send emits
pub emission-none : (t : TableRows) (run : List Event) (e : Event) → ((o : ℕ) → e ≡ Send o → ⊥) → None ≡ emission t run e
unfolding emission
emission-none t run Tick h = refl
emission-none t run (Arrive w b) h = refl
emission-none t run (Route r) h = refl
emission-none t run (Send o) h = absurd (h o refl)

-- ---- an output sends

send_here : (o : ℕ) → send_of o (Send o) ≡ Some o
send_here o = ap (λ b. cond b (Some o) None) (eq-eqb o o refl)

send_elsewhere : (q o : ℕ) → (o ≡ q → ⊥) → send_of q (Send o) ≡ None
send_elsewhere q o other = ap (λ b. cond b (Some o) None) (ne_eqb o q other)

module _ (t : TableRows) (valid : AreValid t) (old new : ReplyWatch) (run : List Event) (o number : ℕ) (lt : o < length t.outputs) (is : number ≡ get_or old.sent.items o 0) (h : Holds t old run) where
  number_is : number ≡ sent t o run
  number_is = is ∙ h.counts o lt

  all_due : due_by t o (tick_after (run ++ Send o ∷ [])) ≡ due_by t o (tick_after run)
  all_due = ap (due_by t o) (calm run (Send o) refl)

  pushed : sent t o (run ++ Send o ∷ []) ≡ min (number + 1) (due_by t o (tick_after run))
  pushed = omega (arith, sent-push t o run (Send o), ap (λ (x : Option ℕ). one_if x) (send_here o), all_due, number_is)

  holds-send : (count : ℕ) → o < length old.sent.items → count ≡ sent t o (run ++ Send o ∷ []) → new.tick ≡ old.tick → new.buses.items ≡ old.buses.items → new.latest.items ≡ old.latest.items → new.cursors.items ≡ old.cursors.items
      → new.sent.items ≡ set old.sent.items o count → Holds t new (run ++ Send o ∷ [])
  holds-send count there count_is same_tick buses latests cursors sents = record {
    clock = same_tick ∙ h.clock ∙ sym (calm run (Send o) refl);
    logs = λ b l. (let Q : List BusData → Type 0 = λ xs. IsLog (room t b) (get_or xs b no_log) (moves t b (run ++ Send o ∷ [])) in
        subst Q (sym buses) (log-same t b (get_or old.buses.items b no_log) run (Send o) refl (h.logs b l)));
    words = λ s l. ap (λ xs. get_or xs s None) latests ∙ h.words s l ∙ sym (latest-other t s run (Send o) refl);
    turns = λ r l. ap (λ xs. get_or xs r 0) cursors ∙ h.turns r l ∙ turn-same t r run (Send o) refl;
    counts = λ q l. ap (λ xs. get_or xs q 0) sents ∙ (elim (cases_eq o q) [
      | inl same ↦
          let P : ℕ → Type 0 = λ q. get_or (set old.sent.items o count) q 0 ≡ sent t q (run ++ Send o ∷ []) in
          subst P same (get_or-set_same old.sent.items o count 0 there ∙ count_is)
      | inr other ↦
          let ne : q ≡ o → ⊥ = λ e. other (sym e) in
          get_or-set_other old.sent.items o q count 0 ne ∙ h.counts q l ∙ sym (sent-other t q run (Send o) (send_elsewhere q o other))
    ]);
  }

  none_due : old.tick < due_tick t o number → due_by t o (tick_after run) ≤ number
  none_due late = elim (cases_lt number (due_by t o (tick_after run))) [ inl less ↦ absurd (omega (arith, due_by-due t valid o lt number (tick_after run) less, h.clock, late)) | inr le ↦ le ]

  pub replies-idle : old.tick < due_tick t o number → Replies t old run (Send o) Idle
  unfolding reply
  replies-idle late =
      let same : sent t o (run ++ Send o ∷ []) ≡ sent t o run = omega (arith, pushed, none_due late, sent-le t o run, number_is) in
      let stays : ltb (sent t o run) (sent t o (run ++ Send o ∷ [])) ≡ false = le-ltb _ _ (omega (arith, same)) in
      record {
        holds = record {
          clock = h.clock ∙ sym (calm run (Send o) refl);
          logs = λ b l. log-same t b (get_or old.buses.items b no_log) run (Send o) refl (h.logs b l);
          words = λ s l. h.words s l ∙ sym (latest-other t s run (Send o) refl);
          turns = λ r l. h.turns r l ∙ turn-same t r run (Send o) refl;
          counts = λ q l. h.counts q l ∙ (elim (cases_eq o q) [
            | inl e ↦
                let P : ℕ → Type 0 = λ q. sent t q run ≡ sent t q (run ++ Send o ∷ []) in
                subst P e (sym same)
            | inr other ↦ sym (sent-other t q run (Send o) (send_elsewhere q o other))
          ]);
        };
        answer = rw stays refl;
      }

  one_more : due_tick t o number ≤ old.tick → number + 1 ≡ sent t o (run ++ Send o ∷ [])
  one_more due = omega (arith, pushed, due-due_by t valid o lt number (tick_after run) (omega (arith, h.clock, due)))

  pub holds-sent : (count most : ℕ) → count ≡ min (number + 1) most → old.tick < most → due_tick t o number ≤ old.tick → o < length old.sent.items → new.tick ≡ old.tick → new.buses.items ≡ old.buses.items → new.latest.items ≡ old.latest.items → new.cursors.items ≡ old.cursors.items
      → new.sent.items ≡ set old.sent.items o count → Holds t new (run ++ Send o ∷ [])
  holds-sent count most count_is early due there same_tick buses latests cursors sents =
      holds-send count there (omega (arith, count_is, one_more due, due-late t valid o lt number, early, due)) same_tick buses latests cursors sents

  pub sent_reply : due_tick t o number ≤ old.tick → (x w : ℕ) → x ≡ entry_label t o number → w ≡ chosen t x (run ++ Send o ∷ []) → Sent (label_row t x).label w ≡ reply t run (Send o)
  unfolding reply
  sent_reply due x w x_is word =
      let rises : ltb (sent t o run) (sent t o (run ++ Send o ∷ [])) ≡ true = lt-ltb _ _ (omega (arith, one_more due, number_is)) in
      let e : x ≡ entry_label t o (sent t o run) = x_is ∙ ap (entry_label t o) number_is in
      rw (rises, ← e) (ap (λ w. Sent (label_row t x).label w) word)

  -- what it emits
  pub emission-idle : old.tick < due_tick t o number → emission t run (Send o) ≡ None
  unfolding emission
  emission-idle late =
      let same : sent t o (run ++ Send o ∷ []) ≡ sent t o run = omega (arith, pushed, none_due late, sent-le t o run, number_is) in
      let stays : ltb (sent t o run) (sent t o (run ++ Send o ∷ [])) ≡ false = le-ltb _ _ (omega (arith, same)) in
      rw stays refl

  pub emission-sent : due_tick t o number ≤ old.tick → emission t run (Send o) ≡ Some (entry_label t o number)
  unfolding emission
  emission-sent due =
      let rises : ltb (sent t o run) (sent t o (run ++ Send o ∷ [])) ≡ true = lt-ltb _ _ (omega (arith, one_more due, number_is)) in
      rw rises (ap (λ n. Some (entry_label t o n)) (sym number_is))

-- ---- a tick ends

latest-tick : (t : TableRows) (s : ℕ) (run : List Event) → latest t s (run ++ Tick ∷ []) ≡ latest t s run
unfolding latest
latest-tick t s run =
    let a = (stream_row t s).bus in
    let q = queue-tick (room t a) (moves t a run) in
    rw (moves-push t a run Tick) (latest_by-same (room t a) (is_of_stream s) (moves t a run) TickMove [] (q.1 ∙ sym (append-nil _)) q.2)

pub replies-tick : (t : TableRows) (old new : ReplyWatch) (run : List Event) → new.tick ≡ old.tick + 1 → new.buses ≡ old.buses → new.latest ≡ old.latest → new.cursors ≡ old.cursors → new.sent ≡ old.sent → Holds t old run → Replies t new run Tick (Now new.tick)
unfolding reply
replies-tick t old new run ticked buses latests cursors sents h = record {
  holds = record {
    clock = omega (arith, ticked, h.clock, tick-push run Tick);
    logs = λ b l. (let P : List Move → Type 0 = λ ms. IsLog (room t b) (get_or old.buses.items b no_log) ms in
        let Q : BusData → Type 0 = λ d. IsLog (room t b) d (moves t b (run ++ Tick ∷ [])) in
        subst Q (sym (ap (λ x. get_or x.items b no_log) buses)) (subst P (sym (moves-push t b run Tick)) (log-tick (room t b) (get_or old.buses.items b no_log) (moves t b run) (h.logs b l))));
    words = λ s l. ap (λ x. get_or x.items s None) latests ∙ h.words s l ∙ sym (latest-tick t s run);
    turns = λ r l. ap (λ x. get_or x.items r 0) cursors ∙ h.turns r l ∙ turn-same t r run Tick refl;
    counts = λ o l. ap (λ x. get_or x.items o 0) sents ∙ h.counts o l ∙ sym (sent-other t o run Tick refl);
  };
  answer = ap Now (ticked ∙ ap (λ n. n + 1) h.clock);
}
