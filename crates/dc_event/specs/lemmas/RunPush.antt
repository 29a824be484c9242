-- One more event at the end of a run.
use Rattle.std.proofs.Common.{◌≡◌, ℕ, zero, suc, ◌+◌, ◌-◌, ◌≤◌, ◌<◌, ◌&&◌, ◌==◌, min, true, false, cond, leb, Option, Some, None, List, [], ◌∷◌, ◌++◌, length, take, drop, get_or, refl, sym, ap, ◌∙◌, subst, arith, inl, inr, add-zero, take-append-drop, length-append}
use Rattle.std.specs.List.{flat_map}
use Rattle.std.proofs.lemmas.List.{append-nil, get_or_append_left}
use Rattle.std.proofs.lemmas.Bool.{le-leb, leb-true}
use Rattle.std.proofs.lemmas.Grind.{flat_map-append}
use Rattle.dc_bound.specs.Window.{ticks_of, count_in}
use Rattle.dc_bound.specs.Run.{ticks, picks, one_if, stamp, stamped}
use Rattle.dc_bound.specs.Places.{each_place}
use Rattle.dc_bound.specs.Moves.{Move, move_ends, visit_of, ticks_in, ins, latest_by, entered, item, before, latch}
use Rattle.dc_bound.specs.Moves.Move.{Visit}
use Rattle.dc_bound.specs.lemmas.Segments.{ticks-append, picks-append}
use Rattle.dc_bound.specs.lemmas.Counts.{one_in_cases}
use Rattle.dc_bound.specs.lemmas.Recent.{NoneLater}
use Rattle.dc_bound.specs.lemmas.Steps.{stamped-append, count_in-push, ticks_of-append}
use Rattle.dc_bound.specs.lemmas.Queued.{ins-append}
use Rattle.dc_bound.specs.lemmas.PlacesPush.{served-push, served-le, count_below-grows}
use Rattle.dc_bound.specs.lemmas.FirstPlaces.{each_place-push, snoc_induction}
use Rattle.dc_word.specs.Word.{is_odd}
use Rattle.dc_tables.specs.TableRows.{TableRows, visited, stream_row}
use Rattle.dc_tables.specs.Declares.{stream_of}
use Rattle.dc_event.specs.Time.{ends, tick_after, send_of, routes, sends}
use Rattle.dc_event.specs.Offers.{refuses_early, let_in}
use Rattle.dc_event.specs.Buses.{in_of, move_of, moves, room}
use Rattle.dc_event.specs.Latest.{is_of_stream, latest}
use Rattle.dc_event.specs.Outputs.{due_tick, due_by, sent}
use Rattle.dc_event.specs.Replies.{reply, outputs_of}
use Rattle.dc_event.specs.declared.event.Event.{Event}
use Rattle.dc_event.specs.declared.event.Event.TheVariants.{Tick, Arrive, Route, Send}

pub outputs_of-push : (t : TableRows) (run : List Event) (e : Event) → outputs_of t (run ++ e ∷ []) ≡ outputs_of t run ++ reply t run e ∷ []
unfolding outputs_of
outputs_of-push t run e = each_place-push (reply t) run e

-- ---- ticks and steps

ends_none : Event → Option ℕ
ends_none e = None

pub tick-push : (run : List Event) (e : Event) → tick_after (run ++ e ∷ []) ≡ tick_after run + ends e
unfolding ticks
tick-push run e = omega (arith, ticks-append ends ends_none run (e ∷ []))

module _ (pick : Event → Option ℕ) where
  pub steps-push : (run : List Event) (e : Event) → picks pick (run ++ e ∷ []) ≡ picks pick run + one_if (pick e)
  unfolding picks
  steps-push run e = omega (arith, picks-append ends pick run (e ∷ []))

  pub steps-rise : (run : List Event) (j : ℕ) → picks pick (take j run) ≤ picks pick run
  steps-rise run j = omega (arith, picks-append ends pick (take j run) (drop j run), ap (picks pick) (take-append-drop j run))

  last_stamp : (t : ℕ) (e : Event) → stamped ends pick t (e ∷ []) ≡ stamp t (pick e) []
  unfolding stamped
  last_stamp t e = refl

  both : (run : List Event) (e : Event) → ticks_of (stamped ends pick 0 (run ++ e ∷ [])) ≡ ticks_of (stamped ends pick 0 run) ++ ticks_of (stamp (tick_after run) (pick e) [])
  both run e =
      let z : 0 + tick_after run ≡ tick_after run = omega arith in
      ap (λ l. ticks_of l) (stamped-append ends pick 0 run (e ∷ [])) ∙ ticks_of-append (stamped ends pick 0 run) (stamped ends pick (0 + tick_after run) (e ∷ []))
      ∙ ap (λ l. ticks_of (stamped ends pick 0 run) ++ ticks_of l) (last_stamp (0 + tick_after run) e ∙ ap (λ t. stamp t (pick e) []) z)

  -- an event that is no step
  pub ticks-other : (run : List Event) (e : Event) → pick e ≡ None → ticks_of (stamped ends pick 0 (run ++ e ∷ [])) ≡ ticks_of (stamped ends pick 0 run)
  ticks-other run e h = both run e ∙ ap (λ o. ticks_of (stamped ends pick 0 run) ++ ticks_of (stamp (tick_after run) o [])) h ∙ append-nil (ticks_of (stamped ends pick 0 run))

  -- a step
  pub ticks-step : (run : List Event) (e : Event) (x : ℕ) → pick e ≡ Some x → ticks_of (stamped ends pick 0 (run ++ e ∷ [])) ≡ ticks_of (stamped ends pick 0 run) ++ (tick_after run ∷ [])
  ticks-step run e x h = both run e ∙ ap (λ o. ticks_of (stamped ends pick 0 run) ++ ticks_of (stamp (tick_after run) o [])) h

  none_more : (u d k : ℕ) (ts : List ℕ) (o : Option ℕ) → k < u → count_in u d ts ≡ 0 → count_in u d (ts ++ ticks_of (stamp k o [])) ≡ 0
  none_more u d k ts None l h = ap (λ x. count_in u d x) (append-nil ts) ∙ h
  none_more u d k ts (Some x) l h = elim (one_in_cases u d k) [ inl w ↦ absurd (omega arith) | inr v ↦ elim v [ inl w ↦ omega (arith, h, count_in-push u d ts k) | inr w ↦ omega (arith, h, count_in-push u d ts k) ] ]

  none_start : (u d : ℕ) → count_in u d (ticks_of (stamped ends pick 0 [])) ≡ 0
  unfolding stamped count_in
  none_start u d = refl

  -- no step is later than the running tick
  pub steps-none_later : (run : List Event) → NoneLater (tick_after run) (ticks_of (stamped ends pick 0 run))
  steps-none_later run u d h = snoc_induction (λ run. tick_after run < u → count_in u d (ticks_of (stamped ends pick 0 run)) ≡ 0) (λ h. none_start u d)
      (λ run e rec h. (let early : tick_after run < u = omega (arith, h, tick-push run e) in
      ap (λ ts. count_in u d ts) (both run e) ∙ none_more u d (tick_after run) (ticks_of (stamped ends pick 0 run)) (pick e) early (rec early))) run h

-- ---- moves

pub moves-push : (t : TableRows) (b : ℕ) (run : List Event) (e : Event) → moves t b (run ++ e ∷ []) ≡ moves t b run ++ move_of t b run e
unfolding moves
moves-push t b run e =
    ap (λ l. flat_map (λ ms. ms) l) (each_place-push (move_of t b) run e) ∙ flat_map-append (λ ms. ms) (each_place (move_of t b) run) (move_of t b run e ∷ []) ∙ ap (λ ms. flat_map (λ ms. ms) (each_place (move_of t b) run) ++ ms) (append-nil (move_of t b run e))

pub moves-other : (t : TableRows) (b : ℕ) (run : List Event) (e : Event) → move_of t b run e ≡ [] → moves t b (run ++ e ∷ []) ≡ moves t b run
moves-other t b run e h = moves-push t b run e ∙ ap (λ ms. moves t b run ++ ms) h ∙ append-nil (moves t b run)

pub latest-other : (t : TableRows) (s : ℕ) (run : List Event) (e : Event) → move_of t (stream_row t s).bus run e ≡ [] → latest t s (run ++ e ∷ []) ≡ latest t s run
unfolding latest
latest-other t s run e h = ap (λ ms. latest_by (room t (stream_row t s).bus) (is_of_stream s) ms) (moves-other t (stream_row t s).bus run e h)

-- ---- what is due, and what was sent

pub due_by-next : (t : TableRows) (o k : ℕ) → due_by t o k ≤ due_by t o (k + 1)
unfolding due_by
due_by-next t o k =
    let grows = count_below-grows (λ n. leb (due_tick t o n) k) (λ n. leb (due_tick t o n) (k + 1)) (k + 1) (λ n h. le-leb _ _ (omega (arith, leb-true (due_tick t o n) k h))) in
    let e : k + 1 + 1 ≡ suc (k + 1) = omega arith in
    rw e (omega (arith, grows))

pub sent-push : (t : TableRows) (o : ℕ) (run : List Event) (e : Event) → sent t o (run ++ e ∷ []) ≡ min (sent t o run + one_if (send_of o e)) (due_by t o (tick_after (run ++ e ∷ [])))
unfolding sent
sent-push t o run e =
    omega (arith, steps-push (send_of o) run e, served-push (λ past. due_by t o (tick_after past)) (sends o) run e (one_if (send_of o e)) (λ j h. steps-rise (send_of o) run j) (steps-push (send_of o) run e))

pub sent-le : (t : TableRows) (o : ℕ) (run : List Event) → sent t o run ≤ due_by t o (tick_after run)
unfolding sent
sent-le t o run = omega (arith, served-le (λ past. due_by t o (tick_after past)) (sends o) run)

due_by-later : (t : TableRows) (o k : ℕ) (e : Event) → due_by t o k ≤ due_by t o (k + ends e)
due_by-later t o k Tick = due_by-next t o k
due_by-later t o k (Arrive w b) = rw add-zero (omega arith)
due_by-later t o k (Route r) = rw add-zero (omega arith)
due_by-later t o k (Send q) = rw add-zero (omega arith)

-- nothing but a send sends
pub sent-other : (t : TableRows) (o : ℕ) (run : List Event) (e : Event) → send_of o e ≡ None → sent t o (run ++ e ∷ []) ≡ sent t o run
sent-other t o run e h =
    let none : one_if (send_of o e) ≡ 0 = ap (λ (x : Option ℕ). one_if x) h in
    let le : due_by t o (tick_after run) ≤ due_by t o (tick_after (run ++ e ∷ [])) = rw (tick-push run e) (due_by-later t o (tick_after run) e) in
    omega (arith, sent-push t o run e, sent-le t o run, none)

-- ---- the bus's time is the run's

arrive_moves : (o : Option ℕ) (w : ℕ) → ticks_in (in_of o w) ≡ 0
unfolding ticks
arrive_moves None w = refl
arrive_moves (Some s) w = refl

move_ticks : (t : TableRows) (b : ℕ) (past : List Event) (e : Event) → ticks_in (move_of t b past e) ≡ ends e
unfolding ticks
move_ticks t b past Tick = refl
move_ticks t b past (Arrive w a) = elim ((a == b) && is_odd w) as (λ x. ticks move_ends (cond x (in_of (let_in t b past (stream_of t b w)) w) []) ≡ 0) [ true ↦ arrive_moves (let_in t b past (stream_of t b w)) w | false ↦ refl ]
move_ticks t b past (Route r) = elim (visited t r (routes r past) == b) as (λ x. ticks move_ends (cond x (Visit ∷ []) []) ≡ 0) [ true ↦ refl | false ↦ refl ]
move_ticks t b past (Send o) = refl

no_ticks : (t : TableRows) (b : ℕ) → ticks_in (moves t b []) ≡ tick_after []
unfolding moves each_place ticks
no_ticks t b = refl

pub ticks_in-moves : (t : TableRows) (b : ℕ) (run : List Event) → ticks_in (moves t b run) ≡ tick_after run
ticks_in-moves t b run = snoc_induction (λ run. ticks_in (moves t b run) ≡ tick_after run) (no_ticks t b)
    (λ run e rec. omega (arith, ap (λ ms. ticks_in ms) (moves-push t b run e), ticks-append move_ends visit_of (moves t b run) (move_of t b run e), move_ticks t b run e, tick-push run e, rec)) run

-- ---- the stream of an item is the one that declares its word

abbrev pub Declared : TableRows → ℕ → ℕ × ℕ → Type 0
Declared t b x = stream_of t b x.1 ≡ Some x.0

abbrev pub AllDeclared : TableRows → ℕ → List (ℕ × ℕ) → Type 0
AllDeclared t b xs = (n : ℕ) → n < length xs → Declared t b (get_or xs n (0, 0))

declared-append : (t : TableRows) (b : ℕ) (xs ys : List (ℕ × ℕ)) → AllDeclared t b xs → AllDeclared t b ys → AllDeclared t b (xs ++ ys)
declared-append t b [] ys h g n l = g n l
declared-append t b (x ∷ xs) ys h g zero l = h 0 (omega arith)
declared-append t b (x ∷ xs) ys h g (suc n) l = declared-append t b xs ys (λ k p. h (suc k) (omega arith)) g n (omega arith)

-- what is let in was offered
pub let_in-some : (t : TableRows) (b : ℕ) (past : List Event) (o : Option ℕ) (s : ℕ) → let_in t b past o ≡ Some s → o ≡ Some s
let_in-some t b past o s h = elim (refuses_early t b past o) as (λ v. cond v None o ≡ Some s → o ≡ Some s) [ true ↦ λ h. absurd cc | false ↦ λ h. h ] h

arrival_declared : (t : TableRows) (b w : ℕ) (o : Option ℕ) → ((s : ℕ) → o ≡ Some s → stream_of t b w ≡ Some s) → AllDeclared t b (ins (in_of o w))
unfolding ins
arrival_declared t b w None e n l = absurd (omega arith)
arrival_declared t b w (Some s) e zero l = e s refl
arrival_declared t b w (Some s) e (suc n) l = absurd (omega arith)

none_declared : (t : TableRows) (b : ℕ) → AllDeclared t b []
none_declared t b n l = absurd (omega arith)

move_declared : (t : TableRows) (b : ℕ) (past : List Event) (e : Event) → AllDeclared t b (ins (move_of t b past e))
unfolding ins
move_declared t b past Tick = none_declared t b
move_declared t b past (Arrive w a) = elim ((a == b) && is_odd w) as (λ x. AllDeclared t b (ins (cond x (in_of (let_in t b past (stream_of t b w)) w) []))) [ true ↦ arrival_declared t b w (let_in t b past (stream_of t b w)) (λ s h. let_in-some t b past (stream_of t b w) s h) | false ↦ none_declared t b ]
move_declared t b past (Route r) = elim (visited t r (routes r past) == b) as (λ x. AllDeclared t b (ins (cond x (Visit ∷ []) []))) [ true ↦ none_declared t b | false ↦ none_declared t b ]
move_declared t b past (Send o) = none_declared t b

start_declared : (t : TableRows) (b : ℕ) → AllDeclared t b (ins (moves t b []))
unfolding moves each_place ins
start_declared t b n l = absurd (omega arith)

pub ins-declared : (t : TableRows) (b : ℕ) (run : List Event) → AllDeclared t b (ins (moves t b run))
ins-declared t b run = snoc_induction (λ run. AllDeclared t b (ins (moves t b run))) (start_declared t b)
    (λ run e rec. (let P : List (ℕ × ℕ) → Type 0 = λ xs. AllDeclared t b xs in
    subst P (sym (ap ins (moves-push t b run e) ∙ ins-append (moves t b run) (move_of t b run e))) (declared-append t b (ins (moves t b run)) (ins (move_of t b run e)) rec (move_declared t b run e)))) run

more_items : (ms : List Move) (i n : ℕ) → n < length (ins (take (i - 1) ms)) → ins ms ≡ ins (take (i - 1) ms) ++ ins (drop (i - 1) ms) → n < length (ins ms)
more_items ms i n l e = omega (arith, ap (λ (xs : List (ℕ × ℕ)). length xs) e, length-append (ins (take (i - 1) ms)) (ins (drop (i - 1) ms)))

before-declared : (t : TableRows) (b : ℕ) (o : Option ℕ) (ms : List Move) → AllDeclared t b (ins ms) → AllDeclared t b (ins (before o ms))
before-declared t b None ms h n l = h n l
before-declared t b (Some i) ms h n l =
    let e : ins ms ≡ ins (take (i - 1) ms) ++ ins (drop (i - 1) ms) = ap ins (sym (take-append-drop (i - 1) ms)) ∙ ins-append (take (i - 1) ms) (drop (i - 1) ms) in
    let at : get_or (ins ms) n (0, 0) ≡ get_or (ins (take (i - 1) ms)) n (0, 0) = ap (λ xs. get_or xs n (0, 0)) e ∙ get_or_append_left (ins (take (i - 1) ms)) (ins (drop (i - 1) ms)) (0, 0) n l in
    let P : ℕ × ℕ → Type 0 = λ x. Declared t b x in
    subst P at (h n (more_items ms i n l e))

pub entered-declared : (t : TableRows) (b room n : ℕ) (run : List Event) → n < length (entered room (moves t b run)) → stream_of t b (item room (moves t b run) n).1 ≡ Some (item room (moves t b run) n).0
unfolding entered
entered-declared t b room n run l = before-declared t b (latch room (moves t b run)) (moves t b run) (ins-declared t b run) n l
