-- The bus part of the certification theorem: an accepted bus keeps up in every admissible run.
use Rattle.std.proofs.Common.{min, inl, inr, ◌≡◌, ℕ, suc, ◌+◌, ◌≤◌, ◌<◌, ◌&&◌, true, false, cond, eqb, Option, Some, None, List, [], ◌∷◌, ◌++◌, length, drop, get_or, refl, sym, ap, ◌∙◌, subst, arith, append_assoc}
use Rattle.std.specs.List.{All}
use Rattle.std.proofs.lemmas.List.{get_or-take, get_or-drop, length-take, length-drop}
use Rattle.std.proofs.lemmas.List.Elements.{All-append, All-same, All-nil, All-cons, All-weaker}
use Rattle.std.proofs.lemmas.Bool.{cases_Bool}
use Rattle.dc_word.specs.declared.format.Format.TheVariants.{Bnr}
use Rattle.dc_bound.specs.Early.{jitter_cap, HoldsCap}
use Rattle.dc_bound.specs.lemmas.Counts.{wire_holds, both_holds}
use Rattle.dc_bound.specs.lemmas.Cycle.{fewest_visits_zero}
use Rattle.dc_bound.specs.lemmas.FirstPlaces.{snoc_induction}
use Rattle.dc_bound.specs.lemmas.KeepsUp.{NeverFull, HandsOn, KeepsUp}
use Rattle.dc_bound.specs.Moves.{Move, move_ends, tag_of, entries}
use Rattle.dc_bound.specs.Moves.Move.{Visit}
use Rattle.dc_bound.specs.lemmas.QueueTimes.{keeps_up}
use Rattle.dc_bound.specs.Run.{ticks, stamped}
use Rattle.dc_bound.specs.lemmas.Steps.{stamped-append}
use Rattle.dc_bound.specs.Tags.{with_tag, EachAllows, SumAllows}
use Rattle.dc_bound.specs.lemmas.Sums.{SumAllows-count}
use Rattle.dc_bound.specs.lemmas.Visited.{visited_holds}
use Rattle.dc_bound.specs.Window.{count_in, ticks_of, HoldsWire, wire_cap}
use Rattle.dc_busy.specs.BusyWindow.{Serves}
use Rattle.dc_busy.specs.lemmas.Law.{queue_backlog, queue_delay}
use Rattle.dc_cert.specs.Bounds.{InputBound, CertificateRows, input_bound}
use Rattle.dc_event.specs.lemmas.RunPush.{ticks_in-moves}
use Rattle.dc_check.specs.Accepts.{AcceptsInput, AcceptsNumbers}
use Rattle.dc_event.specs.Admissible.{KeepsSources, KeepsBudgets, IsAdmissible}
use Rattle.dc_event.specs.Offers.{let_in, cap_of}
use Rattle.dc_event.specs.lemmas.Arrivals.{arrivals-hold, stream_of-there}
use Rattle.dc_event.specs.Buses.{arrivals, in_of, move_of, moves, room, bus_arrivals}
use Rattle.dc_event.specs.lemmas.RunMoves.{moves-nil, moves-beginning, router_visits}
use Rattle.dc_bound.specs.lemmas.InOrder.{picked_in_order}
use Rattle.dc_event.specs.lemmas.RunPush.{moves-push, let_in-some}
use Rattle.dc_event.specs.Time.{ends, tick_after, route_of, routes, route_ticks}
use Rattle.dc_event.specs.declared.event.Event.{Event}
use Rattle.dc_event.specs.declared.event.Event.TheVariants.{Tick, Arrive, Route, Send}
use Rattle.dc_tables.specs.Declares.{stream_of}
use Rattle.dc_tables.specs.TableRows.{TableRows, AreValid, bus_row, stream_row, router_row, bus_streams, visited, stream_cap, streams_cap, bus_cap, bus_floor, is_policed}
use Rattle.dc_tables.specs.declared.rows.Stream.{Stream}
use Rattle.dc_word.specs.Word.{is_odd}

-- ---- the stream of a word

abbrev pub IsStreamOf : TableRows → ℕ → ℕ → Type 0
IsStreamOf t b s = (s < length t.streams) × ((stream_row t s).bus ≡ b)

-- ---- the tags of a bus's arrivals

in_of-tags : (t : TableRows) (b k w : ℕ) (o : Option ℕ) → ((s : ℕ) → o ≡ Some s → IsStreamOf t b s) → All (λ e. IsStreamOf t b e.1) (stamped move_ends tag_of k (in_of o w))
unfolding stamped
in_of-tags t b k w None h = All-nil (λ e. IsStreamOf t b e.1)
in_of-tags t b k w (Some s) h = All-cons (λ e. IsStreamOf t b e.1) (k, s) [] (h s refl) (All-nil (λ e. IsStreamOf t b e.1))

move_of-tags : (t : TableRows) (b k : ℕ) (past : List Event) (e : Event) → All (λ e. IsStreamOf t b e.1) (stamped move_ends tag_of k (move_of t b past e))
unfolding stamped
move_of-tags t b k past Tick = All-nil (λ e. IsStreamOf t b e.1)
move_of-tags t b k past (Arrive w a) =
    elim (eqb a b && is_odd w) as (λ v. All (λ e. IsStreamOf t b e.1) (stamped move_ends tag_of k (cond v (in_of (let_in t b past (stream_of t b w)) w) []))) [
      | true ↦ in_of-tags t b k w (let_in t b past (stream_of t b w)) (λ s h. stream_of-there t b w s (let_in-some t b past (stream_of t b w) s h))
      | false ↦ All-nil (λ e. IsStreamOf t b e.1)
    ]
move_of-tags t b k past (Route r) =
    elim (eqb (visited t r (routes r past)) b) as (λ v. All (λ e. IsStreamOf t b e.1) (stamped move_ends tag_of k (cond v (Visit ∷ []) []))) [
      | true ↦ All-nil (λ e. IsStreamOf t b e.1)
      | false ↦ All-nil (λ e. IsStreamOf t b e.1)
    ]
move_of-tags t b k past (Send o) = All-nil (λ e. IsStreamOf t b e.1)

no_tags : (t : TableRows) (b : ℕ) → All (λ e. IsStreamOf t b e.1) (entries [])
unfolding stamped
no_tags t b = All-nil (λ e. IsStreamOf t b e.1)

-- each arrival of a bus is one of its streams'
pub tags : (t : TableRows) (b : ℕ) (run : List Event) → All (λ e. IsStreamOf t b e.1) (bus_arrivals t b run)
tags t b run =
    let P : List Event → Type 0 = λ run. All (λ e. IsStreamOf t b e.1) (bus_arrivals t b run) in
    snoc_induction P (All-same (λ e. IsStreamOf t b e.1) (entries (moves t b [])) (entries []) (ap entries (moves-nil t b)) (no_tags t b)) (λ run e h.
    All-same (λ e. IsStreamOf t b e.1) (bus_arrivals t b (run ++ e ∷ [])) (entries (moves t b run) ++ stamped move_ends tag_of (0 + ticks move_ends (moves t b run)) (move_of t b run e))
    (ap entries (moves-push t b run e) ∙ stamped-append move_ends tag_of 0 (moves t b run) (move_of t b run e))
    (All-append (λ e. IsStreamOf t b e.1) (entries (moves t b run)) (stamped move_ends tag_of (0 + ticks move_ends (moves t b run)) (move_of t b run e)) h (move_of-tags t b (0 + ticks move_ends (moves t b run)) run e))) run

-- ---- the arrivals keep the bound

-- what one stream allows
abbrev pub StreamAllows : Stream → List (ℕ × ℕ) → Type 0
StreamAllows row xs = HoldsCap (jitter_cap row.minimum row.jitter) (ticks_of xs)

-- what a bus allows: the sum of its streams, and its wire where it is not policed
abbrev pub BusAllows : TableRows → ℕ → List (ℕ × ℕ) → Type 0
BusAllows t b xs = SumAllows StreamAllows (bus_row t b).first (bus_streams t b) xs × (is_policed t b ≡ false → HoldsWire t.tick_us (bus_row t b).spacing (ticks_of xs))

pub bus_allows-count : (t : TableRows) (b : ℕ) (xs : List (ℕ × ℕ)) (u d : ℕ) → BusAllows t b xs → count_in u d (ticks_of xs) ≤ bus_cap t b d
unfolding bus_cap
bus_allows-count t b xs u d h =
    let streams : count_in u d (ticks_of xs) ≤ streams_cap t b d = SumAllows-count StreamAllows u d (stream_cap d) (λ row ys k. k d u) (bus_row t b).first (bus_streams t b) xs h.0 in
    elim (is_policed t b) as (λ v. (v ≡ false → HoldsWire t.tick_us (bus_row t b).spacing (ticks_of xs)) → count_in u d (ticks_of xs) ≤ cond v (streams_cap t b d) (min (streams_cap t b d) (wire_cap t.tick_us (bus_row t b).spacing d))) [
      | true ↦ λ wire. streams
      | false ↦ λ wire. both_holds (streams_cap t b d) (wire_cap t.tick_us (bus_row t b).spacing d) (count_in u d (ticks_of xs)) streams (wire_holds t.tick_us (bus_row t b).spacing xs u d (wire refl))
    ] h.1

each_allows : (i : ℕ) (rows : List Stream) (xs : List (ℕ × ℕ)) (d : Stream) → ((k : ℕ) → k < length rows → StreamAllows (get_or rows k d) (with_tag (i + k) xs)) → EachAllows StreamAllows i rows xs
unfolding EachAllows
each_allows i [] xs d h = tt
each_allows i (row ∷ rows) xs d h =
    let z : i + 0 ≡ i = omega arith in (
      (let P : ℕ → Type 0 = λ n. StreamAllows row (with_tag n xs) in subst P z (h 0 (omega arith))),
      each_allows (suc i) rows xs d (λ k l. let e : i + suc k ≡ suc i + k = omega arith in (let P : ℕ → Type 0 = λ n. StreamAllows (get_or rows k d) (with_tag n xs) in subst P e (h (suc k) (omega arith)))),
    )

module _ (t : TableRows) (valid : AreValid t) (b : ℕ) (there : b < length t.buses) where
  streams_count : length (bus_streams t b) ≡ (bus_row t b).streams
  streams_count = omega (arith, length-take (bus_row t b).streams (drop (bus_row t b).first t.streams), length-drop (bus_row t b).first t.streams, valid.streams_there b there)

  -- in any run: of a policed bus by its rule, of another by its sources
  stream-holds : (run : List Event) → KeepsSources t run → (s : ℕ) → s < length t.streams → HoldsCap (cap_of t s) (ticks_of (arrivals t s run))
  stream-holds run keeps s s_there =
      elim (cases_Bool (is_policed t (stream_row t s).bus)) [
        | inl policed ↦ arrivals-hold t s policed (valid.minimums s s_there) run
        | inr free ↦ keeps.streams_rest s s_there free
      ]

  pub moves-allowed : (run : List Event) → KeepsSources t run → BusAllows t b (entries (moves t b run))
  moves-allowed run keeps =
      let none : Stream = record { bus = 0; label = 0; sdi = None; format = Bnr; minimum = 0; maximum = 0; jitter = 0 } in
      let first : ℕ = (bus_row t b).first in (
        record {
          from = All-weaker (λ e. IsStreamOf t b e.1) (λ e. (bus_row t b).first ≤ e.1) (λ e h. (valid.streams_of_bus b e.1 there h.0 h.1).0) (bus_arrivals t b run) (tags t b run);
          below = All-weaker (λ e. IsStreamOf t b e.1) (λ e. e.1 < (bus_row t b).first + length (bus_streams t b)) (λ e h. omega (arith, (valid.streams_of_bus b e.1 there h.0 h.1).1, streams_count)) (bus_arrivals t b run) (tags t b run);
          each = each_allows (bus_row t b).first (bus_streams t b) (bus_arrivals t b run) (record { bus = 0; label = 0; sdi = None; format = Bnr; minimum = 0; maximum = 0; jitter = 0 }) (λ k l.
              let inside : k < (bus_row t b).streams = omega (arith, streams_count) in
              let s_there : (bus_row t b).first + k < length t.streams = omega (arith, valid.streams_there b there) in
              let row : get_or (bus_streams t b) k (record { bus = 0; label = 0; sdi = None; format = Bnr; minimum = 0; maximum = 0; jitter = 0 }) ≡ stream_row t ((bus_row t b).first + k) =
              get_or-take (bus_row t b).streams (drop (bus_row t b).first t.streams) k (record { bus = 0; label = 0; sdi = None; format = Bnr; minimum = 0; maximum = 0; jitter = 0 }) inside
              ∙ get_or-drop (bus_row t b).first t.streams k (record { bus = 0; label = 0; sdi = None; format = Bnr; minimum = 0; maximum = 0; jitter = 0 }) in
              let bus : (stream_row t ((bus_row t b).first + k)).bus ≡ b = valid.bus_of_streams b ((bus_row t b).first + k) there (omega arith) (omega arith) in
              let P : Stream → Type 0 = λ row. StreamAllows row (with_tag ((bus_row t b).first + k) (bus_arrivals t b run)) in
              let Q : ℕ → Type 0 = λ a. HoldsCap (cap_of t ((bus_row t b).first + k)) (ticks_of (with_tag ((bus_row t b).first + k) (bus_arrivals t a run))) in
              subst P (sym row) (subst Q bus (stream-holds run keeps ((bus_row t b).first + k) s_there)));
        },
        keeps.wires_rest b there,
      )

  -- ---- the visits keep the floor

  pub moves-served : (run : List Event) → KeepsBudgets t run → Serves (bus_floor t b) (moves t b run)
  unfolding bus_floor
  moves-served run keeps u d small whole =
      let r : ℕ = (bus_row t b).router in
      let r_there : (bus_row t b).router < length t.routers = valid.routers_of_buses b there in
      let held = visited_holds (router_row t (bus_row t b).router).visits b (valid.visits_there (bus_row t b).router r_there) (router_row t (bus_row t b).router).steps (router_row t (bus_row t b).router).within (tick_after run)
      (route_ticks (bus_row t b).router run) (picked_in_order ends (route_of (bus_row t b).router) 0 run) (keeps.routers_work (bus_row t b).router r_there) u d 0 (omega (arith, ticks_in-moves t b run)) in
      omega (arith, held, router_visits t b (bus_row t b).router u d run)

  pub bus_floor-zero : bus_floor t b 0 ≡ 0
  unfolding bus_floor
  bus_floor-zero = fewest_visits_zero (router_row t (bus_row t b).router).visits b (router_row t (bus_row t b).router).steps (router_row t (bus_row t b).router).within

  -- ---- the law, at the moves of the bus

  module _ (c : InputBound) (ok : AcceptsInput t b c) (run : List Event) (keeps : IsAdmissible t run) where
    pub bus_never_full : (post : List Move) (ms : List Move) → moves t b run ≡ ms ++ post → NeverFull (room t b) ms
    bus_never_full post ms cut pre rest e =
        let q = queue_backlog (bus_cap t b) (bus_floor t b) (BusAllows t b) (λ xs u d h. bus_allows-count t b xs u d h) c.window ok.window.some ok.window.most c.backlog bus_floor-zero ok.window.closes ok.backlog.bounded
        (moves t b run) (moves-allowed run keeps.sources) (moves-served run keeps.budgets) pre (rest ++ post) (cut ∙ ap (λ z. z ++ post) e ∙ append_assoc pre rest post) in
        omega (arith, q, ok.backlog.fits)

    pub bus_hands_on : (post : List Move) (ms : List Move) → moves t b run ≡ ms ++ post → HandsOn c.delay ms
    bus_hands_on post ms cut pre mid rest e late =
        queue_delay (bus_cap t b) (bus_floor t b) (BusAllows t b) (λ xs u d h. bus_allows-count t b xs u d h) c.window ok.window.some ok.window.most c.delay ok.delay.short ok.window.closes ok.delay.bounded
        (moves t b run) (moves-allowed run keeps.sources) (moves-served run keeps.budgets) pre mid (rest ++ post)
        (cut ∙ ap (λ z. z ++ post) e ∙ simp append_assoc) late

-- an accepted bus keeps up, at each place of an admissible run
pub input_keeps_up : (t : TableRows) → AreValid t → (b : ℕ) → b < length t.buses → (c : InputBound) → AcceptsInput t b c
    → (past rest : List Event) → IsAdmissible t (past ++ rest) → KeepsUp (room t b) c.delay (moves t b past)
input_keeps_up t valid b there c ok past rest keeps =
    let r = moves-beginning t b past rest in
    keeps_up (room t b) c.delay (moves t b past) (bus_never_full t valid b there c ok (past ++ rest) keeps r.0 (moves t b past) r.1) (bus_hands_on t valid b there c ok (past ++ rest) keeps r.0 (moves t b past) r.1)

pub bus_keeps_up : (t : TableRows) (c : CertificateRows) → AreValid t → AcceptsNumbers t c
    → (past rest : List Event) → IsAdmissible t (past ++ rest) → (b : ℕ) → b < length t.buses
    → KeepsUp (room t b) (input_bound c b).delay (moves t b past)
bus_keeps_up t c valid ok past rest keeps b there = input_keeps_up t valid b there (input_bound c b) (ok.inputs b there) past rest keeps
