-- The windows, backlogs and delays of an accepted certificate, in every admissible run.
use Rattle.std.proofs.Common.{◌≡◌, ℕ, ◌-◌, ◌<◌, ◌≤◌, ◌==◌, ◌&&◌, Bool, true, false, cond, Option, Some, None, List, [], ◌∷◌, ◌++◌, length, sym, ap, ◌∙◌, subst, arith, inr, append_assoc}
use Rattle.dc_bound.specs.Frame.{IsDue}
use Rattle.dc_bound.specs.Moves.{Move, entries, ins, passed}
use Rattle.dc_bound.specs.Moves.Move.{Visit}
use Rattle.dc_bound.specs.lemmas.Due.{due_most}
use Rattle.dc_bound.specs.lemmas.KeepsUp.{KeepsUp}
use Rattle.dc_bound.specs.lemmas.QueuePush.{taken-open}
use Rattle.dc_busy.specs.BusyWindow.{EmptiesWithin, QueueEmpties}
use Rattle.dc_busy.specs.lemmas.Empties.{IsLow, queue_empties, low-waits_for_none}
use Rattle.dc_busy.specs.lemmas.EmptyRuns.{IsMoment, run_empties}
use Rattle.dc_busy.specs.lemmas.Law.{queue_backlog}
use Rattle.dc_cert.specs.Bounds.{InputBound, OutputBound, input_bound, output_bound, numbers_of}
use Rattle.dc_check.proofs.Bus.{BusAllows, bus_allows-count, moves-allowed, moves-served, bus_floor-zero, input_keeps_up}
use Rattle.dc_check.proofs.OutputMoves.{sees-moment, moves-came, moves-due, moves-passed, moves-serve, moves-ticks}
use Rattle.dc_check.proofs.Outputs.{dues, due_by-counts, counts_dues, due_tick-offsets, output_moves-are, output_offsets, output_timely}
use Rattle.dc_check.specs.Accepts.{AcceptsInput, AcceptsOutput}
use Rattle.dc_check.specs.Numbers.{AtEachPlace, ClearsWithin, TakesWithin, owed, InputKeeps, OutputKeeps, AcceptedKeepTheirNumbers}
use Rattle.dc_event.specs.Admissible.{IsAdmissible}
use Rattle.dc_event.specs.Buses.{in_of, move_of, moves, room, backlog}
use Rattle.dc_event.specs.Offers.{let_in}
use Rattle.dc_event.specs.Outputs.{due_tick, due_by, sent}
use Rattle.dc_event.specs.Time.{ends, route_of, send_of, routes}
use Rattle.dc_event.specs.declared.event.Event.{Event}
use Rattle.dc_event.specs.declared.event.Event.TheVariants.{Tick, Arrive, Route, Send}
use Rattle.dc_event.specs.lemmas.OutputMoves.{output_move_of, output_moves}
use Rattle.dc_event.specs.lemmas.RunMoves.{moves-beginning}
use Rattle.dc_event.specs.lemmas.RunPush.{moves-push, ticks_in-moves}
use Rattle.dc_tables.specs.Declares.{stream_of}
use Rattle.dc_tables.specs.TableRows.{TableRows, AreValid, output_row, offsets, bus_cap, bus_floor, output_cap, output_floor, visited}
use Rattle.dc_word.specs.Word.{is_odd}

-- ---- inputs

in_moment : (o : Option ℕ) (w : ℕ) → IsMoment (in_of o w)
in_moment None w = inr (omega arith)
in_moment (Some s) w = inr (omega arith)

cond_moment : (b : Bool) (ms : List Move) → IsMoment ms → IsMoment (cond b ms [])
cond_moment true ms h = h
cond_moment false ms h = inr (omega arith)

bus_moment : (t : TableRows) (b : ℕ) (past : List Event) (e : Event) → IsMoment (move_of t b past e)
bus_moment t b past Tick = inr (omega arith)
bus_moment t b past (Arrive w a) = cond_moment ((a == b) && is_odd w) (in_of (let_in t b past (stream_of t b w)) w) (in_moment (let_in t b past (stream_of t b w)) w)
bus_moment t b past (Route r) = cond_moment (visited t r (routes r past) == b) (Visit ∷ []) (inr (omega arith))
bus_moment t b past (Send o) = inr (omega arith)

module _ (t : TableRows) (valid : AreValid t) (b : ℕ) (there : b < length t.buses) (c : InputBound) (ok : AcceptsInput t b c) (run : List Event) (keeps : IsAdmissible t run) where
  up_at : (past rest : List Event) → run ≡ past ++ rest → KeepsUp (room t b) c.delay (moves t b past)
  up_at past rest e = input_keeps_up t valid b there c ok past rest (subst (IsAdmissible t) e keeps)

  -- what waits, in a queue that has not latched
  waits : (past rest : List Event) → run ≡ past ++ rest → backlog t b past ≡ length (ins (moves t b past)) - passed (moves t b past)
  waits past rest e =
      let up = up_at past rest e in
      omega (arith, ap length up.all_entered, taken-open (room t b) (moves t b past) up.unlatched)

  backlog_at : AtEachPlace (λ now. backlog t b now ≤ c.backlog) run
  backlog_at past rest e =
      let cut = moves-beginning t b past rest in
      let most = queue_backlog (bus_cap t b) (bus_floor t b) (BusAllows t b) (λ xs u d h. bus_allows-count t b xs u d h) c.window ok.window.some ok.window.most c.backlog (bus_floor-zero t valid b there) ok.window.closes ok.backlog.bounded
      (moves t b run) (moves-allowed t valid b there run keeps.sources) (moves-served t valid b there run keeps.budgets) (moves t b past) cut.0 (ap (moves t b) e ∙ cut.1) in
      omega (arith, most, waits past rest e)

  takes : AtEachPlace (TakesWithin t b c.delay) run
  takes past rest e n came late =
      let up = up_at past rest e in
      up.in_time n (omega (arith, came, ap length up.all_entered)) (omega (arith, late, ticks_in-moves t b past))

  clears : ClearsWithin (backlog t b) c.window run
  clears past span rest e long =
      let law : EmptiesWithin c.window (moves t b run) = queue_empties (bus_cap t b) (bus_floor t b) (BusAllows t b) (λ xs u d h. bus_allows-count t b xs u d h) c.window ok.window.some ok.window.most ok.window.closes
      (moves t b run) (moves-allowed t valid b there run keeps.sources) (moves-served t valid b there run keeps.budgets) in
      let r = run_empties ends (route_of 0) (move_of t b) (moves t b) (moves-push t b) (bus_moment t b) (ticks_in-moves t b) c.window run law past span rest e long in
      let place : run ≡ (past ++ r.0) ++ (r.1 ++ rest) = e ∙ ap (λ z. past ++ (z ++ rest)) r.2 ∙ ap (λ z. past ++ z) (append_assoc r.0 r.1 rest) ∙ sym (append_assoc past r.0 (r.1 ++ rest)) in
      (r.0, r.1, r.2, omega (arith, waits (past ++ r.0) (r.1 ++ rest) place, low-waits_for_none (moves t b (past ++ r.0)) r.3))

  pub input_keeps : InputKeeps t b c run
  input_keeps = record { backlog = backlog_at; delay = takes; window = clears }

-- ---- outputs

module _ (t : TableRows) (valid : AreValid t) (o : ℕ) (there : o < length t.outputs) (c : OutputBound) (ok : AcceptsOutput t o c) (run : List Event) (keeps : IsAdmissible t run) where
  output_moment : (past : List Event) (e : Event) → IsMoment (output_move_of t o past e)
  output_moment past e = sees-moment _ _ _ _ _ ((output_moves-are t o).sees past e)

  output_law : QueueEmpties (output_cap t o) (λ xs. IsDue (output_row t o).frame (offsets t o) xs) (output_floor t o) c.window
  unfolding output_cap
  output_law =
      queue_empties (output_cap t o) (output_floor t o) (λ xs. IsDue (output_row t o).frame (offsets t o) xs)
      (λ xs u d h. due_most (output_row t o).frame (offsets t o) (output_offsets t valid o there) (valid.frames o there) xs h u d) c.window ok.window.some ok.window.most

  output_due : IsDue (output_row t o).frame (offsets t o) (entries (output_moves t o run))
  output_due k l =
      let due_now = moves-due ends (send_of o) (dues t o) (output_move_of t o) (output_moves t o) (output_moves-are t o) (due_tick t o) (due_by t o) (due_by-counts t valid o there) (counts_dues t valid o there) run in
      due_now.1 k (omega (arith, due_now.0)) ∙ due_tick-offsets t o k

  owes_none : (now : List Event) → IsLow (output_moves t o now) → owed t o now ≡ 0
  unfolding sent
  owes_none now low =
      omega (
        arith,
        low-waits_for_none (output_moves t o now) low,
        moves-came ends (send_of o) (dues t o) (output_move_of t o) (output_moves t o) (output_moves-are t o) (due_tick t o) (due_by t o) (due_by-counts t valid o there) (counts_dues t valid o there) now,
        moves-passed ends (send_of o) (dues t o) (output_move_of t o) (output_moves t o) (output_moves-are t o) (due_tick t o) (due_by t o) (due_by-counts t valid o there) (counts_dues t valid o there) now,
      )

  owes_within : ClearsWithin (owed t o) c.window run
  owes_within past span rest e long =
      let served = moves-serve ends (send_of o) (dues t o) (output_move_of t o) (output_moves t o) (output_moves-are t o) (output_row t o).steps (output_row t o).within run (keeps.budgets.outputs_work o there) in
      let law : EmptiesWithin c.window (output_moves t o run) = output_law ok.window.closes (output_moves t o run) output_due served in
      let r = run_empties ends (send_of o) (output_move_of t o) (output_moves t o) (output_moves-are t o).next output_moment
      (moves-ticks ends (send_of o) (dues t o) (output_move_of t o) (output_moves t o) (output_moves-are t o)) c.window run law past span rest e long in
      (r.0, r.1, r.2, owes_none (past ++ r.0) r.3)

  pub output_keeps : OutputKeeps t o c run
  output_keeps = record {
    delay = λ past rest e n late. (output_timely t valid o there c ok run (keeps.budgets.outputs_work o there)).in_time past rest e n late;
    window = owes_within;
  }

pub certificate_numbers : (t : TableRows) → AreValid t → AcceptedKeepTheirNumbers t
certificate_numbers t valid claims ok run keeps = record {
  inputs = λ b there. input_keeps t valid b there (input_bound (numbers_of claims) b) (ok.numbers.inputs b there) run keeps;
  outputs = λ o there. output_keeps t valid o there (output_bound (numbers_of claims) o) (ok.numbers.outputs o there) run keeps;
}
