-- A backlog that is reported is within the greatest capacity of a queue.
use Rattle.std.proofs.Common.{ℕ, ◌≤◌, Bool, true, false, if◌then◌else◌, not, nat_lt, is_some, IfOk, Ok, Err, List, [], ◌∷◌, ◌++◌, subst, sym, arith, le_trans}
use Rattle.std.specs.declared.result.Result.{Result}
use Rattle.dc_core.specs.Standing.{MayFollow}
use Rattle.dc_core.specs.Steps.{StepsTo}
use Rattle.dc_core.specs.declared.fault.StepFault.{StepFault}
use Rattle.dc_core.specs.declared.machine.State.{State}
use Rattle.dc_event.specs.Laws.{BacklogFits}
use Rattle.dc_event.specs.Choice.{chosen}
use Rattle.dc_event.specs.Offers.{refuses_early}
use Rattle.dc_event.specs.Outputs.{entry_label, sent}
use Rattle.dc_event.specs.Replies.{reply}
use Rattle.dc_event.specs.declared.event.Event.{Event}
use Rattle.dc_event.specs.declared.event.Event.TheVariants.{Tick, Arrive, Route, Send}
use Rattle.dc_event.specs.declared.event.Reply.{Reply}
use Rattle.dc_event.specs.declared.event.Reply.TheVariants.{Queued, BadParity, Undeclared, TooEarly, Overrun, Latched, Took, Empty, Sent, Idle}
use Rattle.dc_event.specs.Buses.{backlog, is_latched, visited_bus, bus_taken, bus_item}
use Rattle.dc_hub.specs.Entries.{backlog_of}
use Rattle.dc_tables.specs.Declares.{stream_of}
use Rattle.dc_tables.specs.TableRows.{TableRows, AreValid, label_row}
use Rattle.dc_word.specs.Word.{is_odd}

either_small : (c : Bool) (x y : Reply) (n : ℕ) → backlog_of x ≤ n → backlog_of y ≤ n → backlog_of (if c then x else y) ≤ n
either_small true x y n a b = a
either_small false x y n a b = b

nothing : 0 ≤ 4096
nothing = omega arith

-- the reply to an event of the tables tells no more than its queue holds
backlog_small : (t : TableRows) (run : List Event) (e : Event) → AreValid t → BacklogFits t → MayFollow t run e → backlog_of (reply t run e) ≤ 4096
unfolding reply
backlog_small t run Tick valid fits may = nothing
backlog_small t run (Arrive w b) valid fits may =
    let now : List Event = run ++ Arrive w b ∷ [] in
    let queued : Reply = Queued (backlog t b now) in
    let full : Reply = if is_latched t b now then Overrun else queued in
    let shut : Reply = if is_latched t b run then Latched else full in
    let early : Reply = if refuses_early t b run (stream_of t b w) then TooEarly else shut in
    let unknown : Reply = if not (is_some (stream_of t b w)) then Undeclared else early in
    either_small (not (is_odd w)) BadParity unknown 4096 nothing
    (either_small (not (is_some (stream_of t b w))) Undeclared early 4096 nothing
    (either_small (refuses_early t b run (stream_of t b w)) TooEarly shut 4096 nothing
    (either_small (is_latched t b run) Latched full 4096 nothing
    (either_small (is_latched t b now) Overrun queued 4096 nothing (le_trans (fits b now) (valid.queues_small b may.numbered))))))
backlog_small t run (Route r) valid fits may =
    let b : ℕ = visited_bus t r run in
    either_small (nat_lt (bus_taken t b run) (bus_taken t b (run ++ Route r ∷ []))) (Took (bus_item t b run (bus_taken t b run)).1 b) (Empty b) 4096 nothing nothing
backlog_small t run (Send o) valid fits may =
    let x : ℕ = entry_label t o (sent t o run) in
    either_small (nat_lt (sent t o run) (sent t o (run ++ Send o ∷ []))) (Sent (label_row t x).label (chosen t x (run ++ Send o ∷ []))) Idle 4096 nothing nothing

pub backlog_reported : (t : TableRows) (new : State) (run : List Event) (e : Event) (r : Result Reply StepFault) → AreValid t → BacklogFits t → StepsTo t new run e r → IfOk r (λ x. backlog_of x ≤ 4096)
backlog_reported t new run e (Ok x) valid fits s = subst (λ y. backlog_of y ≤ 4096) (sym s.2) (backlog_small t run e valid fits s.0)
backlog_reported t new run e (Err f) valid fits s = tt
