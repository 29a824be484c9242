use Rattle.std.proofs.Common.{ℕ, Option, ◌≡◌, ◌<◌, ◌-◌, ◌%◌, ◌∙◌, max, [], ◌∷◌, ◌++◌, length, get_or, set, sym, ap, subst, arith}
use Rattle.std.proofs.lemmas.List.{get_or_read}
use Rattle.std.specs.Vec.{with_item}
use Rattle.dc_tables.specs.TableRows.{router_row}
use Rattle.dc_event.specs.Time.{routes, tick_after}
use Rattle.dc_event.specs.Buses.{moves, room}
use Rattle.dc_event.specs.declared.event.Event.TheVariants.{Route}
use Rattle.dc_oracle.specs.BusData.{BusData}
use Rattle.dc_oracle.specs.BusLog.{IsLog}
use Rattle.dc_oracle.proofs.Arriving.{TakesAs, TookFrom, takes-as}
use Rattle.dc_observe.proofs.Visiting.{waits-nothing, took-some, waits-took}
use Rattle.dc_observe.proofs.waits.WaitGauge.visit.Goals as goal

pub returns-in_default-clause-waits : goal.returns-in_default-clause-waits
returns-in_default-clause-waits c = λ run h clock holds l is.
    let P : Option ℕ → Type 0 = λ o. TakesAs c.args.tables.now run c.args.router o in
    waits-nothing c.args.tables.now run c.args.router c.args.self.now c.queues_grow.ensures (subst P (sym c.taken_bus.ensures ∙ c.in_default.is) (takes-as c.args.tables.now run c.args.router c.args.reply.now is)) h

pub returns-then-bus-len-clause-waits : goal.returns-then-bus-len-clause-waits
returns-then-bus-len-clause-waits c = λ run h clock holds l is.
    let P : Option ℕ → Type 0 = λ o. TakesAs c.args.tables.now run c.args.router o in
    let took : TookFrom c.args.tables.now run c.args.router c.in-Some.bus = subst P (sym c.taken_bus.ensures ∙ c.in-Some.is) (takes-as c.args.tables.now run c.args.router c.args.reply.now is) in
    absurd (omega (arith, c.if-bus-len.true, c.len.ensures, c.requires.sized, took.bus, c.valid.ensures.visits_on_buses c.args.router (routes c.args.router run % length (router_row c.args.tables.now c.args.router).visits) l))

pub returns-in_default-last_taken-clause-waits : goal.returns-in_default-last_taken-clause-waits
returns-in_default-last_taken-clause-waits c = λ run h clock holds l is.
    let P : Option ℕ → Type 0 = λ o. TakesAs c.args.tables.now run c.args.router o in
    let took : TookFrom c.args.tables.now run c.args.router c.in-Some.bus = subst P (sym c.taken_bus.ensures ∙ c.in-Some.is) (takes-as c.args.tables.now run c.args.router c.args.reply.now is) in
    let bus_there : c.in-Some.bus < length c.args.tables.now.buses = omega (arith, c.if-bus-len.false, c.len.ensures, c.requires.sized) in
    let Q : BusData → Type 0 = λ d. IsLog (room c.args.tables.now c.in-Some.bus) d (moves c.args.tables.now c.in-Some.bus (run ++ Route c.args.router ∷ [])) in
    let log : IsLog (room c.args.tables.now c.in-Some.bus) c.log.result.now (moves c.args.tables.now c.in-Some.bus (run ++ Route c.args.router ∷ [])) = subst Q (sym c.log.ensures) (holds.logs c.in-Some.bus bus_there) in
    absurd (took-some c.args.tables.now run c.args.router c.in-Some.bus took c.log.result.now.last log.last (sym c.last_taken.ensures ∙ c.in_default-last_taken.is))

pub returns-clause-waits : goal.returns-clause-waits
returns-clause-waits c = λ run h clock holds l is.
    let P : Option ℕ → Type 0 = λ o. TakesAs c.args.tables.now run c.args.router o in
    let took : TookFrom c.args.tables.now run c.args.router c.in-Some.bus = subst P (sym c.taken_bus.ensures ∙ c.in-Some.is) (takes-as c.args.tables.now run c.args.router c.args.reply.now is) in
    let there : c.in-Some.bus < length c.args.self.now.longest.items = omega (arith, c.if-bus-len.false, c.len.ensures) in
    let bus_there : c.in-Some.bus < length c.args.tables.now.buses = omega (arith, there, c.requires.sized) in
    let Q : BusData → Type 0 = λ d. IsLog (room c.args.tables.now c.in-Some.bus) d (moves c.args.tables.now c.in-Some.bus (run ++ Route c.args.router ∷ [])) in
    let log : IsLog (room c.args.tables.now c.in-Some.bus) c.log.result.now (moves c.args.tables.now c.in-Some.bus (run ++ Route c.args.router ∷ [])) = subst Q (sym c.log.ensures) (holds.logs c.in-Some.bus bus_there) in
    let read = get_or_read c.args.self.now.longest.items c.in-Some.bus c.index.result.now there c.index.ensures 0 in
    let value : c.max.result ≡ max (get_or c.args.self.now.longest.items c.in-Some.bus 0) (tick_after run - c.in-Some-last_taken.came) =
    c.max.ensures ∙ ap (λ k. max k c.saturating_sub-wait.result) read ∙ ap (max (get_or c.args.self.now.longest.items c.in-Some.bus 0)) (c.saturating_sub-wait.ensures ∙ ap (λ k. k - c.in-Some-last_taken.came) clock) in
    waits-took c.args.tables.now run c.args.router c.in-Some.bus took c.args.self.now (record { longest = with_item c.args.self.now.longest c.in-Some.bus c.max.result }) c.log.result.now.last
    c.in-Some-last_taken.came _ log.last (sym c.last_taken.ensures ∙ c.in-Some-last_taken.is) there bus_there (ap (set c.args.self.now.longest.items c.in-Some.bus) value) h
