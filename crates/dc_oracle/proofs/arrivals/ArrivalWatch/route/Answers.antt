use Rattle.std.proofs.Common.{ℕ, Option, Some, None, ◌≡◌, ◌<◌, ◌%◌, ◌∙◌, [], ◌∷◌, ◌++◌, length, get_or, set, sym, ap, refl, subst, arith}
use Rattle.std.proofs.lemmas.List.{get_or_read}
use Rattle.dc_tables.specs.TableRows.{router_row}
use Rattle.dc_event.specs.Time.{routes}
use Rattle.dc_event.specs.Buses.{moves, room}
use Rattle.dc_event.specs.declared.event.Event.TheVariants.{Route}
use Rattle.dc_oracle.specs.BusData.{BusData}
use Rattle.dc_oracle.specs.BusLog.{IsLog, no_log}
use Rattle.dc_oracle.proofs.Arriving.{TakesAs, TookFrom, takes-as, follows-nothing, some_taken, follows-took}
use Rattle.dc_oracle.proofs.arrivals.ArrivalWatch.route.Goals as goal

pub returns-in_default-clause-follows : goal.returns-in_default-clause-follows
returns-in_default-clause-follows c = λ run h holds l is.
    let P : Option ℕ → Type 0 = λ o. TakesAs c.args.tables.now run c.args.router o in
    follows-nothing c.args.tables.now c.queues_grow.ensures c.args.self.now run c.args.router (subst P (sym c.taken_bus.ensures ∙ c.in_default.is) (takes-as c.args.tables.now run c.args.router c.args.reply.now is)) h

pub returns-then-bus-bus_count-clause-follows : goal.returns-then-bus-bus_count-clause-follows
returns-then-bus-bus_count-clause-follows c = λ run h holds l is.
    let P : Option ℕ → Type 0 = λ o. TakesAs c.args.tables.now run c.args.router o in
    let took : TookFrom c.args.tables.now run c.args.router c.in-Some.bus = subst P (sym c.taken_bus.ensures ∙ c.in-Some.is) (takes-as c.args.tables.now run c.args.router c.args.reply.now is) in
    absurd (omega (arith, c.if-bus-bus_count.true, c.bus_count.ensures, took.bus, c.valid.ensures.visits_on_buses c.args.router (routes c.args.router run % length (router_row c.args.tables.now c.args.router).visits) l))

pub returns-in_default-last_taken-clause-follows : goal.returns-in_default-last_taken-clause-follows
returns-in_default-last_taken-clause-follows c = λ run h holds l is.
    let P : Option ℕ → Type 0 = λ o. TakesAs c.args.tables.now run c.args.router o in
    let took : TookFrom c.args.tables.now run c.args.router c.in-Some.bus = subst P (sym c.taken_bus.ensures ∙ c.in-Some.is) (takes-as c.args.tables.now run c.args.router c.args.reply.now is) in
    let bus_there : c.in-Some.bus < length c.args.tables.now.buses = omega (arith, c.if-bus-bus_count.false, c.bus_count.ensures) in
    let Q : BusData → Type 0 = λ d. IsLog (room c.args.tables.now c.in-Some.bus) d (moves c.args.tables.now c.in-Some.bus (run ++ Route c.args.router ∷ [])) in
    let log : IsLog (room c.args.tables.now c.in-Some.bus) c.log.result.now (moves c.args.tables.now c.in-Some.bus (run ++ Route c.args.router ∷ [])) = subst Q (sym c.log.ensures) (holds.logs c.in-Some.bus bus_there) in
    absurd (some_taken c.args.tables.now c.queues_grow.ensures c.args.self.now c.args.self.now run c.args.router c.in-Some.bus took c.log.result.now.last log.last (sym c.last_taken.ensures ∙ c.in_default-last_taken.is))

pub returns-clause-follows : goal.returns-clause-follows
returns-clause-follows c = λ run h holds l is.
    let P : Option ℕ → Type 0 = λ o. TakesAs c.args.tables.now run c.args.router o in
    let took : TookFrom c.args.tables.now run c.args.router c.in-Some.bus = subst P (sym c.taken_bus.ensures ∙ c.in-Some.is) (takes-as c.args.tables.now run c.args.router c.args.reply.now is) in
    let bus_there : c.in-Some.bus < length c.args.tables.now.buses = omega (arith, c.if-bus-bus_count.false, c.bus_count.ensures) in
    let Q : BusData → Type 0 = λ d. IsLog (room c.args.tables.now c.in-Some.bus) d (moves c.args.tables.now c.in-Some.bus (run ++ Route c.args.router ∷ [])) in
    let log : IsLog (room c.args.tables.now c.in-Some.bus) c.log.result.now (moves c.args.tables.now c.in-Some.bus (run ++ Route c.args.router ∷ [])) = subst Q (sym c.log.ensures) (holds.logs c.in-Some.bus bus_there) in
    follows-took c.args.tables.now c.queues_grow.ensures c.args.self.now _ run c.args.router c.in-Some.bus took c.log.result.now.last log.last
    c.in-Some-last_taken.came c.in-Some-last_taken.stream (sym c.last_taken.ensures ∙ c.in-Some-last_taken.is) c.requires.sized.latest bus_there refl c.note.ensures h
