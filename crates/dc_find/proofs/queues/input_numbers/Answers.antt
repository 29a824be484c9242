use Rattle.std.proofs.Common.{refl, arith}
use Rattle.dc_find.proofs.Numbers.{input-least, input-first_fault}
use Rattle.dc_tables.specs.TableRows.{bus_cap, bus_floor}
use Rattle.dc_find.proofs.queues.input_numbers.Goals as goal

pub returns-then-numbers-queue-clause-fault : goal.returns-then-numbers-queue-clause-fault
returns-then-numbers-queue-clause-fault g c =
    input-first_fault c.args.tables.now c.args.bus c.requires.there (bus_cap c.args.tables.now c.args.bus) (bus_floor c.args.tables.now c.args.bus) (λ d. refl) (λ d. refl)
    c.in-Some.numbers.times.window c.in-Some.numbers.backlog c.in-Some.numbers.times.delay c.in-Some.ensures.times c.in-Some.ensures.backlog
    (omega (arith, c.if-numbers-queue.true, c.queue.ensures))

pub returns-clause-least : goal.returns-clause-least
returns-clause-least g c =
    input-least c.args.tables.now c.args.bus (bus_cap c.args.tables.now c.args.bus) (bus_floor c.args.tables.now c.args.bus) (λ d. refl) (λ d. refl)
    c.in-Some.numbers.times.window c.in-Some.numbers.backlog c.in-Some.numbers.times.delay c.in-Some.ensures.times c.in-Some.ensures.backlog
    (omega (arith, c.if-numbers-queue.false, c.queue.ensures))
