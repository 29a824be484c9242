use Rattle.std.proofs.Common.{◌-◌, ◌≤◌, arith}
use Rattle.dc_find.proofs.Few.{bus-few}
use Rattle.dc_find.proofs.Numbers.{times-there, most-there, waiting-few}
use Rattle.dc_tables.specs.TableRows.{bus_cap, bus_floor}
use Rattle.dc_find.proofs.queues.least_input.Goals as goal

pub overflow_cast-backlog : goal.overflow_cast-backlog
overflow_cast-backlog g c =
    let window = c.in-Some.least.window in
    let taken : g.S.ServiceBound.floor c.args.service.now (c.in-Some.least.window - 1) ≤ 100000000 =
    omega (arith, c.requires.service (window - 1), bus-few c.args.tables.now c.valid.ensures c.args.bus c.requires.there (window - 1) (omega (arith, c.in-Some.ensures.times.closes.most))) in
    let few = waiting-few (g.A.ArrivalBound.cap c.args.arrivals.now) (g.S.ServiceBound.floor c.args.service.now) window c.in-Some.least.backlog 100000000
    (g.met.A.ArrivalBound.cap_monotone c.args.arrivals.now) c.in-Some.ensures.times.closes c.in-Some.ensures.backlog taken in
    omega (arith, few)

pub returns : goal.returns
returns g c = record {
  times = times-there (g.A.ArrivalBound.cap c.args.arrivals.now) (g.S.ServiceBound.floor c.args.service.now) (bus_cap c.args.tables.now c.args.bus) (bus_floor c.args.tables.now c.args.bus)
      c.requires.arrivals c.requires.service c.in-Some.least.window c.in-Some.least.delay c.in-Some.ensures.times;
  backlog = most-there (g.A.ArrivalBound.cap c.args.arrivals.now) (g.S.ServiceBound.floor c.args.service.now) (bus_cap c.args.tables.now c.args.bus) (bus_floor c.args.tables.now c.args.bus)
      c.requires.arrivals c.requires.service c.in-Some.least.window c.in-Some.least.backlog c.in-Some.ensures.backlog;
}
