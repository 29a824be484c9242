use Rattle.dc_capture.proofs.buses.guesses_of.Goals as goal

pub loop-bus-preserved : goal.loop-bus-preserved
loop-bus-preserved c = c.put.ensures c.args.tables.now.names.buses c.loop-bus.invariant c.bus_named.ensures
