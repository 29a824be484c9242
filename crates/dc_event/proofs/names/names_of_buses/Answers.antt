use Rattle.dc_event.proofs.names.names_of_buses.Goals as goal

pub loop-bus-init : goal.loop-bus-init
loop-bus-init c = c.new-names.ensures c.args.tables.now.names.buses
