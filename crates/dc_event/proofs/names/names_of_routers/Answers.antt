use Rattle.dc_event.proofs.names.names_of_routers.Goals as goal

pub loop-router-init : goal.loop-router-init
loop-router-init c = c.new-names.ensures c.args.tables.now.names.routers
