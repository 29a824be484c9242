use Rattle.dc_event.proofs.names.names_of_outputs.Goals as goal

pub loop-output-init : goal.loop-output-init
loop-output-init c = c.new-names.ensures c.args.tables.now.names.outputs
