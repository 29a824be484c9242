use Rattle.dc_event.specs.lemmas.Beginnings.{length-outputs_of}
use Rattle.dc_event.proofs.laws.each_replied.Goals as goal

pub returns : goal.returns
returns c = length-outputs_of c.args.tables.now
