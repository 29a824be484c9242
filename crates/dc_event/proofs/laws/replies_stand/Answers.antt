use Rattle.dc_event.specs.lemmas.Beginnings.{outputs_of-beginning}
use Rattle.dc_event.proofs.laws.replies_stand.Goals as goal

pub returns : goal.returns
returns c = outputs_of-beginning c.args.tables.now
