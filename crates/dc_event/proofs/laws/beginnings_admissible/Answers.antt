use Rattle.dc_event.specs.lemmas.Beginnings.{IsAdmissible-beginning}
use Rattle.dc_event.proofs.laws.beginnings_admissible.Goals as goal

pub returns : goal.returns
returns c = IsAdmissible-beginning c.args.tables.now
