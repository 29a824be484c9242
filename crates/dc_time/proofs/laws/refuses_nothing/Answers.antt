use Rattle.dc_time.specs.lemmas.Refusing.{refuses-nothing}
use Rattle.dc_time.proofs.laws.refuses_nothing.Goals as goal

pub returns : goal.returns
returns c = refuses-nothing c.args.tables.now c.valid.ensures
