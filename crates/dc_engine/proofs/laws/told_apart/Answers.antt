use Rattle.dc_engine.proofs.Told.{told_back}
use Rattle.dc_engine.proofs.laws.told_apart.Goals as goal

pub returns : goal.returns
returns c = told_back
