use Rattle.dc_engine.proofs.Runs.{are_outputs}
use Rattle.dc_engine.proofs.laws.answers_are_outputs.Goals as goal

pub returns : goal.returns
returns c = are_outputs
