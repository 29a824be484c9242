use Rattle.dc_time.specs.lemmas.Placing.{runs-have_times}
use Rattle.dc_time.proofs.laws.runs_have_times.Goals as goal

pub returns : goal.returns
returns c = runs-have_times
