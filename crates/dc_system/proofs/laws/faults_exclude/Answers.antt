use Rattle.dc_system.specs.lemmas.Excluding.{faults-exclude}
use Rattle.dc_system.proofs.laws.faults_exclude.Goals as goal

pub returns : goal.returns
returns c = faults-exclude
