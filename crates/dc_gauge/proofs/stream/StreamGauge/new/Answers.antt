use Rattle.dc_gauge.specs.lemmas.StreamSteps.{stream-new}
use Rattle.dc_gauge.proofs.stream.StreamGauge.new.Goals as goal

pub returns-clause-gauge : goal.returns-clause-gauge
returns-clause-gauge c = stream-new
