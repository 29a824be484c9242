use Rattle.dc_gauge.specs.lemmas.WireSteps.{wire-new}
use Rattle.dc_gauge.proofs.wire.WireGauge.new.Goals as goal

pub returns-clause-gauge : goal.returns-clause-gauge
returns-clause-gauge c = wire-new
