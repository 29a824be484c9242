use Rattle.dc_gauge.proofs.Spacings.{spacings}
use Rattle.dc_gauge.proofs.laws.spacings_are_intervals.Goals as goal

pub returns : goal.returns
returns c = spacings
