use Rattle.dc_drift.proofs.Best.{ages_are}
use Rattle.dc_drift.proofs.laws.ages_are_covered.Goals as goal

pub returns : goal.returns
returns c = ages_are
