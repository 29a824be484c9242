use Rattle.dc_engine.proofs.Runs.{claims_hold}
use Rattle.dc_engine.proofs.laws.claims_hold_for_the_calls.Goals as goal

pub returns : goal.returns
returns c = claims_hold
