use Rattle.dc_check.proofs.Whole.{claims_hold}
use Rattle.dc_check.proofs.laws.accepted_certificates_keep_their_claims.Goals as goal

pub returns : goal.returns
returns c = claims_hold c.args.tables.now c.valid.ensures
