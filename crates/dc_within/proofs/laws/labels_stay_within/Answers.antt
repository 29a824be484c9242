use Rattle.dc_within.proofs.Within.{labels-within}
use Rattle.dc_within.proofs.laws.labels_stay_within.Goals as goal

pub returns : goal.returns
returns c = labels-within c.args.tables.now c.valid.ensures c.accepted_certificates_keep_their_claims.ensures c.accepted_certificates_keep_their_numbers.ensures
