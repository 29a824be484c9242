use Rattle.dc_within.proofs.Within.{outputs-within}
use Rattle.dc_within.proofs.laws.outputs_stay_within.Goals as goal

pub returns : goal.returns
returns c = outputs-within c.args.tables.now c.accepted_certificates_keep_their_numbers.ensures
