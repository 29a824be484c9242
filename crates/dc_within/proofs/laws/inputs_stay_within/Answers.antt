use Rattle.dc_within.proofs.Within.{inputs-within}
use Rattle.dc_within.proofs.laws.inputs_stay_within.Goals as goal

pub returns : goal.returns
returns c = inputs-within c.args.tables.now c.accepted_certificates_keep_their_numbers.ensures
