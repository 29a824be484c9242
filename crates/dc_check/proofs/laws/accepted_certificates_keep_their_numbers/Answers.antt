use Rattle.dc_check.proofs.Numbers.{certificate_numbers}
use Rattle.dc_check.proofs.laws.accepted_certificates_keep_their_numbers.Goals as goal

pub returns : goal.returns
returns c = certificate_numbers c.args.tables.now c.valid.ensures
