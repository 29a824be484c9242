use Rattle.dc_check.specs.lemmas.Exact.{verdict-accepts}
use Rattle.dc_check.proofs.laws.no_fault_is_acceptance.Goals as goal

pub returns : goal.returns
returns c = λ claims. verdict-accepts c.args.tables.now claims
