use Rattle.dc_chain.specs.lemmas.Tracing.{two-in_a_row}
use Rattle.dc_chain.proofs.laws.two_in_a_row.Goals as goal

pub returns : goal.returns
returns c = two-in_a_row
