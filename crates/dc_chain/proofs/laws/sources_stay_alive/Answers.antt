use Rattle.dc_chain.specs.lemmas.Living.{sources-stay_alive}
use Rattle.dc_chain.proofs.laws.sources_stay_alive.Goals as goal

pub returns : goal.returns
returns c = sources-stay_alive
