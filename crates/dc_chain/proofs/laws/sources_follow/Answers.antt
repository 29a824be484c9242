use Rattle.dc_chain.specs.lemmas.Feeding.{sources-follow}
use Rattle.dc_chain.proofs.laws.sources_follow.Goals as goal

pub returns : goal.returns
returns c = sources-follow
