use Rattle.dc_chain.specs.lemmas.Lasting.{usable-through}
use Rattle.dc_chain.proofs.laws.usable_through.Goals as goal

pub returns : goal.returns
returns c = usable-through
