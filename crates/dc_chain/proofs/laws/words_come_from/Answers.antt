use Rattle.dc_chain.specs.lemmas.Tracing.{words-come_from}
use Rattle.dc_chain.proofs.laws.words_come_from.Goals as goal

pub returns : goal.returns
returns c = words-come_from
