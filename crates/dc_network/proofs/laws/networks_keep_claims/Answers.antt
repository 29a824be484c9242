use Rattle.dc_network.specs.lemmas.Tracing.{networks-keep_claims}
use Rattle.dc_network.proofs.laws.networks_keep_claims.Goals as goal

pub returns : goal.returns
returns c = networks-keep_claims
