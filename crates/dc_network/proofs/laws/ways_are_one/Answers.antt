use Rattle.dc_network.specs.lemmas.Ways.{ways-one, ways-there}
use Rattle.dc_network.proofs.laws.ways_are_one.Goals as goal

pub returns : goal.returns
returns c = λ n sound. (ways-there n sound.place sound.order, ways-one n sound.place sound.order (λ k there. (sound.ends k there).0))
