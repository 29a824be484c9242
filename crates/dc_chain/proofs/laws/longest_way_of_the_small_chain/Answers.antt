use Rattle.std.proofs.Common.{refl}
use Rattle.dc_chain.proofs.SmallChains.{small_certified, small_comes, small_leaves, small_way}
use Rattle.dc_chain.proofs.laws.longest_way_of_the_small_chain.Goals as goal

pub returns : goal.returns
returns c = record { certified = small_certified; comes = small_comes; leaves = small_leaves; value = small_way; number = refl }
