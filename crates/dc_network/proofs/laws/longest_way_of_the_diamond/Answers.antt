use Rattle.std.proofs.Common.{refl}
use Rattle.dc_network.proofs.Diamonds.{diamond_sound, diamond_are_ways, diamond_clocks, diamond_joint, diamond_enters, diamond_leaves}
use Rattle.dc_network.proofs.laws.longest_way_of_the_diamond.Goals as goal

pub returns : goal.returns
returns c = record { sound = diamond_sound; ways = diamond_are_ways; clocks = diamond_clocks; joint = diamond_joint; enters = diamond_enters; leaves = diamond_leaves; value = refl; number = refl }
