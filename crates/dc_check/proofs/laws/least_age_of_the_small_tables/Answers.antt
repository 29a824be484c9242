use Rattle.std.proofs.Common.{refl}
use Rattle.dc_check.proofs.Smallest.{small_valid, small_accepted, small_least, small_admissible, small_copies}
use Rattle.dc_check.proofs.laws.least_age_of_the_small_tables.Goals as goal

pub returns : goal.returns
returns c = record { valid = small_valid; accepted = small_accepted; least = small_least; value = refl; admissible = small_admissible; copies = small_copies }
