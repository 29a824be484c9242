use Rattle.std.proofs.Common.{refl}
use Rattle.dc_in_time.proofs.Oldest.{old_paced, old_fits, old_admissible, old_word}
use Rattle.dc_in_time.proofs.laws.oldest_word_of_the_small_tables.Goals as goal

pub returns : goal.returns
returns c = record { paced = old_paced; fits = old_fits; admissible = old_admissible; old = old_word; value = refl }
