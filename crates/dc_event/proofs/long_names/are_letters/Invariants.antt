use Rattle.std.proofs.Common.{take}
use Rattle.dc_event.specs.Names.{AreLetters}
use Rattle.dc_event.proofs.long_names.are_letters.Given as goal

abbrev pub invariant-loop-letter : goal.invariant-loop-letter
invariant-loop-letter l = AreLetters (take l.letter-index l.name)
