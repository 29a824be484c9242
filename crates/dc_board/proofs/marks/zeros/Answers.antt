use Rattle.std.proofs.lemmas.List.{take-replicate}
use Rattle.dc_board.proofs.marks.zeros.Goals as goal

pub returns : goal.returns
returns c = rw c.requires.all (take-replicate _ _ _ c.requires.count)
