use Rattle.std.proofs.Common.{rules}
use Rattle.dc_board.proofs.Moves.{begins_with}
use Rattle.dc_board.proofs.marks.Board.new.Goals as goal

pub of_words-requires : goal.of_words-requires
of_words-requires c = rw c.zeros.ensures (begins_with c.args.caps.items _ (search rules))
