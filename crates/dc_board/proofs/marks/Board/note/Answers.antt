use Rattle.std.proofs.Common.{◌≡◌, rules, ap}
use Rattle.dc_board.proofs.Moves.{notes}
use Rattle.dc_board.proofs.marks.Board.note.Goals as goal

pub fetch_max-requires : goal.fetch_max-requires
fetch_max-requires c =
    let is : c.self.inside.caps.items ≡ c.args.self.now.1 = ap (λ b. b.1) c.self.view_is in
    (search rules, search rules, rw c.self.invariant.0 (notes c.self.inside.caps.items _ _ _ c.args.i c.args.mark (rw is c.requires.index) (rw is c.requires.mark)))
