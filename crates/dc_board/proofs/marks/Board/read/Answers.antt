use Rattle.std.proofs.Common.{◌≡◌, rules, ap}
use Rattle.dc_board.proofs.Moves.{reads}
use Rattle.dc_board.proofs.marks.Board.read.Goals as goal

pub load-requires : goal.load-requires
load-requires c =
    let is : c.self.inside.caps.items ≡ c.args.self.now.1 = ap (λ b. b.1) c.self.view_is in
    (search rules, search rules, rw c.self.invariant.0 (reads c.self.inside.caps.items _ _ _ c.args.i (rw is c.requires.index) (rw (is, ap (λ s. s.1.caps) c.seat.view_is) c.requires.seat.1)))
