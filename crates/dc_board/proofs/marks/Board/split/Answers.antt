use Rattle.std.proofs.Common.{◌≡◌, rules, ap}
use Rattle.dc_board.proofs.Moves.{parts}
use Rattle.dc_board.proofs.marks.Board.split.Goals as goal

pub split_seat-requires : goal.split_seat-requires
split_seat-requires c =
    let is : c.self.inside.caps.items ≡ c.args.self.now.1 = ap (λ b. b.1) c.self.view_is in
    (search rules, search rules, rw c.self.invariant.0 (parts c.self.inside.caps.items _ _ (rw (is, ap (λ s. s.1.caps) c.seat.view_is) c.requires.1)))
