use Rattle.std.proofs.Common.{◌+◌, ◌≡◌, take, ◌++◌, arith, subst}
use Rattle.dc_device.proofs.Pieces.{room_copied}
use Rattle.dc_device.proofs.pen.Pen.copy_to.Goals as goal

pub returns-clause-front : goal.returns-clause-front
returns-clause-front g c =
    let front = subst (λ n. take (c.args.at + n) c.copy_over.new.block ≡ take c.args.at c.args.block.now ++ c.self.inside.bytes) c.self.told c.copy_over.ensures.front in
    room_copied c.args.block.now c.copy_over.new.block c.self.inside.bytes c.args.self.now c.args.at g.row.CAP c.self.inside.len c.self.told (omega (arith, c.requires)) (omega arith) front c.self.view_is
