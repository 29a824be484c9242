use Rattle.std.proofs.Common.{arith}
use Rattle.dc_device.proofs.Pieces.{part_put}
use Rattle.dc_device.proofs.pen.Pen.put_part.Goals as goal

pub returns-clause-items : goal.returns-clause-items
returns-clause-items g c =
    part_put c.self.inside.bytes c.copy_part.new.bytes _ c.args.self.now c.self.inside.len _ c.args.count (omega arith) c.requires.count c.copy_part.ensures.front c.self.view_is
