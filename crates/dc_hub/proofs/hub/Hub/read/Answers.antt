use Rattle.dc_hub.proofs.Marks.{at_most_cap}
use Rattle.dc_hub.proofs.hub.Hub.read.Goals as goal

pub returns-clause-most : goal.returns-clause-most
returns-clause-most g c = at_most_cap c.self.inside.board.1 c.args.bus c.read.result c.self.invariant c.requires.bus c.read.ensures.cap
