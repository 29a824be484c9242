use Rattle.dc_device.specs.lemmas.LineLemmas.{held_line_is, held_no_feed, held_no_room}
use Rattle.dc_device.proofs.reader.LineReader.held_line.Goals as goal

pub returns-in_default : goal.returns-in_default
returns-in_default c =
    held_no_feed c.args.self.now c.self.inside.block c.self.inside.at c.self.inside.end c.self.inside.room c.self.view_is c.in_default.ensures

pub returns-then-length-self : goal.returns-then-length-self
returns-then-length-self c =
    held_no_room c.args.self.now c.self.inside.block c.self.inside.at c.self.inside.end c.self.inside.room c.in-Some.length c.self.view_is c.in-Some.ensures c.if-length-self.true

pub returns : goal.returns
returns c =
    held_line_is c.args.self.now c.self.inside.block c.self.inside.at c.self.inside.end c.self.inside.room c.in-Some.length c.self.view_is c.in-Some.ensures c.if-length-self.false
