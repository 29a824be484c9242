use Rattle.dc_device.specs.lemmas.LineLemmas.{held_passed}
use Rattle.dc_device.proofs.reader.LineReader.pass.Goals as goal

pub returns-clause-bytes : goal.returns-clause-bytes
returns-clause-bytes c =
    held_passed c.args.self.now c.self.inside.block c.self.inside.at c.self.inside.end c.self.inside.room c.args.count c.self.view_is c.requires.held
