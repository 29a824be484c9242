use Rattle.std.proofs.Common.{codes, refl}
use Rattle.clap.specs.Words.{found_of}
use Rattle.dc_command.proofs.Reading.{text_given}
use Rattle.dc_command.proofs.asked.layout_in.Goals as goal

pub returns : goal.returns
returns c = let found = found_of c.args.matches.now in (refl, text_given found (codes "TABLES") _ c.in_ok-tables.ensures)
