use Rattle.std.proofs.Common.{codes, refl}
use Rattle.clap.specs.Words.{found_of}
use Rattle.dc_command.proofs.Reading.{text_given}
use Rattle.dc_command.proofs.asked.report_in.Goals as goal

pub returns-in-Some : goal.returns-in-Some
returns-in-Some c = let found = found_of c.args.matches.now in (refl, text_given found (codes "network") _ c.in-Some.ensures)
