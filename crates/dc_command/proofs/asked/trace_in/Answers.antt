use Rattle.std.proofs.Common.{codes, refl}
use Rattle.clap.specs.Words.{found_of}
use Rattle.dc_command.proofs.Reading.{begin_given, text_given}
use Rattle.dc_command.proofs.asked.trace_in.Goals as goal

pub returns-in-Ok : goal.returns-in-Ok
returns-in-Ok c = let found = found_of c.args.matches.now in (refl, text_given found (codes "TABLES") _ c.in_ok-tables.ensures, begin_given found (codes "from") _ c.in-Ok.ensures)
