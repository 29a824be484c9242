use Rattle.std.proofs.Common.{codes, refl}
use Rattle.clap.specs.Words.{found_of}
use Rattle.dc_command.proofs.Reading.{text_given, workers_given}
use Rattle.dc_command.proofs.asked.network_in.Goals as goal

pub returns-in-Ok : goal.returns-in-Ok
returns-in-Ok c = let found = found_of c.args.matches.now in (refl, text_given found (codes "SYSTEM") _ c.in_ok-system.ensures, workers_given found (codes "workers") _ c.in-Ok.ensures)
