use Rattle.std.proofs.Common.{codes, refl}
use Rattle.clap.specs.Words.{found_of}
use Rattle.dc_command.proofs.Reading.{flag_given, text_given, ticks_given}
use Rattle.dc_command.proofs.asked.bench_in.Goals as goal

pub returns-in-Ok : goal.returns-in-Ok
returns-in-Ok c = let found = found_of c.args.matches.now in (refl, text_given found (codes "TABLES") _ c.in_ok-tables.ensures, text_given found (codes "CERT") _ c.in_ok-certificate.ensures, ticks_given found (codes "ticks") _ c.in-Ok.ensures, flag_given found (codes "marks") _ c.get_flag-marks.ensures.none c.get_flag-marks.ensures.value c.get_flag-marks.ensures.other)
