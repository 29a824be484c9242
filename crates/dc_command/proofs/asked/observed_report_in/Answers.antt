use Rattle.std.proofs.Common.{codes, refl}
use Rattle.clap.specs.Words.{found_of}
use Rattle.dc_command.proofs.Reading.{drift_given, text_given}
use Rattle.dc_command.proofs.asked.observed_report_in.Goals as goal

pub returns-in-Ok : goal.returns-in-Ok
returns-in-Ok c =
    let found = found_of c.args.matches.now in (
      refl,
      text_given found (codes "TABLES") _ c.in_ok-tables.ensures,
      text_given found (codes "CERT") _ c.in_ok-certificate.ensures,
      drift_given found (codes "drift") _ c.in-Ok.ensures,
      text_given found (codes "observed") _ c.in_ok-observed.ensures,
    )
