use Rattle.std.proofs.Common.{codes, refl}
use Rattle.clap.specs.Words.{found_of}
use Rattle.dc_command.proofs.Reading.{flag_given, text_given, workers_given}
use Rattle.dc_command.proofs.asked.check_in.Goals as goal

pub returns-in-Ok : goal.returns-in-Ok
returns-in-Ok c =
    let found = found_of c.args.matches.now in
    let digest = c.get_flag-digest.ensures in (
      refl,
      text_given found (codes "TABLES") _ c.in_ok-tables.ensures,
      text_given found (codes "CERT") _ c.in_ok-certificate.ensures,
      workers_given found (codes "workers") _ c.in-Ok.ensures,
      flag_given found (codes "digest") _ digest.none digest.value digest.other,
    )
