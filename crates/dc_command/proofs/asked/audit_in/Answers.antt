use Rattle.std.proofs.Common.{codes, refl}
use Rattle.clap.specs.Words.{found_of}
use Rattle.dc_command.proofs.Reading.{flag_given, text_given}
use Rattle.dc_command.proofs.asked.audit_in.Goals as goal

pub returns : goal.returns
returns c =
    let found = found_of c.args.matches.now in
    let long = c.get_flag-long.ensures in
    (refl, text_given found (codes "TABLES") _ c.in_ok-tables.ensures, text_given found (codes "CERT") _ c.in_ok-certificate.ensures, flag_given found (codes "long") _ long.none long.value long.other)
