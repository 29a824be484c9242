use Rattle.std.proofs.Common.{◌∙◌, codes, refl}
use Rattle.clap.specs.Words.{found_of}
use Rattle.clap.proofs.WalkLemmas.{first_value-rows}
use Rattle.dc_command.proofs.Reading.{drift_given, none_given, text_given}
use Rattle.dc_command.proofs.asked.tables_report_in.Goals as goal

pub returns-in-Ok : goal.returns-in-Ok
returns-in-Ok c =
    let found = found_of c.args.matches.now in (
      refl,
      text_given found (codes "TABLES") _ c.in_ok-tables.ensures,
      c.get_str-certificate.ensures ∙ first_value-rows found (codes "CERT"),
      drift_given found (codes "drift") _ c.in-Ok.ensures,
      none_given found (codes "observed") c.in-None.ensures,
    )
