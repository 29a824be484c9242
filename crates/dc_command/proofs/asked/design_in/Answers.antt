use Rattle.std.proofs.Common.{◌∙◌, codes, refl}
use Rattle.clap.specs.Words.{found_of}
use Rattle.clap.proofs.WalkLemmas.{first_value-rows}
use Rattle.dc_command.proofs.Reading.{flag_given, headroom_given, text_given, tick_given}
use Rattle.dc_command.proofs.asked.design_in.Goals as goal

pub returns-in-Ok-headroom_in : goal.returns-in-Ok-headroom_in
returns-in-Ok-headroom_in c =
    let found = found_of c.args.matches.now in
    let police = c.get_flag-police.ensures in (
      refl,
      text_given found (codes "INPUTS") _ c.in_ok-inputs.ensures,
      text_given found (codes "OUTPUTS") _ c.in_ok-outputs.ensures,
      tick_given found (codes "tick") _ c.in-Ok.ensures,
      headroom_given found (codes "headroom") _ c.in-Ok-headroom_in.ensures,
      flag_given found (codes "police") _ police.none police.value police.other,
      c.get_str-certificate.ensures ∙ first_value-rows found (codes "certificate"),
    )
