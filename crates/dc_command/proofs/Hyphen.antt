-- A lone hyphen is no option.
use Rattle.std.proofs.Common.{◌≡◌, refl, codes, List, [], ◌∷◌, Some, option_and_then}
use Rattle.clap.specs.Words.{Row, Text, first_of, subcommand_of}
use Rattle.clap.specs.declared.builder.value_parser.ValueParser.{ValueParser}
use Rattle.clap.proofs.OnLiterals.{clap_on_literals}
use Rattle.dc_command.specs.Program.{program_app}

-- clap finds it as the tables of `find`
pub hyphen_names_a_file : (formats : ValueParser) →
    option_and_then (λ (p : Text × List Row). first_of (codes "TABLES") p.1)
    (subcommand_of (program_app formats) (codes "dc429" ∷ codes "find" ∷ codes "-" ∷ [])) ≡ Some (codes "-")
unfolding clap_on_literals
hyphen_names_a_file formats = refl
