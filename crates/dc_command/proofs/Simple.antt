-- The program is a simple one: clap finds in words what its definitions say.
use Rattle.std.proofs.Common.{◌≡◌, ◌∙◌, ap, refl, subst, true, List}
use Rattle.clap.specs.Words.{App, HasMatchesOf, Text, is_simple, subcommand_of, subcommand_rows_of}
use Rattle.clap.specs.declared.builder.value_parser.ValueParser.{ValueParser}
use Rattle.clap.specs.declared.parser.matches.ArgMatches.{ArgMatches}
use Rattle.clap.proofs.OnLiterals.{clap_on_literals}
use Rattle.dc_command.specs.Asked.{Asks, AsksIn, Explains, ExplainsIn}
use Rattle.dc_command.specs.Program.{program_app}
use Rattle.dc_command.specs.declared.asked.Order.{Order}
use Rattle.dc_command.specs.declared.explained.When.{When}

is_plain : (formats : ValueParser) → is_simple (program_app formats) ≡ true
unfolding clap_on_literals
is_plain formats = refl

-- the command that the matches have is the one that clap's definitions find in the words
pub found_in : (formats : ValueParser) (app : App) (words : List Text) (m : ArgMatches) → app ≡ program_app formats → HasMatchesOf app words m
    → subcommand_rows_of m ≡ subcommand_of (program_app formats) words
found_in formats app words m is has = (has (ap is_simple is ∙ is_plain formats)).1 ∙ ap (λ a. subcommand_of a words) is

-- what the matches ask, the words ask
pub words_ask : (formats : ValueParser) (app : App) (words : List Text) (m : ArgMatches) (order : Order) → app ≡ program_app formats → HasMatchesOf app words m
    → Asks (subcommand_rows_of m) order → AsksIn words order
words_ask formats app words m order is has asks = (formats, subst (λ r. Asks r order) (found_in formats app words m is has) asks)

-- when the matches ask to explain, the words do
pub words_explain : (formats : ValueParser) (app : App) (words : List Text) (m : ArgMatches) (when : When) → app ≡ program_app formats → HasMatchesOf app words m
    → Explains (subcommand_rows_of m) when → ExplainsIn words when
words_explain formats app words m when is has explains = (formats, subst (λ r. Explains r when) (found_in formats app words m is has) explains)
