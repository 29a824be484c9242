-- What clap reads of the commands that there are.
use Rattle.std.specs.Prelude.{◌≡◌, Some, true, false, codes, pos}
use Rattle.clap.specs.Words.{App, Rule, Text, app_of, new_app, new_rule, rule_of, with_rule, with_subcommand}
use Rattle.clap.specs.Simple.{on_top}
use Rattle.clap.specs.declared.builder.arg.Arg.{Arg}
use Rattle.clap.specs.declared.builder.command.Command.{Command}
use Rattle.clap.specs.declared.builder.command.Command.TheViews.{out-Command}
use Rattle.clap.specs.declared.builder.action.ArgAction.TheVariants.{SetTrue}
use Rattle.clap.specs.declared.builder.value_parser.ValueParser.{ValueParser}
use Rattle.clap.specs.declared.builder.value_parser.ValueParser.TheVariants as vp
use Rattle.dc_command.specs.declared.limits.TheConstants.{LAST_BEGIN, LONGEST_TICK, MOST_DRIFT, MOST_HEADROOM, MOST_TICKS, MOST_WORKERS, SHORTEST_TICK}

-- a file that is wanted
abbrev pub file_rule : Text → Rule
file_rule id = record (new_rule id) { required = true }

-- the format of words, read by this parser
abbrev pub format_rule : ValueParser → Rule
format_rule formats = record (new_rule (codes "format")) { required = true; parser = Some formats }

-- `--workers`
abbrev pub workers_rule : Rule
workers_rule = record (new_rule (codes "workers")) {
  long = Some (codes "workers");
  value_names = 1;
  parser = Some (vp.Signed (pos 1) (pos MOST_WORKERS));
}

-- `--ticks`
abbrev pub ticks_rule : Rule
ticks_rule = record (new_rule (codes "ticks")) {
  long = Some (codes "ticks");
  value_names = 1;
  parser = Some (vp.Signed (pos 1) (pos MOST_TICKS));
}

-- `--drift`
abbrev pub drift_rule : Rule
drift_rule = record (new_rule (codes "drift")) {
  long = Some (codes "drift");
  value_names = 1;
  parser = Some (vp.Signed (pos 0) (pos MOST_DRIFT));
}

-- `--from`
abbrev pub from_rule : Rule
from_rule = record (new_rule (codes "from")) { long = Some (codes "from"); value_names = 1; parser = Some (vp.Unsigned 0 LAST_BEGIN) }

-- `--tick`
abbrev pub tick_rule : Rule
tick_rule = record (new_rule (codes "tick")) {
  long = Some (codes "tick");
  value_names = 1;
  parser = Some (vp.Signed (pos SHORTEST_TICK) (pos LONGEST_TICK));
}

-- `--headroom`
abbrev pub headroom_rule : Rule
headroom_rule = record (new_rule (codes "headroom")) {
  long = Some (codes "headroom");
  value_names = 1;
  parser = Some (vp.Signed (pos 0) (pos MOST_HEADROOM));
}

-- `--certificate`
abbrev pub certificate_rule : Rule
certificate_rule = record (new_rule (codes "certificate")) { long = Some (codes "certificate"); value_names = 1 }

-- a flag
abbrev pub flag_rule : Text → Rule
flag_rule id = record (new_rule id) { long = Some id; action = Some SetTrue }

-- `--all`
abbrev pub all_rule : Rule
all_rule = flag_rule (codes "all")

-- `--marks`
abbrev pub marks_rule : Rule
marks_rule = flag_rule (codes "marks")

-- `--us`
abbrev pub us_rule : Rule
us_rule = flag_rule (codes "us")

-- `--json`
abbrev pub json_rule : Rule
json_rule = flag_rule (codes "json")

-- `--digest`
abbrev pub digest_rule : Rule
digest_rule = flag_rule (codes "digest")

-- `--long`
abbrev pub long_rule : Rule
long_rule = flag_rule (codes "long")

-- `--explain`
abbrev pub explain_rule : Rule
explain_rule = record (new_rule (codes "explain")) { long = Some (codes "explain"); value_names = 1 }

-- a command that may be told when to explain, and has this rule
abbrev pub explaining_app : Text → Rule → App
explaining_app name rule = with_rule (with_rule (new_app name) explain_rule) rule

-- a command that reads tables
abbrev pub tables_app : Text → App
tables_app name = explaining_app name (file_rule (codes "TABLES"))

-- a command that reads tables and a certificate
abbrev pub certificate_app : Text → App
certificate_app name = with_rule (tables_app name) (file_rule (codes "CERT"))

-- `decode`, with the parser of its format
abbrev pub decode_app : ValueParser → App
decode_app formats = explaining_app (codes "decode") (format_rule formats)

-- `check`, which may be told how many workers, and to tell the digests
abbrev pub check_app : App
check_app = with_rule (with_rule (certificate_app (codes "check")) workers_rule) digest_rule

-- `bench`, which may be told how many ticks, and to tell the marks
abbrev pub bench_app : App
bench_app = with_rule (with_rule (certificate_app (codes "bench")) ticks_rule) marks_rule

-- a certificate that need not be given
abbrev pub some_certificate_rule : Rule
some_certificate_rule = new_rule (codes "CERT")

-- an argument on which clap has a rule by other arguments
abbrev pub tied_rule : Rule → Rule
tied_rule rule = record rule { is_free = false }

-- the tables of `report`, which are wanted where no network is said
abbrev pub reported_tables_rule : Rule
reported_tables_rule = tied_rule (new_rule (codes "TABLES"))

-- `--network`
abbrev pub network_rule : Rule
network_rule = record (new_rule (codes "network")) { long = Some (codes "network"); value_names = 1 }

-- `--observed`
abbrev pub observed_rule : Rule
observed_rule = record (new_rule (codes "observed")) { long = Some (codes "observed"); value_names = 1 }

-- `report` on tables, and on a certificate where one is given
abbrev pub certified_report_app : App
certified_report_app = with_rule (explaining_app (codes "report") reported_tables_rule) some_certificate_rule

-- `report`, which may be told a drift too, and what was observed; or reads the text of a system
abbrev pub report_app : App
report_app = with_rule (with_rule (with_rule certified_report_app drift_rule) (tied_rule observed_rule)) (tied_rule network_rule)

-- `margins`, which reads tables, and a certificate where one is given, and may be told to tell microseconds, a drift, and
-- objects of JSON
abbrev pub margins_app : App
margins_app = with_rule (with_rule (with_rule (with_rule (tables_app (codes "margins")) some_certificate_rule) us_rule) drift_rule) json_rule

-- `trace`, which reads tables and may be told when tick 0 begins
abbrev pub trace_app : App
trace_app = with_rule (tables_app (codes "trace")) from_rule

-- `replay`, which reads tables, may print all replies and may take a long trace
abbrev pub replay_app : App
replay_app = with_rule (with_rule (tables_app (codes "replay")) all_rule) long_rule

-- `audit`, which may take a long run
abbrev pub audit_app : App
audit_app = with_rule (certificate_app (codes "audit")) long_rule

-- `network`, which reads the text of a system and may be told how many workers
abbrev pub network_app : App
network_app = with_rule (explaining_app (codes "network") (file_rule (codes "SYSTEM"))) workers_rule

-- a command that reads two sheets
abbrev pub sheets_app : App
sheets_app = with_rule (explaining_app (codes "design") (file_rule (codes "INPUTS"))) (file_rule (codes "OUTPUTS"))

-- `design`, which may be told a tick, a headroom, to police, and a file for the certificate
abbrev pub design_app : App
design_app = with_rule (with_rule (with_rule (with_rule sheets_app tick_rule) headroom_rule) (flag_rule (codes "police"))) certificate_rule

-- `explain`, which may be told a code, or to tell all
abbrev pub explain_app : App
explain_app = with_rule (with_rule (new_app (codes "explain")) (new_rule (codes "CODE"))) all_rule

-- the program without its commands
abbrev pub bare_app : App
bare_app = on_top (λ s. record s { has_version = true; subcommand_required = true }) (new_app (codes "dc429"))

-- the program, whose formats are read by this parser
abbrev pub program_app : ValueParser → App
program_app formats =
    with_subcommand (with_subcommand (with_subcommand (with_subcommand (with_subcommand (with_subcommand (with_subcommand (with_subcommand (with_subcommand (with_subcommand (with_subcommand (with_subcommand (with_subcommand (with_subcommand (with_subcommand
    bare_app (decode_app formats).top) check_app.top) (tables_app (codes "find")).top) (tables_app (codes "survey")).top) trace_app.top) replay_app.top) audit_app.top) (certificate_app (codes "observe")).top) bench_app.top)
    network_app.top) report_app.top) margins_app.top) design_app.top) (tables_app (codes "layout")).top) explain_app.top

-- clap reads this of an argument, which is not global
abbrev pub IsReadOf : Rule → Arg → Type 0
IsReadOf rule a = (rule_of a ≡ rule) × (a.global ≡ false)

-- clap reads this of a command, none of whose arguments is global
abbrev pub IsRead : App → Command → Type 0
IsRead app c = (app_of c ≡ app) × ((out-Command c).has_globals ≡ false)

-- clap reads the command as `decode`, whatever parser has the formats
abbrev pub IsDecode : Command → Type 0
IsDecode c = (formats : ValueParser) × IsRead (decode_app formats) c

-- clap reads the command as the whole program, whatever parser has the formats of `decode`
abbrev pub IsProgram : Command → Type 0
IsProgram c = (formats : ValueParser) × IsRead (program_app formats) c
