-- What a command line may ask.
use Rattle.std.specs.Prelude.{◌≡◌, ◌≤◌, ℕ, Bool, true, false, List, Option, Some, None, IfSome, codes, find, option_map}
use Rattle.std.specs.Str.Parse.{IsNumeral, digits_value, without_leading_plus}
use Rattle.clap.specs.Walk.{Row, Text, first_of, one_of}
use Rattle.clap.specs.Simple.{subcommand_of}
use Rattle.clap.specs.declared.builder.value_parser.ValueParser.{ValueParser}
use Rattle.dc_codes.specs.Codes.{asks_for, names}
use Rattle.dc_codes.specs.declared.code.Code.{Code}
use Rattle.dc_word.specs.declared.format.Format.{Format}
use Rattle.dc_word.specs.declared.format.Format.TheVariants.{Bnr, Bcd, Disc}
use Rattle.dc_command.specs.Program.{program_app}
use Rattle.dc_command.specs.declared.asked.Order.{Order}
use Rattle.dc_command.specs.declared.asked.Order.TheVariants.{Decode, Check, Find, Layout, Report, ReportObserved, ReportNetwork, Margins, Survey, Trace, Replay, Audit, Observe, Bench, Network, Design, Explain}
use Rattle.dc_command.specs.declared.explained.When.{When}
use Rattle.dc_command.specs.declared.explained.When.TheVariants.{Always, Never, Auto}
use Rattle.dc_command.specs.declared.limits.TheConstants.{LAST_BEGIN, LONGEST_TICK, MOST_DRIFT, MOST_HEADROOM, MOST_TICKS, MOST_WORKERS, SHORTEST_TICK, USUAL_TICKS}

-- the text is this number of workers, in decimal
abbrev pub IsCount : List ℕ → ℕ → Type 0
IsCount text n = IsNumeral 10 (without_leading_plus text) × (digits_value 10 (without_leading_plus text) ≡ n) × (1 ≤ n) × (n ≤ MOST_WORKERS)

-- it is none of these
abbrev pub IsNoCount : List ℕ → Type 0
IsNoCount text = (n : ℕ) → IsCount text n → ⊥

-- the number of workers that is said by a text, or none where there is no text
abbrev pub AreGiven : Option (List ℕ) → Option ℕ → Type 0
AreGiven None workers = workers ≡ None
AreGiven (Some text) workers = (n : ℕ) × (workers ≡ Some n) × IsCount text n

-- the text is this number of ticks, in decimal
abbrev pub IsTickCount : List ℕ → ℕ → Type 0
IsTickCount text n = IsNumeral 10 (without_leading_plus text) × (digits_value 10 (without_leading_plus text) ≡ n) × (1 ≤ n) × (n ≤ MOST_TICKS)

-- it is none of these
abbrev pub IsNoTickCount : List ℕ → Type 0
IsNoTickCount text = (n : ℕ) → IsTickCount text n → ⊥

-- the number of ticks that is said by a text, or the usual one where there is no text
abbrev pub TicksAre : Option (List ℕ) → ℕ → Type 0
TicksAre None ticks = ticks ≡ USUAL_TICKS
TicksAre (Some text) ticks = IsTickCount text ticks

-- the text is this drift in millionths, in decimal
abbrev pub IsDrift : List ℕ → ℕ → Type 0
IsDrift text n = IsNumeral 10 (without_leading_plus text) × (digits_value 10 (without_leading_plus text) ≡ n) × (n ≤ MOST_DRIFT)

-- it is none of these
abbrev pub IsNoDrift : List ℕ → Type 0
IsNoDrift text = (n : ℕ) → IsDrift text n → ⊥

-- the drift that is said by a text, or none where there is no text
abbrev pub DriftIs : Option (List ℕ) → Option ℕ → Type 0
DriftIs None drift = drift ≡ None
DriftIs (Some text) drift = (n : ℕ) × (drift ≡ Some n) × IsDrift text n

-- the text is this begin of tick 0 in microseconds, in decimal
abbrev pub IsBegin : List ℕ → ℕ → Type 0
IsBegin text n = IsNumeral 10 (without_leading_plus text) × (digits_value 10 (without_leading_plus text) ≡ n) × (n ≤ LAST_BEGIN)

-- it is none of these
abbrev pub IsNoBegin : List ℕ → Type 0
IsNoBegin text = (n : ℕ) → IsBegin text n → ⊥

-- the begin that is said by a text, or none where there is no text
abbrev pub BeginIs : Option (List ℕ) → Option ℕ → Type 0
BeginIs None begin = begin ≡ None
BeginIs (Some text) begin = (n : ℕ) × (begin ≡ Some n) × IsBegin text n

-- the text is this length of a tick in microseconds, in decimal
abbrev pub IsTick : List ℕ → ℕ → Type 0
IsTick text n = IsNumeral 10 (without_leading_plus text) × (digits_value 10 (without_leading_plus text) ≡ n) × (SHORTEST_TICK ≤ n) × (n ≤ LONGEST_TICK)

-- it is none of these
abbrev pub IsNoTick : List ℕ → Type 0
IsNoTick text = (n : ℕ) → IsTick text n → ⊥

-- the length of a tick that is said by a text, or none where there is no text
abbrev pub TickIs : Option (List ℕ) → Option ℕ → Type 0
TickIs None tick = tick ≡ None
TickIs (Some text) tick = (n : ℕ) × (tick ≡ Some n) × IsTick text n

-- the text is this headroom in percent, in decimal
abbrev pub IsHeadroom : List ℕ → ℕ → Type 0
IsHeadroom text n = IsNumeral 10 (without_leading_plus text) × (digits_value 10 (without_leading_plus text) ≡ n) × (n ≤ MOST_HEADROOM)

-- it is none of these
abbrev pub IsNoHeadroom : List ℕ → Type 0
IsNoHeadroom text = (n : ℕ) → IsHeadroom text n → ⊥

-- the headroom that is said by a text, or none where there is no text
abbrev pub HeadroomIs : Option (List ℕ) → Option ℕ → Type 0
HeadroomIs None headroom = headroom ≡ None
HeadroomIs (Some text) headroom = (n : ℕ) × (headroom ≡ Some n) × IsHeadroom text n

-- a format, as it is written after `decode`
abbrev pub format_name : Format → List ℕ
format_name Bnr = codes "bnr"
format_name Bcd = codes "bcd"
format_name Disc = codes "disc"

-- a flag that is said by a text, or is not set where there is none
abbrev pub IsSet : Option (List ℕ) → Bool → Type 0
IsSet text set = (text ≡ None → set ≡ false) × (text ≡ Some (codes "true") → set ≡ true) × (text ≡ Some (codes "false") → set ≡ false)

-- the code that a text asks for, where the flag is not set; all of them, where it is and there is no text
abbrev pub CodesAre : Option (List ℕ) → Option (List ℕ) → Option Code → Type 0
CodesAre (Some text) all (Some code) = IsSet all false × (Some code.name.now ≡ find (asks_for text) names)
CodesAre (Some text) all None = ⊥
CodesAre None all (Some code) = ⊥
CodesAre None all None = IsSet all true

-- what the matches of the command of this name ask
abbrev pub AsksBy : Text → List Row → Order → Type 0
AsksBy name rows (Decode format) = (name ≡ codes "decode") × (first_of (codes "format") rows ≡ Some (format_name format))
AsksBy name rows (Check tables certificate workers digest) =
    (name ≡ codes "check") × (first_of (codes "TABLES") rows ≡ Some tables.now) × (first_of (codes "CERT") rows ≡ Some certificate.now)
    × AreGiven (first_of (codes "workers") rows) workers × IsSet (one_of (codes "digest") rows) digest
AsksBy name rows (Find tables) = (name ≡ codes "find") × (first_of (codes "TABLES") rows ≡ Some tables.now)
AsksBy name rows (Layout tables) = (name ≡ codes "layout") × (first_of (codes "TABLES") rows ≡ Some tables.now)
AsksBy name rows (Report tables certificate drift) =
    (name ≡ codes "report") × (first_of (codes "TABLES") rows ≡ Some tables.now) × (option_map (λ s. s.now) certificate ≡ first_of (codes "CERT") rows)
    × DriftIs (first_of (codes "drift") rows) drift × (first_of (codes "observed") rows ≡ None)
AsksBy name rows (ReportObserved tables certificate observed drift) =
    (name ≡ codes "report") × (first_of (codes "TABLES") rows ≡ Some tables.now) × (first_of (codes "CERT") rows ≡ Some certificate.now)
    × DriftIs (first_of (codes "drift") rows) drift × (first_of (codes "observed") rows ≡ Some observed.now)
AsksBy name rows (ReportNetwork system) = (name ≡ codes "report") × (first_of (codes "network") rows ≡ Some system.now)
AsksBy name rows (Margins tables certificate microseconds drift json) =
    (name ≡ codes "margins") × (first_of (codes "TABLES") rows ≡ Some tables.now) × (option_map (λ s. s.now) certificate ≡ first_of (codes "CERT") rows)
    × IsSet (one_of (codes "us") rows) microseconds × DriftIs (first_of (codes "drift") rows) drift × IsSet (one_of (codes "json") rows) json
AsksBy name rows (Survey tables) = (name ≡ codes "survey") × (first_of (codes "TABLES") rows ≡ Some tables.now)
AsksBy name rows (Trace tables from) =
    (name ≡ codes "trace") × (first_of (codes "TABLES") rows ≡ Some tables.now) × BeginIs (first_of (codes "from") rows) from
AsksBy name rows (Replay tables all long) =
    (name ≡ codes "replay") × (first_of (codes "TABLES") rows ≡ Some tables.now) × IsSet (one_of (codes "all") rows) all
    × IsSet (one_of (codes "long") rows) long
AsksBy name rows (Audit tables certificate long) =
    (name ≡ codes "audit") × (first_of (codes "TABLES") rows ≡ Some tables.now) × (first_of (codes "CERT") rows ≡ Some certificate.now)
    × IsSet (one_of (codes "long") rows) long
AsksBy name rows (Observe tables certificate) =
    (name ≡ codes "observe") × (first_of (codes "TABLES") rows ≡ Some tables.now) × (first_of (codes "CERT") rows ≡ Some certificate.now)
AsksBy name rows (Bench tables certificate ticks marks) =
    (name ≡ codes "bench") × (first_of (codes "TABLES") rows ≡ Some tables.now) × (first_of (codes "CERT") rows ≡ Some certificate.now)
    × TicksAre (first_of (codes "ticks") rows) ticks × IsSet (one_of (codes "marks") rows) marks
AsksBy name rows (Network system workers) =
    (name ≡ codes "network") × (first_of (codes "SYSTEM") rows ≡ Some system.now) × AreGiven (first_of (codes "workers") rows) workers
AsksBy name rows (Design inputs outputs tick headroom police certificate) =
    (name ≡ codes "design") × (first_of (codes "INPUTS") rows ≡ Some inputs.now) × (first_of (codes "OUTPUTS") rows ≡ Some outputs.now)
    × TickIs (first_of (codes "tick") rows) tick × HeadroomIs (first_of (codes "headroom") rows) headroom × IsSet (one_of (codes "police") rows) police
    × (option_map (λ s. s.now) certificate ≡ first_of (codes "certificate") rows)
AsksBy name rows (Explain code) = (name ≡ codes "explain") × CodesAre (first_of (codes "CODE") rows) (one_of (codes "all") rows) code

-- what a command and its matches ask
abbrev pub Asks : Option (Text × List Row) → Order → Type 0
Asks None order = ⊥
Asks (Some (name, rows)) order = AsksBy name rows order

-- what the words ask, of which the first is the program's name: what clap finds in them
abbrev pub AsksIn : List Text → Order → Type 0
AsksIn words order = (formats : ValueParser) × Asks (subcommand_of (program_app formats) words) order

-- when to explain, as it is written after `--explain`
abbrev pub when_name : When → List ℕ
when_name Always = codes "always"
when_name Never = codes "never"
when_name Auto = codes "auto"

-- when to explain, by a text, or where standard error is a terminal if there is no text
abbrev pub WhenIs : Option (List ℕ) → When → Type 0
WhenIs None when = when ≡ Auto
WhenIs (Some text) when = text ≡ when_name when

-- when a command and its matches ask to explain
abbrev pub Explains : Option (Text × List Row) → When → Type 0
Explains None when = ⊥
Explains (Some (name, rows)) when = WhenIs (first_of (codes "explain") rows) when

-- when the words ask to explain; the command `explain` has no such option, and clap finds none in its words
abbrev pub ExplainsIn : List Text → When → Type 0
ExplainsIn words when = (formats : ValueParser) × Explains (subcommand_of (program_app formats) words) when

-- each number is in its range
abbrev pub IsInRange : Order → Type 0
IsInRange (Check tables certificate workers digest) = IfSome workers (λ n. (1 ≤ n) × (n ≤ MOST_WORKERS))
IsInRange (Network system workers) = IfSome workers (λ n. (1 ≤ n) × (n ≤ MOST_WORKERS))
IsInRange (Bench tables certificate ticks marks) = (1 ≤ ticks) × (ticks ≤ MOST_TICKS)
IsInRange (Report tables certificate drift) = IfSome drift (λ n. n ≤ MOST_DRIFT)
IsInRange (ReportObserved tables certificate observed drift) = IfSome drift (λ n. n ≤ MOST_DRIFT)
IsInRange (Margins tables certificate microseconds drift json) = IfSome drift (λ n. n ≤ MOST_DRIFT)
IsInRange (Trace tables from) = IfSome from (λ n. n ≤ LAST_BEGIN)
IsInRange (Design inputs outputs tick headroom police certificate) = IfSome tick (λ n. (SHORTEST_TICK ≤ n) × (n ≤ LONGEST_TICK)) × IfSome headroom (λ n. n ≤ MOST_HEADROOM)
IsInRange _ = Unit {0}
