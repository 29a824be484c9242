-- The printed line of a margin: six fields parted by spaces, which stand in columns where the names and numbers are not too long; a seventh in microseconds.
use Rattle.std.specs.Prelude.{ℕ, ℤ, pos, ◌*ℤ◌, Bool, if◌then◌else◌, Option, Some, None, List, [], ◌++◌, drop, length, codes, decimal}
use Rattle.std.specs.Fmt.{signed_decimal}
use Rattle.dc_check.specs.FaultText.{condition_code}
use Rattle.dc_check.specs.declared.fault.CertificateList.{CertificateList}
use Rattle.dc_check.specs.declared.fault.CertificateList.TheVariants.{Inputs, Outputs, Labels}
use Rattle.dc_event.specs.ReplyText.{name_at}
use Rattle.dc_margin.specs.Lines.{measure_of}
use Rattle.dc_margin.specs.declared.lines.MarginLine.{MarginLine}
use Rattle.dc_margin.specs.declared.lines.Measure.{Measure}
use Rattle.dc_margin.specs.declared.lines.Measure.TheVariants.{Words, Ticks}
use Rattle.dc_margin.specs.declared.margin.Decider.{Decider}
use Rattle.dc_margin.specs.declared.margin.Decider.TheVariants.{Numbers, Window, Gap, Source}
use Rattle.dc_margin.specs.declared.margin.Margin.{Margin}
use Rattle.dc_print.specs.Verdicts.{member_name}
use Rattle.dc_tables.specs.TableRows.{TableRows}

-- what a member of a list is called, in seven places
abbrev pub member_field : CertificateList → List ℕ
member_field Inputs = codes "input  "
member_field Outputs = codes "output "
member_field Labels = codes "label  "

-- a name, with blanks after it up to sixteen places
abbrev pub name_field : List ℕ → List ℕ
name_field name = name ++ drop (length name) (codes "                ")

-- a number, with blanks before it up to seven places
abbrev pub number_field : List ℕ → List ℕ
number_field number = drop (length number) (codes "       ") ++ number

-- how far a condition is from failing: `none` where no delay up to the longest passes
abbrev pub room_text : Option ℤ → List ℕ
room_text None = codes "none"
room_text (Some slack) = signed_decimal slack

-- the number of a margin; `-` where the margin is not told
abbrev pub slack_text : Option Margin → List ℕ
slack_text None = codes "-"
slack_text (Some margin) = room_text margin.slack

-- what a margin counts: words or ticks
abbrev pub measure_text : Measure → List ℕ
measure_text Words = codes "words"
measure_text Ticks = codes "ticks"

-- what decides it, as `window=3`, `gap=15` or `source=A-203`; `-` for the numbers alone
abbrev pub decider_text : TableRows → Decider → List ℕ
decider_text t Numbers = codes "-"
decider_text t (Window w) = codes "window=" ++ decimal w
decider_text t (Gap g) = codes "gap=" ++ decimal g
decider_text t (Source s) = codes "source=" ++ name_at t.names.streams s

-- what decides a margin; `-` where the margin is not told
abbrev pub by_text : TableRows → Option Margin → List ℕ
by_text t None = codes "-"
by_text t (Some margin) = decider_text t margin.decider

-- as `input  A                C04       0 words window=1`
unfoldable pub margin_text : TableRows → MarginLine → List ℕ
margin_text t line =
    member_field line.list ++ name_field (member_name t line.list line.index) ++ codes " " ++ condition_code line.condition ++ codes " " ++ number_field (slack_text line.margin)
    ++ codes " " ++ measure_text (measure_of line.condition) ++ codes " " ++ by_text t line.margin

-- ---- the same in microseconds

-- so many ticks in microseconds; none where no delay up to the longest passes
abbrev pub room_microseconds : (tick : ℕ) → Option ℤ → Option ℤ
room_microseconds tick None = None
room_microseconds tick (Some slack) = Some (slack *ℤ pos tick)

-- the amount of a margin in microseconds; none where it counts words or is not told
abbrev pub microseconds_of : (tick : ℕ) → Measure → Option Margin → Option ℤ
microseconds_of tick Words margin = None
microseconds_of tick Ticks None = None
microseconds_of tick Ticks (Some margin) = room_microseconds tick margin.slack

-- so many microseconds, as `-2000us`; `-` where there are none
abbrev pub microseconds_text : Option ℤ → List ℕ
microseconds_text None = codes "-"
microseconds_text (Some us) = signed_decimal us ++ codes "us"

-- the amount of a margin in microseconds; `-` where it counts words or is not told
abbrev pub slack_microseconds : (tick : ℕ) → Measure → Option Margin → List ℕ
slack_microseconds tick measure margin = microseconds_text (microseconds_of tick measure margin)

-- the line of a margin, with that as one field more where microseconds are asked for
unfoldable pub margin_line : (microseconds : Bool) → TableRows → MarginLine → List ℕ
margin_line microseconds t line =
    margin_text t line ++ (if microseconds then codes " " ++ slack_microseconds t.tick_us (measure_of line.condition) line.margin else [])
