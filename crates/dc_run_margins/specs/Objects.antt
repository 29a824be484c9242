-- The JSON object of a margin, in one line: the same as its fields, by keys in the order of their bytes. Where a field is `-`, a value is `null`.
use Rattle.std.specs.Prelude.{ℕ, ℤ, Bool, if◌then◌else◌, Option, Some, None, List, [], ◌++◌, codes, decimal}
use Rattle.std.specs.Fmt.{signed_decimal}
use Rattle.dc_check.specs.FaultText.{condition_code}
use Rattle.dc_check.specs.declared.fault.CertificateList.{CertificateList}
use Rattle.dc_check.specs.declared.fault.CertificateList.TheVariants.{Inputs, Outputs, Labels}
use Rattle.dc_event.specs.ReplyText.{name_at}
use Rattle.dc_margin.specs.Lines.{measure_of}
use Rattle.dc_margin.specs.declared.lines.MarginLine.{MarginLine}
use Rattle.dc_margin.specs.declared.margin.Decider.{Decider}
use Rattle.dc_margin.specs.declared.margin.Decider.TheVariants.{Numbers, Window, Gap, Source}
use Rattle.dc_margin.specs.declared.margin.Margin.{Margin}
use Rattle.dc_print.specs.Verdicts.{member_name}
use Rattle.dc_run_margins.specs.Lines.{margin_line, measure_text, microseconds_of}
use Rattle.dc_run_margins.specs.declared.telling.Telling.{Telling}
use Rattle.dc_tables.specs.TableRows.{TableRows}

-- what a member of a list is called
abbrev pub part_text : CertificateList → List ℕ
part_text Inputs = codes "input"
part_text Outputs = codes "output"
part_text Labels = codes "label"

-- how far a condition is from failing: a number, or `none` where no delay up to the longest passes
abbrev pub room_value : Option ℤ → List ℕ
room_value None = codes "\"none\""
room_value (Some slack) = signed_decimal slack

-- the number of a margin; `null` where the margin is not told
abbrev pub slack_value : Option Margin → List ℕ
slack_value None = codes "null"
slack_value (Some margin) = room_value margin.slack

-- so many microseconds; `null` where there are none
abbrev pub microseconds_value : Option ℤ → List ℕ
microseconds_value None = codes "null"
microseconds_value (Some us) = signed_decimal us

-- what decides it, as `"window=3"`, `"gap=15"` or `"source=A-203"`; `null` for the numbers alone
abbrev pub decider_value : TableRows → Decider → List ℕ
decider_value t Numbers = codes "null"
decider_value t (Window w) = codes "\"window=" ++ decimal w ++ codes "\""
decider_value t (Gap g) = codes "\"gap=" ++ decimal g ++ codes "\""
decider_value t (Source s) = codes "\"source=" ++ name_at t.names.streams s ++ codes "\""

-- what decides a margin; `null` where the margin is not told
abbrev pub by_value : TableRows → Option Margin → List ℕ
by_value t None = codes "null"
by_value t (Some margin) = decider_value t margin.decider

-- up to the unit, as `{"amount":0,"code":"C04","name":"A","part":"input","unit":"words"`
unfoldable pub object_front : TableRows → MarginLine → List ℕ
object_front t line =
    codes "{\"amount\":" ++ slack_value line.margin ++ codes ",\"code\":\"" ++ condition_code line.condition ++ codes "\",\"name\":\"" ++ member_name t line.list line.index
    ++ codes "\",\"part\":\"" ++ part_text line.list ++ codes "\",\"unit\":\"" ++ measure_text (measure_of line.condition) ++ codes "\""

-- its amount in microseconds, where these are asked for
abbrev pub object_us : (microseconds : Bool) → TableRows → MarginLine → List ℕ
object_us microseconds t line =
    if microseconds then codes ",\"us\":" ++ microseconds_value (microseconds_of t.tick_us (measure_of line.condition) line.margin) else []

-- what decides it, as `,"where":"window=1"`
abbrev pub object_where : TableRows → MarginLine → List ℕ
object_where t line = codes ",\"where\":" ++ by_value t line.margin

-- the object
abbrev pub margin_object : (microseconds : Bool) → TableRows → MarginLine → List ℕ
margin_object microseconds t line = object_front t line ++ object_us microseconds t line ++ object_where t line ++ codes "}"

-- a margin as it is told: as an object, or as a line of fields
abbrev pub margin_told : Telling → TableRows → MarginLine → List ℕ
margin_told told t line = if told.json then margin_object told.microseconds t line else margin_line told.microseconds t line
