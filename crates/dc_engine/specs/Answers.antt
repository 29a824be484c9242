-- The numbers of an answer to a program that calls the engine, and of why it was not opened.
use Rattle.std.specs.Prelude.{◌≡◌, ℕ, ◌==◌, if◌then◌else◌, Option, Some, None, Result, Ok, Err}
use Rattle.dc_cert.specs.declared.fault.CertRule.{CertRule}
use Rattle.dc_cert.specs.declared.fault.CertRule.TheVariants as cert
use Rattle.dc_cert.specs.declared.fault.TextPlace.{TextPlace}
use Rattle.dc_cert.specs.declared.fault.TextPlace.TheVariants.{Top, Inputs, Outputs, Labels}
use Rattle.dc_check.specs.declared.fault.CertificateList.{CertificateList}
use Rattle.dc_check.specs.declared.fault.CertificateList.TheVariants as list
use Rattle.dc_check.specs.declared.fault.Condition.{Condition}
use Rattle.dc_check.specs.declared.fault.Condition.TheVariants.{NamesDiffer, WindowOutOfRange, WindowDoesNotClose, BacklogTooSmall, QueueTooShort, DelayTooSmall, DelayOutOfRange, SentTooSoon, SentTooLate, AgeTooSmall, AgeOverLimit, SourceGoesStale}
use Rattle.dc_core.specs.declared.fault.StepFault.{StepFault}
use Rattle.dc_core.specs.declared.fault.StepFault.TheVariants.{Spent, TooSoon, Owed, TickLimit, Unknown}
use Rattle.dc_event.specs.declared.event.Actor.TheVariants.{Wire, Router, Output, Clock}
use Rattle.dc_event.specs.declared.event.Reply.{Reply}
use Rattle.dc_event.specs.declared.event.Reply.TheVariants.{Queued, BadParity, Undeclared, TooEarly, Overrun, Latched, Took, Empty, Sent, Idle, Now}
use Rattle.dc_document.specs.declared.fault.Section.{Section}
use Rattle.dc_document.specs.declared.fault.Section.TheVariants as section
use Rattle.dc_document.specs.declared.fault.TableRule.{TableRule}
use Rattle.dc_document.specs.declared.fault.TableRule.TheVariants.{NotToml, VersionUnknown, KeyAbsent, KeyUnknown, WrongKind, NumberOutOfRange, WrongSpelling, CountOutOfRange, ParameterDoubled, IntervalReversed, MinimumBelowOneTick, NoOutputInterval, NameDoubled, ParameterAbsent, StreamsOverlap, NameAbsent, BusNotVisitedByOne, SourceDoubled, FormatsDiffer, OffsetPastFrame, OffsetDoubled, LabelDoubled, RouterCannotKeepPace, OutputCannotKeepPace}
use Rattle.dc_engine.specs.declared.answer.Answer.{Answer}
use Rattle.dc_engine.specs.declared.fault.OpenFault.{OpenFault}
use Rattle.dc_engine.specs.declared.fault.OpenFault.TheVariants.{Memory, Tables, Certificate, Refused}
use Rattle.dc_engine.specs.declared.fault.Report.{Report}

-- the number of a rule of tables: 1 to 24 as T01 to T24
abbrev pub rule_number : TableRule → ℕ
rule_number NotToml = 1
rule_number VersionUnknown = 2
rule_number KeyAbsent = 3
rule_number KeyUnknown = 4
rule_number WrongKind = 5
rule_number NumberOutOfRange = 6
rule_number WrongSpelling = 7
rule_number CountOutOfRange = 8
rule_number ParameterDoubled = 9
rule_number IntervalReversed = 10
rule_number MinimumBelowOneTick = 11
rule_number NoOutputInterval = 12
rule_number NameDoubled = 13
rule_number ParameterAbsent = 14
rule_number StreamsOverlap = 15
rule_number NameAbsent = 16
rule_number BusNotVisitedByOne = 17
rule_number SourceDoubled = 18
rule_number FormatsDiffer = 19
rule_number OffsetPastFrame = 20
rule_number OffsetDoubled = 21
rule_number LabelDoubled = 22
rule_number RouterCannotKeepPace = 23
rule_number OutputCannotKeepPace = 24

-- the number of a kind of table
abbrev pub section_number : Section → ℕ
section_number section.Top = 0
section_number section.Parameter = 1
section_number section.Bus = 2
section_number section.Stream = 3
section_number section.Router = 4
section_number section.Output = 5
section_number section.Label = 6

-- the number of a rule of a certificate's text: 1 to 6 as K1 to K6
abbrev pub text_rule_number : CertRule → ℕ
text_rule_number cert.NotJson = 1
text_rule_number cert.VersionUnknown = 2
text_rule_number cert.KeyAbsent = 3
text_rule_number cert.KeyUnknown = 4
text_rule_number cert.WrongKind = 5
text_rule_number cert.ListOrNameOutOfBounds = 6

-- the number of the list that a place is in
abbrev pub text_list : TextPlace → ℕ
text_list Top = 0
text_list (Inputs i) = 1
text_list (Outputs i) = 2
text_list (Labels i) = 3

-- the number of a place in its list
abbrev pub text_index : TextPlace → ℕ
text_index Top = 0
text_index (Inputs i) = i
text_index (Outputs i) = i
text_index (Labels i) = i

-- the number of a condition: 1 to 12 as C01 to C12
abbrev pub condition_number : Condition → ℕ
condition_number NamesDiffer = 1
condition_number WindowOutOfRange = 2
condition_number WindowDoesNotClose = 3
condition_number BacklogTooSmall = 4
condition_number QueueTooShort = 5
condition_number DelayTooSmall = 6
condition_number DelayOutOfRange = 7
condition_number SentTooSoon = 8
condition_number SentTooLate = 9
condition_number AgeTooSmall = 10
condition_number AgeOverLimit = 11
condition_number SourceGoesStale = 12

-- the number of a list of a certificate
abbrev pub list_number : CertificateList → ℕ
list_number list.Inputs = 1
list_number list.Outputs = 2
list_number list.Labels = 3

-- why an engine is not opened: `M`, `T`, `K` or `C`, and the numbers of the fault
abbrev pub report_of : OpenFault → Report
report_of Memory = record { kind = 77; code = 0; place = 0; window = 0; index = 0 }
report_of (Tables f) = record { kind = 84; code = rule_number f.rule; place = section_number f.section; window = 0; index = f.index }
report_of (Certificate f) = record { kind = 75; code = text_rule_number f.rule; place = text_list f.place; window = 0; index = text_index f.place }
report_of (Refused f) = record { kind = 67; code = condition_number f.condition; place = list_number f.list; window = f.window; index = f.index }

-- an answer of this kind that tells nothing more
abbrev pub bare : ℕ → Answer
bare kind = record { kind = kind; label = 0; word = 0; backlog = 0; number = 0; tick = 0 }

-- an answer of this kind that tells a number
abbrev pub of_number : ℕ → ℕ → Answer
of_number kind n = record { kind = kind; label = 0; word = 0; backlog = 0; number = n; tick = 0 }

-- the numbers of a reply: 1 to 11 in the order of the replies; and of a refusal: 32 to 39
abbrev pub answer_of : Result Reply StepFault → Answer
answer_of (Ok (Queued backlog)) = record { kind = 1; label = 0; word = 0; backlog = backlog; number = 0; tick = 0 }
answer_of (Ok BadParity) = bare 2
answer_of (Ok Undeclared) = bare 3
answer_of (Ok TooEarly) = bare 4
answer_of (Ok Overrun) = bare 5
answer_of (Ok Latched) = bare 6
answer_of (Ok (Took word bus)) = record { kind = 7; label = 0; word = word; backlog = 0; number = bus; tick = 0 }
answer_of (Ok (Empty bus)) = of_number 8 bus
answer_of (Ok (Sent label word)) = record { kind = 9; label = label; word = word; backlog = 0; number = 0; tick = 0 }
answer_of (Ok Idle) = bare 10
answer_of (Ok (Now tick)) = record { kind = 11; label = 0; word = 0; backlog = 0; number = 0; tick = tick }
answer_of (Err Spent) = bare 32
answer_of (Err TooSoon) = bare 33
answer_of (Err (Owed (Router router))) = of_number 34 router
answer_of (Err (Owed (Output output))) = of_number 35 output
answer_of (Err TickLimit) = bare 36
answer_of (Err Unknown) = bare 37
answer_of (Err (Owed (Wire bus))) = of_number 38 bus
answer_of (Err (Owed Clock)) = bare 39

-- what an answer tells, where it tells anything
abbrev pub told : Answer → Option (Result Reply StepFault)
told a =
    if a.kind == 1 then Some (Ok (Queued a.backlog))
    else if a.kind == 2 then Some (Ok BadParity)
    else if a.kind == 3 then Some (Ok Undeclared)
    else if a.kind == 4 then Some (Ok TooEarly)
    else if a.kind == 5 then Some (Ok Overrun)
    else if a.kind == 6 then Some (Ok Latched)
    else if a.kind == 7 then Some (Ok (Took a.word a.number))
    else if a.kind == 8 then Some (Ok (Empty a.number))
    else if a.kind == 9 then Some (Ok (Sent a.label a.word))
    else if a.kind == 10 then Some (Ok Idle)
    else if a.kind == 11 then Some (Ok (Now a.tick))
    else if a.kind == 32 then Some (Err Spent)
    else if a.kind == 33 then Some (Err TooSoon)
    else if a.kind == 34 then Some (Err (Owed (Router a.number)))
    else if a.kind == 35 then Some (Err (Owed (Output a.number)))
    else if a.kind == 36 then Some (Err TickLimit)
    else if a.kind == 37 then Some (Err Unknown)
    else if a.kind == 38 then Some (Err (Owed (Wire a.number)))
    else if a.kind == 39 then Some (Err (Owed Clock))
    else None

-- no two replies or refusals have one answer
abbrev pub AreToldApart : Type 0
AreToldApart = (r : Result Reply StepFault) → told (answer_of r) ≡ Some r
