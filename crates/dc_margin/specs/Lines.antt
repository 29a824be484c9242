-- The margins of a certificate in one row, as they are printed: a line for each condition of each input, output and label.
use Rattle.std.specs.Prelude.{ℕ, zero, suc, ◌+◌, ◌-◌, ◌<◌, if◌then◌else◌, nat_lt, Option, IfSome, List, [], ◌∷◌, ◌++◌, length, map}
use Rattle.dc_cert.specs.Bounds.{CertificateRows, input_bound, output_bound}
use Rattle.dc_check.specs.Verdict.{fault_at, unless, first_of, job_count}
use Rattle.dc_check.specs.declared.fault.CheckFault.{CheckFault}
use Rattle.dc_check.specs.declared.fault.Condition.{Condition}
use Rattle.dc_check.specs.declared.fault.Condition.TheVariants.{WindowOutOfRange, WindowDoesNotClose, BacklogTooSmall, QueueTooShort, DelayTooSmall, DelayOutOfRange, SentTooSoon, SentTooLate, AgeTooSmall, AgeOverLimit, SourceGoesStale}
use Rattle.dc_check.specs.declared.fault.CertificateList.{CertificateList}
use Rattle.dc_check.specs.declared.fault.CertificateList.TheVariants.{Inputs, Outputs, Labels}
use Rattle.dc_margin.specs.Margins.{is_kept, input_margins_of, output_margins_of, label_margins_of}
use Rattle.dc_check.specs.Placed.{member_count}
use Rattle.dc_margin.specs.declared.lines.MarginLine.{MarginLine}
use Rattle.dc_margin.specs.declared.lines.MarginLines.{MarginLines}
use Rattle.dc_margin.specs.declared.lines.MarginLines.TheVariants.{Input, Output, Label}
use Rattle.dc_margin.specs.declared.lines.Measure.{Measure}
use Rattle.dc_margin.specs.declared.lines.Measure.TheVariants.{Words, Ticks}
use Rattle.dc_margin.specs.declared.margin.Decider.{Decider}
use Rattle.dc_margin.specs.declared.margin.Decider.TheVariants.{Source}
use Rattle.dc_margin.specs.declared.margin.Margin.{Margin}
use Rattle.dc_margin.specs.declared.margin.InputMargins.{InputMargins}
use Rattle.dc_margin.specs.declared.margin.OutputMargins.{OutputMargins}
use Rattle.dc_margin.specs.declared.margin.LabelMargins.{LabelMargins}
use Rattle.dc_tables.specs.TableRows.{TableRows}

-- ---- the lines of a job, in the order of the verdict

-- the line of a condition: of which list, of which member, with its margin where it is told
abbrev pub line_at : CertificateList → ℕ → Condition → Option Margin → MarginLine
line_at list index condition margin = record { list = list; index = index; condition = condition; margin = margin }

-- the lines of a bus
abbrev pub input_lines_of : ℕ → InputMargins → List MarginLine
input_lines_of b m =
    line_at Inputs b WindowOutOfRange m.window
    ∷ line_at Inputs b DelayOutOfRange m.delay_limit
    ∷ line_at Inputs b WindowDoesNotClose m.closes
    ∷ line_at Inputs b BacklogTooSmall m.backlog
    ∷ line_at Inputs b QueueTooShort m.queue
    ∷ line_at Inputs b DelayTooSmall m.delay
    ∷ []

-- the lines of an output
abbrev pub output_lines_of : ℕ → OutputMargins → List MarginLine
output_lines_of o m =
    line_at Outputs o WindowOutOfRange m.window
    ∷ line_at Outputs o DelayOutOfRange m.delay_limit
    ∷ line_at Outputs o WindowDoesNotClose m.closes
    ∷ line_at Outputs o DelayTooSmall m.delay
    ∷ []

-- the lines of a label
abbrev pub label_lines_of : ℕ → LabelMargins → List MarginLine
label_lines_of x m =
    line_at Labels x SentTooSoon m.soon
    ∷ line_at Labels x SentTooLate m.late
    ∷ line_at Labels x AgeTooSmall m.age
    ∷ line_at Labels x AgeOverLimit m.age_limit
    ∷ line_at Labels x SourceGoesStale m.fresh
    ∷ []

-- those of a job
abbrev pub lines_in : MarginLines → List MarginLine
lines_in (Input lines) = lines
lines_in (Output lines) = lines
lines_in (Label lines) = lines

-- ---- the inputs, the outputs and the labels in one row, from 0

-- those of the job of this number
unfoldable pub job_lines_of : TableRows → CertificateRows → ℕ → List MarginLine
job_lines_of t c n =
    let inputs = length t.buses in
    let outputs = length t.outputs in
    if nat_lt n inputs then input_lines_of n (input_margins_of t n (input_bound c n))
    else if nat_lt n (inputs + outputs) then output_lines_of (n - inputs) (output_margins_of t (n - inputs) (output_bound c (n - inputs)))
    else label_lines_of (n - (inputs + outputs)) (label_margins_of t (n - (inputs + outputs)) c)

-- those of the jobs below n
unfoldable pub lines_below : (ℕ → List MarginLine) → ℕ → List MarginLine
lines_below lines zero = []
lines_below lines (suc n) = lines_below lines n ++ lines n

-- all of them
abbrev pub margin_lines_of : TableRows → CertificateRows → List MarginLine
margin_lines_of t c = lines_below (job_lines_of t c) (job_count t)

-- ---- where a line is

-- a source that decides is there
abbrev pub IsDeciderThere : TableRows → Decider → Type 0
IsDeciderThere t (Source s) = s < length t.streams
IsDeciderThere t _ = Unit {0}

-- the input, output or label is there, and so is the source that decides
pub record IsLinePlaced (t : TableRows) (line : MarginLine) : Type 0 where
  pub there : line.index < member_count t line.list
  pub decider : IfSome line.margin (λ m. IsDeciderThere t m.decider)

-- ---- the first negative one

-- the fault of a line, where its margin is negative; it names no window
abbrev pub line_fault : MarginLine → Option CheckFault
line_fault line = unless (is_kept line.margin) (fault_at line.list line.index line.condition 0)

-- the fault of the first line whose margin is negative
abbrev pub fault_of_lines : List MarginLine → Option CheckFault
fault_of_lines lines = first_of (map line_fault lines)

-- the first negative margin of a certificate
abbrev pub first_negative : TableRows → CertificateRows → Option CheckFault
first_negative t c = fault_of_lines (margin_lines_of t c)

-- a fault, its window left out
abbrev pub windowless : CheckFault → CheckFault
windowless fault = fault_at fault.list fault.index fault.condition 0

-- ---- what is counted

-- in words: C03, C04, C05; the others in ticks
abbrev pub measure_of : Condition → Measure
measure_of WindowDoesNotClose = Words
measure_of BacklogTooSmall = Words
measure_of QueueTooShort = Words
measure_of _ = Ticks
