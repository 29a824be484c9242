-- The lines of what was found of tables, where a delay that is out of range stands for none: no margin that rests on it is told.
use Rattle.std.specs.Prelude.{ℕ, Bool, true, false, not, ◌&&◌, if◌then◌else◌, None}
use Rattle.dc_cert.specs.Bounds.{CertificateRows, input_bound, output_bound}
use Rattle.dc_check.specs.Verdict.{is_delay}
use Rattle.dc_check.specs.declared.fault.CertificateList.{CertificateList}
use Rattle.dc_check.specs.declared.fault.CertificateList.TheVariants.{Inputs, Outputs, Labels}
use Rattle.dc_check.specs.declared.fault.Condition.{Condition}
use Rattle.dc_check.specs.declared.fault.Condition.TheVariants.{BacklogTooSmall, QueueTooShort, DelayTooSmall, DelayOutOfRange, AgeTooSmall, AgeOverLimit, SourceGoesStale}
use Rattle.dc_margin.specs.Lines.{line_at}
use Rattle.dc_margin.specs.Margins.{are_in_range}
use Rattle.dc_margin.specs.declared.lines.MarginLine.{MarginLine}
use Rattle.dc_tables.specs.TableRows.{TableRows}

-- whether the delay of an input or output was found, and so its backlog; of a label those of its sources' buses, and so its age
abbrev pub is_found : TableRows → CertificateRows → CertificateList → ℕ → Bool
is_found t c Inputs b = is_delay (input_bound c b).delay
is_found t c Outputs o = is_delay (output_bound c o).delay
is_found t c Labels x = are_in_range t c x

-- whether a margin rests on that; C08 and C09, on the delay of the label's output, are not told by themselves where it is none
abbrev pub rests_on_found : Condition → Bool
rests_on_found BacklogTooSmall = true
rests_on_found QueueTooShort = true
rests_on_found DelayTooSmall = true
rests_on_found DelayOutOfRange = true
rests_on_found AgeTooSmall = true
rests_on_found AgeOverLimit = true
rests_on_found SourceGoesStale = true
rests_on_found _ = false

-- the line, its margin not told where it rests on what was not found
abbrev pub found_line_of : TableRows → CertificateRows → MarginLine → MarginLine
found_line_of t c line =
    line_at line.list line.index line.condition
    (if rests_on_found line.condition && not (is_found t c line.list line.index) then None else line.margin)
