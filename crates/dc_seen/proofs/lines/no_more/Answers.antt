use Rattle.std.proofs.Common.{Err, ap, sym, ◌∙◌}
use Rattle.dc_event.specs.TraceText.{fields_of}
use Rattle.dc_seen.specs.Kinds.{kind_of, surplus}
use Rattle.dc_seen.specs.Reading.{line_fault}
use Rattle.dc_seen.specs.Said.{line_said}
use Rattle.dc_seen.specs.lemmas.Joining.{surplus_refused}
use Rattle.dc_seen.specs.lemmas.Wanted.{surplus_line}
use Rattle.dc_seen.proofs.Places.{ended_said, whole_said}
use Rattle.dc_seen.proofs.lines.no_more.Goals as goal

pub returns-in-Ok-None : goal.returns-in-Ok-None
returns-in-Ok-None c = λ t rows past. ended_said t rows c.args.text.now c.args.place.before c.args.place.lines (rw c.in-Ok-None.field-0-is at c.in-Ok-None.ensures) past

pub returns-in-Ok-Some : goal.returns-in-Ok-Some
returns-in-Ok-Some c = λ t rows past.
    let k = c.args.place.lines in
    let line = c.in-Ok-Some.line.now in
    let whole = rw c.in-Ok-Some.field-0-is at c.in-Ok-Some.ensures in
    surplus_refused _ _ k (line_said t rows k line) (surplus (kind_of (fields_of line))) (whole_said t rows c.args.text.now line c.args.place.before k whole) (surplus_line t rows k line past)
    ∙ ap (λ f. Err f) (ap (line_fault k) (sym c.surplus.ensures) ∙ sym c.fault_at.ensures)

pub returns-in-Err : goal.returns-in-Err
returns-in-Err c = λ t rows past. c.in-Err.ensures t rows c.args.place.lines ∙ ap (λ f. Err f) (sym c.fault_at-in-Err.ensures)
