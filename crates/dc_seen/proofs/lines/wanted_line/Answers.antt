use Rattle.std.proofs.Common.{Err, ap, sym, ◌∙◌}
use Rattle.dc_seen.proofs.Places.{missing_said, whole_said}
use Rattle.dc_seen.proofs.lines.wanted_line.Goals as goal

pub returns-in-Ok-None-clause-said : goal.returns-in-Ok-None-clause-said
returns-in-Ok-None-clause-said c = λ t rows wanted.
    missing_said t rows c.args.text.now c.args.place.before c.args.place.lines (rw c.in-Ok-None.field-0-is at c.in-Ok-None.ensures) wanted ∙ ap (λ f. Err f) (sym c.fault_at.ensures)

pub returns-in-Err-clause-said : goal.returns-in-Err-clause-said
returns-in-Err-clause-said c = λ t rows wanted. c.in-Err.ensures t rows c.args.place.lines ∙ ap (λ f. Err f) (sym c.fault_at-in-Err.ensures)

pub returns-clause-said : goal.returns-clause-said
returns-clause-said c = λ t rows. whole_said t rows c.args.text.now c.in-Ok-Some.line.now c.args.place.before c.args.place.lines (rw c.in-Ok-Some.field-0-is at c.in-Ok-Some.ensures)
