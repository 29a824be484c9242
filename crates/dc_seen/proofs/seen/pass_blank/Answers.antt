use Rattle.std.proofs.Common.{◌≡◌, Err, ap, arith, length, sym, ◌∙◌}
use Rattle.std.proofs.lemmas.Bool.{eqb-false, eqb-true}
use Rattle.dc_event.specs.TraceText.{fields_of}
use Rattle.dc_seen.specs.Kinds.{kind_of, surplus}
use Rattle.dc_seen.specs.Reading.{line_fault}
use Rattle.dc_seen.specs.Said.{line_said, row_count}
use Rattle.dc_seen.specs.lemmas.Joining.{nothing_more, surplus_refused}
use Rattle.dc_seen.specs.lemmas.Wanted.{blank_at, other_at}
use Rattle.dc_seen.proofs.seen.pass_blank.Goals as goal

pub returns-then-is_empty-clause-said : goal.returns-then-is_empty-clause-said
returns-then-is_empty-clause-said c = λ rows.
    let t = c.args.tables.now in
    let k = c.args.place.lines in
    let line = c.in-Ok.found.0.now in
    let none : row_count t ≡ 0 = omega (arith, c.row_count.ensures, c.if-row_count-gt0.false) in
    let first : k ≡ 0 = omega (arith, c.requires.at, none) in
    nothing_more _ _ k (line_said t rows k line) (c.in-Ok.ensures.said t rows) (blank_at t rows k line first none (eqb-true (length line) 0 (sym c.is_empty.ensures ∙ c.if-is_empty.true)))

pub returns-clause-said : goal.returns-clause-said
returns-clause-said c = λ rows.
    let t = c.args.tables.now in
    let k = c.args.place.lines in
    let line = c.in-Ok.found.0.now in
    let none : row_count t ≡ 0 = omega (arith, c.row_count.ensures, c.if-row_count-gt0.false) in
    let first : k ≡ 0 = omega (arith, c.requires.at, none) in
    surplus_refused _ _ k (line_said t rows k line) (surplus (kind_of (fields_of line))) (c.in-Ok.ensures.said t rows)
    (other_at t rows k line first none (eqb-false (length line) 0 (sym c.is_empty.ensures ∙ c.if-is_empty.false)))
    ∙ ap (λ f. Err f) (ap (line_fault k) (sym c.surplus.ensures) ∙ sym c.fault_at.ensures)
