use Rattle.std.proofs.Common.{Err, ap, sym, ◌∙◌}
use Rattle.dc_cert.specs.Bounds.{certificate_rows}
use Rattle.dc_document.specs.Names.{text_of}
use Rattle.dc_seen.specs.Said.{line_said, one_label}
use Rattle.dc_seen.specs.lemmas.Joining.{row_refused, row_said}
use Rattle.dc_seen.specs.lemmas.Wanted.{label_row_said}
use Rattle.dc_seen.proofs.seen.next_label.Goals as goal

pub returns-in-Ok-read_label-clause-said : goal.returns-in-Ok-read_label-clause-said
returns-in-Ok-read_label-clause-said c =
    let t = c.args.tables.now in
    let rows = certificate_rows c.args.certificate.now in
    let k = c.args.place.lines in
    let line = c.in-Ok.found.0.now in
    let is = label_row_said t rows k c.args.label line c.text.result.now c.label_bounds-bounds.result.age c.label_bounds-bounds.result.minimum c.label_bounds-bounds.result.maximum c.requires.there c.requires.at (c.text.ensures.text ∙ ap text_of c.label_name.ensures) c.label_bounds-bounds.ensures.age c.label_bounds-bounds.ensures.minimum c.label_bounds-bounds.ensures.maximum in
    row_said _ _ k (line_said t rows k line) one_label _ c.in-Ok-read_label.numbers (c.in-Ok.ensures.said t rows) is (sym c.read_label.ensures ∙ c.in-Ok-read_label.is)

pub returns-in-Err-read_label-clause-said : goal.returns-in-Err-read_label-clause-said
returns-in-Err-read_label-clause-said c =
    let t = c.args.tables.now in
    let rows = certificate_rows c.args.certificate.now in
    let k = c.args.place.lines in
    let line = c.in-Ok.found.0.now in
    let is = label_row_said t rows k c.args.label line c.text.result.now c.label_bounds-bounds.result.age c.label_bounds-bounds.result.minimum c.label_bounds-bounds.result.maximum c.requires.there c.requires.at (c.text.ensures.text ∙ ap text_of c.label_name.ensures) c.label_bounds-bounds.ensures.age c.label_bounds-bounds.ensures.minimum c.label_bounds-bounds.ensures.maximum in
    row_refused _ _ k (line_said t rows k line) one_label _ c.in-Err-read_label.rule (c.in-Ok.ensures.said t rows) is (sym c.read_label.ensures ∙ c.in-Err-read_label.is) ∙ ap (λ f. Err f) (sym c.fault_at.ensures)
