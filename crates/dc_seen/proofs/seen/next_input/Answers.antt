use Rattle.std.proofs.Common.{Err, ap, sym, ◌∙◌}
use Rattle.dc_cert.specs.Bounds.{certificate_rows}
use Rattle.dc_document.specs.Names.{text_of}
use Rattle.dc_seen.specs.Said.{line_said, one_input}
use Rattle.dc_seen.specs.lemmas.Joining.{row_refused, row_said}
use Rattle.dc_seen.specs.lemmas.Wanted.{input_row}
use Rattle.dc_seen.proofs.seen.next_input.Goals as goal

pub returns-in-Ok-read_input-clause-said : goal.returns-in-Ok-read_input-clause-said
returns-in-Ok-read_input-clause-said c =
    let t = c.args.tables.now in
    let rows = certificate_rows c.args.certificate.now in
    let k = c.args.place.lines in
    let line = c.in-Ok.found.0.now in
    let is = input_row t rows k c.args.bus line c.text.result.now c.input_bounds-bounds.result.backlog c.input_bounds-bounds.result.delay c.requires.there c.requires.at (c.text.ensures.text ∙ ap text_of c.bus_name.ensures) c.input_bounds-bounds.ensures.backlog c.input_bounds-bounds.ensures.delay in
    row_said _ _ k (line_said t rows k line) one_input _ c.in-Ok-read_input.numbers (c.in-Ok.ensures.said t rows) is (sym c.read_input.ensures ∙ c.in-Ok-read_input.is)

pub returns-in-Err-read_input-clause-said : goal.returns-in-Err-read_input-clause-said
returns-in-Err-read_input-clause-said c =
    let t = c.args.tables.now in
    let rows = certificate_rows c.args.certificate.now in
    let k = c.args.place.lines in
    let line = c.in-Ok.found.0.now in
    let is = input_row t rows k c.args.bus line c.text.result.now c.input_bounds-bounds.result.backlog c.input_bounds-bounds.result.delay c.requires.there c.requires.at (c.text.ensures.text ∙ ap text_of c.bus_name.ensures) c.input_bounds-bounds.ensures.backlog c.input_bounds-bounds.ensures.delay in
    row_refused _ _ k (line_said t rows k line) one_input _ c.in-Err-read_input.rule (c.in-Ok.ensures.said t rows) is (sym c.read_input.ensures ∙ c.in-Err-read_input.is) ∙ ap (λ f. Err f) (sym c.fault_at.ensures)
