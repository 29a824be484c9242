use Rattle.std.proofs.Common.{Err, ap, sym, ◌∙◌}
use Rattle.dc_cert.specs.Bounds.{certificate_rows}
use Rattle.dc_document.specs.Names.{text_of}
use Rattle.dc_seen.specs.Said.{line_said, one_output}
use Rattle.dc_seen.specs.lemmas.Joining.{row_refused, row_said}
use Rattle.dc_seen.specs.lemmas.Wanted.{output_row}
use Rattle.dc_seen.proofs.seen.next_output.Goals as goal

pub returns-in-Ok-read_output-clause-said : goal.returns-in-Ok-read_output-clause-said
returns-in-Ok-read_output-clause-said c =
    let t = c.args.tables.now in
    let rows = certificate_rows c.args.certificate.now in
    let k = c.args.place.lines in
    let line = c.in-Ok.found.0.now in
    let is = output_row t rows k c.args.output line c.text.result.now c.output_delay-delay.result c.requires.there c.requires.at (c.text.ensures.text ∙ ap text_of c.output_name.ensures) c.output_delay-delay.ensures in
    row_said _ _ k (line_said t rows k line) one_output _ c.in-Ok-read_output.numbers (c.in-Ok.ensures.said t rows) is (sym c.read_output.ensures ∙ c.in-Ok-read_output.is)

pub returns-in-Err-read_output-clause-said : goal.returns-in-Err-read_output-clause-said
returns-in-Err-read_output-clause-said c =
    let t = c.args.tables.now in
    let rows = certificate_rows c.args.certificate.now in
    let k = c.args.place.lines in
    let line = c.in-Ok.found.0.now in
    let is = output_row t rows k c.args.output line c.text.result.now c.output_delay-delay.result c.requires.there c.requires.at (c.text.ensures.text ∙ ap text_of c.output_name.ensures) c.output_delay-delay.ensures in
    row_refused _ _ k (line_said t rows k line) one_output _ c.in-Err-read_output.rule (c.in-Ok.ensures.said t rows) is (sym c.read_output.ensures ∙ c.in-Err-read_output.is) ∙ ap (λ f. Err f) (sym c.fault_at.ensures)
