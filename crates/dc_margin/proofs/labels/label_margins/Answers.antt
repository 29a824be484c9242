use Rattle.std.proofs.Common.{◌≡◌, ◌<◌, Some, length, sym, ap, ◌∙◌, arith}
use Rattle.std.specs.Prelude.{slice_index}
use Rattle.dc_cert.specs.Bounds.{output_bound, certificate_rows}
use Rattle.dc_check.specs.Accepts.{label_delay, source_delay}
use Rattle.dc_check.specs.Verdict.{is_delay}
use Rattle.dc_check.specs.lemmas.CertificateReads.{outputs-count, ages-count, output-read, age-read}
use Rattle.dc_margin.proofs.Sources.{label-same}
use Rattle.dc_margin.specs.Margins.{told, slowest_source, are_in_range, soon_margin_of, late_margin_of, age_margin_of, age_limit_margin_of}
use Rattle.dc_tables.specs.TableRows.{label_row}
use Rattle.dc_tables.specs.declared.rows.OutputLabel.{OutputLabel}
use Rattle.dc_transmit.specs.Schedule.{schedule_of, least_label_gap, greatest_label_gap}
use Rattle.dc_margin.proofs.labels.label_margins.Goals as goal

pub returns : goal.returns
returns c =
    let t = c.args.fitted.now.tables.now in
    let rows = certificate_rows c.args.fitted.now.certificate.now in
    let x = c.args.label in
    let row = label_row c.args.fitted.now.tables.now c.args.label in
    let output_there : c.label.result.now.output < length c.args.fitted.now.certificate.now.outputs.items =
    omega (arith, c.valid.ensures.labels_on_outputs c.args.label c.requires.there, ap (λ (r : OutputLabel). r.output) c.label.ensures, c.args.fitted.now.sized.outputs, outputs-count c.args.fitted.now.certificate.now) in
    let label_there : c.args.label < length c.args.fitted.now.certificate.now.labels.items = omega (arith, c.requires.there, c.args.fitted.now.sized.labels, ages-count c.args.fitted.now.certificate.now) in
    let delay : c.index.result.now.delay ≡ label_delay c.args.fitted.now.tables.now (certificate_rows c.args.fitted.now.certificate.now) c.args.label =
    ap (λ r. r.delay) (sym (output-read c.args.fitted.now.certificate.now c.label.result.now.output c.index.result.now output_there c.index.ensures))
    ∙ ap (λ (r : OutputLabel). (output_bound (certificate_rows c.args.fitted.now.certificate.now) r.output).delay) c.label.ensures in
    let age : c.index-2.result.now.age ≡ slice_index (certificate_rows c.args.fitted.now.certificate.now).ages c.args.label = sym (age-read c.args.fitted.now.certificate.now c.args.label c.index-2.result.now label_there c.index-2.ensures) in
    label-same _ _ (c.soon_margin.ensures ∙ ap (λ d. told (is_delay d) (soon_margin_of (least_label_gap (schedule_of t row.output) x) row.minimum d)) delay)
    _ _ (c.late_margin.ensures ∙ ap (λ d. told (is_delay d) (late_margin_of (greatest_label_gap (schedule_of t row.output) x) row.maximum d)) delay)
    _ _ (c.age_margin.ensures ∙ ap (λ a. told (are_in_range t rows x) (age_margin_of a row.stale (source_delay t rows (slowest_source t rows x)) (slowest_source t rows x))) age)
    _ _ (ap (λ m. Some m) (c.age_limit_margin.ensures ∙ ap (λ (r : OutputLabel). age_limit_margin_of r.age_limit c.index-2.result.now.age) c.label-2.ensures ∙ ap (age_limit_margin_of row.age_limit) age))
    _ _ c.fresh_margin.ensures
