use Rattle.std.proofs.Common.{◌≡◌, ◌+◌, ◌<◌, [], length, refl, sym, ap, ◌∙◌, arith}
use Rattle.std.specs.Prelude.{nat_le, slice_index}
use Rattle.std.specs.List.{list_all}
use Rattle.dc_cert.specs.Bounds.{output_bound, certificate_rows}
use Rattle.dc_check.specs.lemmas.CertificateReads.{outputs-count, ages-count, output-read, age-read}
use Rattle.dc_check.specs.lemmas.Firsts.{rule-same, rules-same}
use Rattle.dc_check.specs.Accepts.{gaps_of, label_delay, source_delay}
use Rattle.dc_check.specs.Verdict.{first_of}
use Rattle.dc_tables.specs.TableRows.{label_row}
use Rattle.dc_tables.specs.declared.rows.OutputLabel.{OutputLabel}
use Rattle.dc_check.proofs.labels.label_fault.Goals as goal

pub returns : goal.returns
returns c =
    let output_there : c.label.result.now.output < length c.args.fitted.now.certificate.now.outputs.items =
    omega (arith, c.valid.ensures.labels_on_outputs c.args.label c.requires.there, ap (λ (r : OutputLabel). r.output) c.label.ensures, c.args.fitted.now.sized.outputs, outputs-count c.args.fitted.now.certificate.now) in
    let label_there : c.args.label < length c.args.fitted.now.certificate.now.labels.items = omega (arith, c.requires.there, c.args.fitted.now.sized.labels, ages-count c.args.fitted.now.certificate.now) in
    let delay : c.index.result.now.delay ≡ label_delay c.args.fitted.now.tables.now (certificate_rows c.args.fitted.now.certificate.now) c.args.label =
    ap (λ r. r.delay) (sym (output-read c.args.fitted.now.certificate.now c.label.result.now.output c.index.result.now output_there c.index.ensures))
    ∙ ap (λ (r : OutputLabel). (output_bound (certificate_rows c.args.fitted.now.certificate.now) r.output).delay) c.label.ensures in
    let age : c.index-2.result.now.age ≡ slice_index (certificate_rows c.args.fitted.now.certificate.now).ages c.args.label = sym (age-read c.args.fitted.now.certificate.now c.args.label c.index-2.result.now label_there c.index-2.ensures) in
    let soon = rule-same _ _ _ _ _ c.fault_unless.ensures
    (c.are_not_soon.ensures ∙ ap (λ d. list_all (λ g. nat_le ((label_row c.args.fitted.now.tables.now c.args.label).minimum + d) g) (gaps_of c.args.fitted.now.tables.now c.args.label)) delay) c.fault.ensures in
    let late = rule-same _ _ _ _ _ c.fault_unless-2.ensures
    (c.are_not_late.ensures ∙ ap (λ d. list_all (λ g. nat_le (g + d) (label_row c.args.fitted.now.tables.now c.args.label).maximum) (gaps_of c.args.fitted.now.tables.now c.args.label)) delay) c.fault-2.ensures in
    let aged = rule-same _ _ _ _ _ c.fault_unless-3.ensures
    (c.are_within.ensures ∙ ap (λ a. list_all (λ s. nat_le ((label_row c.args.fitted.now.tables.now c.args.label).stale + source_delay c.args.fitted.now.tables.now (certificate_rows c.args.fitted.now.certificate.now) s) a) (label_row c.args.fitted.now.tables.now c.args.label).sources) age) c.fault-3.ensures in
    let limited = rule-same _ _ _ _ _ c.fault_unless-4.ensures
    (ap (λ a. nat_le a c.label-2.result.now.age_limit) age ∙ ap (λ (r : OutputLabel). nat_le (slice_index (certificate_rows c.args.fitted.now.certificate.now).ages c.args.label) r.age_limit) c.label-2.ensures) c.fault-4.ensures in
    let fresh = rule-same _ _ _ _ _ c.fault_unless-5.ensures c.stay_fresh.ensures c.fault-5.ensures in
    c.first_fault.ensures
    ∙ ap first_of (rules-same _ _ _ _ soon (rules-same _ _ _ _ late (rules-same _ _ _ _ aged (rules-same _ _ _ _ limited (rules-same _ _ [] [] fresh refl)))))
