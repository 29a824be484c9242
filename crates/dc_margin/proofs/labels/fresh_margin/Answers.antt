use Rattle.std.proofs.Common.{Some, sym, ap, ◌∙◌, w64}
use Rattle.std.proofs.lemmas.Int.{to_z-of_z}
use Rattle.dc_cert.specs.Bounds.{certificate_rows}
use Rattle.dc_margin.proofs.Told.{told-there}
use Rattle.dc_margin.specs.Margins.{room, margin_by, silence, fresh_margin_of}
use Rattle.dc_margin.specs.declared.margin.Decider.TheVariants.{Source}
use Rattle.dc_tables.specs.TableRows.{label_row}
use Rattle.dc_margin.proofs.labels.fresh_margin.Goals as goal

pub returns : goal.returns
returns c =
    let t = c.args.fitted.now.tables.now in
    let rows = certificate_rows c.args.fitted.now.certificate.now in
    let stale = (label_row c.args.fitted.now.tables.now c.args.label).stale in
    ap (λ m. Some m) (c.source_margin.ensures
    ∙ ap (λ z. margin_by z (Source c.rarest-source.result)) (to_z-of_z w64 c.difference.result (record { sfits = c.difference.type_inv }) ∙ c.difference.ensures
    ∙ ap (λ n. room n c.silence_of-silent.result) (c.from-stale.ensures ∙ ap (λ r. r.stale) c.label.ensures)
    ∙ ap (room stale) c.silence_of-silent.ensures.value)
    ∙ ap (λ s. fresh_margin_of stale (silence t rows s) s) c.rarest-source.ensures.source)
    ∙ told-there _ _ (sym c.if-not-are_in_range.ensures)
