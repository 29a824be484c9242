use Rattle.std.proofs.Common.{not, List, sym, ap, ◌∙◌}
use Rattle.std.specs.List.{list_any, position_from}
use Rattle.std.proofs.lemmas.Iterator.Adapters.{position_from-zero}
use Rattle.dc_document.specs.declared.parts.LabelPart.{LabelPart}
use Rattle.dc_rows_kept.specs.KeepsRows.{HasLabel}
use Rattle.dc_rows_kept.specs.Tests.{has_label, keeps_output}
use Rattle.dc_rows_kept.proofs.Deciding.{decides_has_label, first_without}
use Rattle.dc_rows_kept.proofs.outputs.first_unkept_output.Goals as goal

pub returns : goal.returns
returns c =
    let parts = c.args.parts.now in
    let rows = c.args.sheet.now.rows.items in
    let all = ap (λ (xs : List LabelPart). position_from (λ row. not (list_any (keeps_output parts row) xs)) 0 c.deref.result.now) c.labels.ensures in
    let same = ap (position_from (λ row. not (has_label parts row)) 0) c.deref.ensures.value in
    first_without (has_label parts) (HasLabel parts) (decides_has_label parts) rows _ (c.place_without.ensures ∙ all ∙ same ∙ sym (position_from-zero (λ row. not (has_label parts row)) rows))
