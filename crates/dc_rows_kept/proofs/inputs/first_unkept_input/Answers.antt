use Rattle.std.proofs.Common.{not, List, sym, ap, ◌∙◌}
use Rattle.std.specs.List.{list_any, position_from}
use Rattle.std.proofs.lemmas.Iterator.Adapters.{position_from-zero}
use Rattle.dc_document.specs.declared.parts.StreamPart.{StreamPart}
use Rattle.dc_rows_kept.specs.KeepsRows.{HasStream}
use Rattle.dc_rows_kept.specs.Tests.{has_stream, keeps_input}
use Rattle.dc_rows_kept.proofs.Deciding.{decides_has_stream, first_without}
use Rattle.dc_rows_kept.proofs.inputs.first_unkept_input.Goals as goal

pub returns : goal.returns
returns c =
    let parts = c.args.parts.now in
    let rows = c.args.sheet.now.rows.items in
    let all = ap (λ (xs : List StreamPart). position_from (λ row. not (list_any (keeps_input parts row) xs)) 0 c.deref.result.now) c.streams.ensures in
    let same = ap (position_from (λ row. not (has_stream parts row)) 0) c.deref.ensures.value in
    first_without (has_stream parts) (HasStream parts) (decides_has_stream parts) rows _ (c.place_without.ensures ∙ all ∙ same ∙ sym (position_from-zero (λ row. not (has_stream parts row)) rows))
