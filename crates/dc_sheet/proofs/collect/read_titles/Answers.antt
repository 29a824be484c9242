use Rattle.std.proofs.Common.{ℕ, Bool, Some, ap, ◌∙◌}
use Rattle.csv.specs.Records.{fields_of}
use Rattle.dc_cell.specs.Titles.{key_of}
use Rattle.dc_sheet.specs.Places.{cell_at, is_clear}
use Rattle.dc_sheet.proofs.Steps.{clear-more}
use Rattle.dc_sheet.proofs.collect.read_titles.Goals as goal

pub loop-place-preserved : goal.loop-place-preserved
loop-place-preserved c =
    let f : ℕ → Bool = λ other. is_clear c.args.sheet (key_of (cell_at (fields_of c.args.header.now) (Some other))) in
    let key = ap key_of c.cell-title.ensures in
    clear-more f c.loop-place.place c.loop-place.clear (is_clear c.args.sheet c.deref.result.now) c.is_still_clear-clear.result c.is_still_clear-clear.ensures
    (ap (is_clear c.args.sheet) (c.deref.ensures.value ∙ c.in_ok-key.ensures ∙ key)) c.loop-place.invariant
