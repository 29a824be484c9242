use Rattle.std.proofs.Common.{◌≡◌, ◌<◌, length, true, false, rules, arith}
use Rattle.csv.specs.Records.{fields_of}
use Rattle.dc_sheet.specs.Sheets.{is_empty_cell}
use Rattle.dc_sheet.proofs.Steps.{not-empty-here, empty-more}
use Rattle.dc_sheet.proofs.sheet.are_empty_from.Goals as goal

pub returns-then-not-is_empty : goal.returns-then-not-is_empty
returns-then-not-is_empty c =
    let there : c.loop-place.place < length (fields_of c.args.line.now) = omega arith in
    let some : is_empty_cell c.cell.result.now ≡ false = search rules in
    not-empty-here (fields_of c.args.line.now) c.loop-place.place c.args.first c.cell.result.now there c.cell.ensures some c.loop-place.invariant

pub loop-place-preserved : goal.loop-place-preserved
loop-place-preserved c =
    let there : c.loop-place.place < length (fields_of c.args.line.now) = omega arith in
    let none : is_empty_cell c.cell.result.now ≡ true = search rules in
    empty-more (fields_of c.args.line.now) c.loop-place.place c.args.first c.cell.result.now there c.cell.ensures none c.loop-place.invariant
