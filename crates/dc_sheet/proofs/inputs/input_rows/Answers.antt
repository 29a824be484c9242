use Rattle.std.proofs.Common.{◌≡◌, ◌+◌, true, map, rules, arith}
use Rattle.csv.specs.Records.{fields_of}
use Rattle.dc_sheet.specs.Sheets.{InputsBefore}
use Rattle.dc_sheet.proofs.Steps.{inputs-add, record_at-here}
use Rattle.dc_sheet.proofs.inputs.input_rows.Goals as goal

pub loop-i-init : goal.loop-i-init
unfolding InputsBefore
loop-i-init c = c.new-rows.ensures.items

pub loop-i-preserved : goal.loop-i-preserved
loop-i-preserved c =
    let same : c.in-Ok.number ≡ c.loop-i.i + 2 = search rules in
    let well : c.in_ok-add_input.field-0 ≡ true = search rules in
    inputs-add c.args.commas c.args.columns c.args.places.now (map fields_of c.args.records.now) c.loop-i.i c.in-Ok.number (fields_of c.index-records-i.result) c.loop-i.rows.items c.add_input.new.rows.items
    same (record_at-here c.args.records.now c.loop-i.i c.index-records-i.result (omega arith) c.index-records-i.is) c.loop-i.invariant (c.in_ok-add_input.ensures well)
