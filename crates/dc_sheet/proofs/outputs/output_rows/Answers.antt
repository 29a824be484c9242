use Rattle.std.proofs.Common.{◌≡◌, ◌+◌, true, map, rules, arith}
use Rattle.csv.specs.Records.{fields_of}
use Rattle.dc_sheet.specs.Sheets.{OutputsBefore}
use Rattle.dc_sheet.proofs.Steps.{outputs-add, record_at-here}
use Rattle.dc_sheet.proofs.outputs.output_rows.Goals as goal

pub loop-i-init : goal.loop-i-init
unfolding OutputsBefore
loop-i-init c = c.new-rows.ensures.items

pub loop-i-preserved : goal.loop-i-preserved
loop-i-preserved c =
    let same : c.in-Ok.number ≡ c.loop-i.i + 2 = search rules in
    let well : c.in_ok-add_output.field-0 ≡ true = search rules in
    outputs-add c.args.titles.commas c.args.titles.columns c.args.titles.flags.now c.args.titles.places.now (map fields_of c.args.records.now) c.loop-i.i c.in-Ok.number (fields_of c.index-records-i.result) c.loop-i.rows.items c.add_output.new.rows.items
    same (record_at-here c.args.records.now c.loop-i.i c.index-records-i.result (omega arith) c.index-records-i.is) c.loop-i.invariant (c.in_ok-add_output.ensures well)
