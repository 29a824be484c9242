use Rattle.std.proofs.Common.{◌≡◌, true, false, rules}
use Rattle.csv.specs.Records.{fields_of}
use Rattle.dc_sheet.specs.Sheets.{is_passed, is_within}
use Rattle.dc_sheet.proofs.Wholes.{adds-output}
use Rattle.dc_sheet.proofs.outputs.add_output.Goals as goal

pub returns-in_ok-push_output-in-Ok : goal.returns-in_ok-push_output-in-Ok
returns-in_ok-push_output-in-Ok c = λ _.
    let passed : is_passed (fields_of c.args.line.now) ≡ false = search rules in
    let within : is_within c.args.titles.columns (fields_of c.args.line.now) ≡ true = search rules in
    let sources = rw c.in-Some.is at c.in_ok-sources.ensures in
    adds-output c.args.titles.commas c.args.titles.columns c.args.titles.flags.now c.args.titles.places.now c.args.number (fields_of c.args.line.now) c.args.rows.now.items c.push_output.new.rows.items c.in-Ok.row
    passed within (c.in-Ok.ensures c.args.titles.flags.now sources) c.in_ok-push_output-in-Ok.ensures
