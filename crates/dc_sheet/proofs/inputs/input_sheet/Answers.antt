use Rattle.std.proofs.Common.{rules}
use Rattle.dc_sheet.proofs.Wholes.{say-inputs}
use Rattle.dc_sheet.proofs.inputs.input_sheet.Goals as goal

pub returns-in-Ok-Some : goal.returns-in-Ok-Some
returns-in-Ok-Some c =
    say-inputs c.args.commas c.args.records.now c.in-Some.lines.now c.in-Some.header.now c.len.result c.in-Ok.places c.in-Ok-Some.rows.items (search rules) c.in_ok-read.ensures c.in-Ok.ensures c.len.ensures (rw c.in-Ok-Some.field-0-is at c.in-Ok-Some.ensures)
