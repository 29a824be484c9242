use Rattle.std.proofs.Common.{Bool, List, rules, subst, sym}
use Rattle.csv.specs.Records.{fields_of}
use Rattle.dc_sheet.specs.Sheets.{AreSources}
use Rattle.dc_sheet.proofs.Wholes.{say-outputs}
use Rattle.dc_sheet.proofs.outputs.output_sheet.Goals as goal

pub returns-in-Ok-Some : goal.returns-in-Ok-Some
returns-in-Ok-Some c =
    let sources = subst (λ (flags : List Bool). AreSources (fields_of c.in-Some.header.now) flags) (sym c.deref.ensures.value) c.in-Ok-source_flags.ensures in
    say-outputs c.args.commas c.args.records.now c.in-Some.lines.now c.in-Some.header.now c.len.result c.deref.result.now c.in-Ok.places c.in-Ok-Some.rows.items (search rules) c.in_ok-read.ensures c.in-Ok.ensures sources c.len.ensures (rw c.in-Ok-Some.field-0-is at c.in-Ok-Some.ensures)
