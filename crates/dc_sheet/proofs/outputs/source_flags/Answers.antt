use Rattle.csv.specs.Records.{fields_of}
use Rattle.dc_cell.specs.declared.titles.Column.TheVariants as col
use Rattle.dc_sheet.specs.Places.{is_titled}
use Rattle.dc_sheet.proofs.Steps.{flags-more}
use Rattle.dc_sheet.proofs.outputs.source_flags.Goals as goal

pub loop-place-preserved : goal.loop-place-preserved
loop-place-preserved c =
    let inv = c.loop-place.invariant in
    let more = flags-more (is_titled col.Sources (fields_of c.args.header.now)) c.loop-place.flags.items c.push.new.self.items c.in_ok-flag.flag c.loop-place.place c.in_ok-push.ensures.items inv.all c.in_ok-flag.ensures inv.each in
    record { all = more.0; each = more.1 }
