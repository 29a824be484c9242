use Rattle.std.proofs.Common.{◌≡◌, true, Some, ap, sym, rules}
use Rattle.csv.specs.Records.{fields_of}
use Rattle.dc_sheet.specs.Sheets.{sources_before}
use Rattle.dc_sheet.proofs.Steps.{sources-more}
use Rattle.dc_sheet.proofs.outputs.sources_of.Goals as goal

pub loop-place-init : goal.loop-place-init
unfolding sources_before
loop-place-init c = ap Some (sym c.new-names.ensures.items)

pub loop-place-preserved : goal.loop-place-preserved
loop-place-preserved c =
    let well : c.in_ok-add_sources.field-0 ≡ true = search rules in
    sources-more c.args.flags.now (fields_of c.args.line.now) c.loop-place.place c.loop-place.names.items c.add_sources.new.names.items c.loop-place.invariant (c.in_ok-add_sources.ensures well)
