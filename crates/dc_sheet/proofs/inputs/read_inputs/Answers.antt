use Rattle.std.proofs.Common.{map, ap}
use Rattle.csv.specs.Records.{fields_of}
use Rattle.dc_sheet.proofs.Wholes.{are-inputs}
use Rattle.dc_sheet.proofs.inputs.read_inputs.Goals as goal

pub returns : goal.returns
returns c = record { rows = are-inputs c.args.text.now c.separator-commas.result (map fields_of c.in_ok-records.records.items) (map fields_of c.deref.result.now) c.input_sheet.result c.separator-commas.ensures (ap (map fields_of) c.deref.ensures.value) c.in_ok-records.ensures c.input_sheet.ensures }
