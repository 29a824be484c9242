use Rattle.dc_capture.proofs.FieldLemmas.{too_many}
use Rattle.dc_capture.proofs.line.read_line.Goals as goal

pub returns-in_default-split_field-2-clause-word : goal.returns-in_default-split_field-2-clause-word
returns-in_default-split_field-2-clause-word c =
    too_many c.args.buses.now c.args.latest c.args.line.now c.in-Some.time.now c.in-Some.rest.now c.in-Some-split_field.bus.now c.in-Some-split_field.word.now
    c.in_default-split_field-2.field-0.0.now c.in_default-split_field-2.field-0.1.now c.in-Some.ensures c.in-Some-split_field.ensures c.in_default-split_field-2.ensures
