use Rattle.dc_texts.proofs.Printed.{least_told}
use Rattle.dc_texts.proofs.margins.least_refusal.Goals as goal

pub returns : goal.returns
returns c = least_told c.args.tables.now c.find_text.result c.err.result c.least_reported.result c.err.ensures.value c.find_text.ensures c.least_reported.ensures
