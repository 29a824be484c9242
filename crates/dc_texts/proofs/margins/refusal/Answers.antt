use Rattle.dc_texts.proofs.Printed.{refusal_told}
use Rattle.dc_texts.proofs.margins.refusal.Goals as goal

pub returns : goal.returns
returns c = refusal_told c.args.tables.now c.args.certificate.now c.judge.result c.err.result c.reported.result c.err.ensures.value c.judge.ensures c.reported.ensures
