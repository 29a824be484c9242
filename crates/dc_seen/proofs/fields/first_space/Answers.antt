use Rattle.dc_seen.proofs.Splitting.{fields_none}
use Rattle.dc_seen.proofs.fields.first_space.Goals as goal

pub loop-i-init : goal.loop-i-init
loop-i-init c = fields_none c.args.text.now
