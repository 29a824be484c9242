use Rattle.std.proofs.Common.{◌==◌, sym}
use Rattle.std.proofs.lemmas.Iterator.Adapters.{position_from-zero}
use Rattle.dc_system_text.proofs.ends.dot_in.Goals as goal

pub loop-index-init : goal.loop-index-init
loop-index-init c = sym (position_from-zero (λ b. b == 46) c.args.text.now)
