use Rattle.std.proofs.Common.{sym}
use Rattle.std.proofs.lemmas.Iterator.Adapters.{position_from-zero}
use Rattle.dc_system_text.specs.System.{is_reversed}
use Rattle.dc_system_text.proofs.rules.first_reversed.Goals as goal

pub loop-index-init : goal.loop-index-init
loop-index-init c = sym (position_from-zero is_reversed c.args.links.now)
