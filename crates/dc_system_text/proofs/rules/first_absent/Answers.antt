use Rattle.std.proofs.Common.{map, sym}
use Rattle.std.proofs.lemmas.Iterator.Adapters.{position_from-zero}
use Rattle.dc_system_text.specs.System.{ConcentratorRow, is_absent}
use Rattle.dc_system_text.proofs.rules.first_absent.Goals as goal

pub loop-index-init : goal.loop-index-init
loop-index-init c = sym (position_from-zero (is_absent (map (λ (c : ConcentratorRow). c.name) c.args.concentrators.now)) c.args.links.now)
