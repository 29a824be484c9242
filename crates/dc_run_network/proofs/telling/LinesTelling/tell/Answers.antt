use Rattle.std.proofs.Common.{List, length, ap}
use Rattle.dc_system_text.specs.declared.parts.LinkText.{LinkText}
use Rattle.dc_run_network.specs.lemmas.Accepting.{lines-told}
use Rattle.dc_run_network.proofs.telling.LinesTelling.tell.Goals as goal

pub returns : goal.returns
returns c =
    lines-told c.tell_ways.result c.args.system.now c.args.members.now c.concentrators.result.now (length c.links.result.now) c.args.ways.now c.tell_ways.new.page
    c.concentrators.ensures (ap (λ (z : List LinkText). length z) c.links.ensures) c.tell_ways.ensures
