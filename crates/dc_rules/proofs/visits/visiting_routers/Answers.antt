use Rattle.std.proofs.Common.{◌∙◌}
use Rattle.std.specs.Str.{bytes_eq}
use Rattle.indexmap.specs.IndexMap.{get}
use Rattle.dc_rules.proofs.Visited.{visitors_are}
use Rattle.dc_rules.proofs.visits.visiting_routers.Goals as goal

pub returns : goal.returns
returns c = c.in_ok-all.ensures ∙ visitors_are c.args.routers.now c.args.buses.now (get bytes_eq c.in_ok-visits.visits.known) c.in_ok-visits.ensures
