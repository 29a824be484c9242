use Rattle.std.proofs.Common.{◌∙◌}
use Rattle.std.specs.Str.{bytes_eq}
use Rattle.indexmap.specs.IndexMap.{get}
use Rattle.dc_rules.proofs.Visited.{unserved_is}
use Rattle.dc_rules.proofs.references.first_unserved.Goals as goal

pub returns : goal.returns
returns c = c.first_unserved.ensures ∙ unserved_is c.args.routers.now c.args.buses.now (get bytes_eq c.in_ok-visits.visits.known) c.in_ok-visits.ensures
