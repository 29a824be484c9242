use Rattle.std.proofs.Common.{ap, ◌∙◌}
use Rattle.std.specs.Str.{bytes_eq}
use Rattle.indexmap.specs.IndexMap.{get}
use Rattle.dc_rules.specs.Visits.{with_visit}
use Rattle.dc_rules.proofs.Visited.{visit_put}
use Rattle.dc_rules.proofs.visits.Visits.add.Goals as goal

pub returns : goal.returns
returns c n =
    visit_put (get bytes_eq c.args.self.now.known) (get bytes_eq c.insert.new.self n) c.args.name.now n c.args.router c.after_visit-visitors.result
    (c.after_visit-visitors.ensures ∙ ap (λ v. with_visit v c.args.router) c.of.ensures) (c.in_ok-insert.ensures.updates.0 n)
