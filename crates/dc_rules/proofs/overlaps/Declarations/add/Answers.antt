use Rattle.std.proofs.Common.{ap, ◌∙◌}
use Rattle.dc_rules.specs.Declarations.{same_place}
use Rattle.indexmap.specs.IndexSet.{insert_key}
use Rattle.dc_rules.proofs.overlaps.Declarations.add.Goals as goal

pub returns-clause-labels : goal.returns-clause-labels
returns-clause-labels c = c.in_ok-insert.ensures.keys ∙ ap (λ k. insert_key same_place c.args.self.now.labels.keys k) c.place_of.ensures
