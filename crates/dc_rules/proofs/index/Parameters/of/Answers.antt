use Rattle.dc_rules.specs.lemmas.Found.{never_refused, small_rows}
use Rattle.dc_rules.proofs.index.Parameters.of.Goals as goal

pub add-requires : goal.add-requires
add-requires c = never_refused c.args.parameters.now c.loop-row.rows c.loop-row.row-index c.row-item.result c.loop-row.invariant c.loop-row-test.true c.row-item.is c.requires.shape c.requires.once c.requires.ordered

pub invariant_of-result : goal.invariant_of-result
invariant_of-result c = small_rows c.args.parameters.now c.loop-row.rows c.loop-row.row-index c.loop-row.invariant c.requires.shape
