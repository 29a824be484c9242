use Rattle.dc_tables.specs.Bounds.{table_names, table_rows}
use Rattle.dc_tables.proofs.BoundsMade.{bounds_some, members_few, streams_inside}
use Rattle.dc_tables.proofs.tables.Tables.of.Goals as goal

pub make_kept-requires-clause-few : goal.make_kept-requires-clause-few
make_kept-requires-clause-few c = c.requires.valid.few_streams

-- the streams have their intervals and jitters
pub make_kept-requires-clause-bounded : goal.make_kept-requires-clause-bounded
make_kept-requires-clause-bounded c = bounds_some (table_rows c.args.tick_us (table_names c.args.names) c.args.rows) c.requires.valid

-- and each bus has its own among them
pub make_kept-requires-clause-there : goal.make_kept-requires-clause-there
make_kept-requires-clause-there c = streams_inside (table_rows c.args.tick_us (table_names c.args.names) c.args.rows) c.requires.valid

-- and few of them
pub make_kept-requires-clause-members : goal.make_kept-requires-clause-members
make_kept-requires-clause-members c = members_few (table_rows c.args.tick_us (table_names c.args.names) c.args.rows) c.requires.valid

pub invariant_of-result : goal.invariant_of-result
invariant_of-result c = (c.in_ok-kept.ensures.buses, c.in_ok-kept.ensures.offsets, c.requires)
