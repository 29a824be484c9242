use Rattle.std.proofs.Common.{arith}
use Rattle.dc_rules.specs.lemmas.Picks.{not_outside}
use Rattle.dc_tables.specs.Bounds.{table_names, table_rows}
use Rattle.dc_build.proofs.Valid.{sound_rows, names_passed, rows_named, rows_answered}
use Rattle.dc_build.proofs.tables.assemble.Goals as goal

pub make_rows-requires-clause-tick : goal.make_rows-requires-clause-tick
make_rows-requires-clause-tick c = omega (arith, (not_outside 100 10000 c.args.parts.now.tick_us c.requires.obeys.shape.top.tick).0)

-- the rows are the document's, which breaks no rule, so they are sound
pub of-requires : goal.of-requires
of-requires c =
    let d = c.args.parts.now in
    let names = table_names c.args.passed.names in
    sound_rows d (table_rows c.tick_us-tick_us.result names c.in_ok-rows.rows) c.in_order.ensures
    (rows_named d c.tick_us-tick_us.result names c.in_ok-rows.rows c.tick_us-tick_us.ensures (names_passed d c.args.passed c.requires.passed) c.in_ok-rows.ensures.rows)
    c.in_ok-rows.ensures.fit c.requires.obeys

pub returns : goal.returns
returns c =
    let d = c.args.parts.now in
    let names = table_names c.args.passed.names in
    rows_answered d (table_rows c.tick_us-tick_us.result names c.in_ok-rows.rows) c.of.result c.of.ensures
    (rows_named d c.tick_us-tick_us.result names c.in_ok-rows.rows c.tick_us-tick_us.ensures (names_passed d c.args.passed c.requires.passed) c.in_ok-rows.ensures.rows)
