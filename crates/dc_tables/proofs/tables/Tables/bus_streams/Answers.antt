use Rattle.std.proofs.Common.{◌+◌, ◌<◌, length, arith, ap, List}
use Rattle.dc_tables.specs.contracts.tables.Tables.{the_view}
use Rattle.dc_tables.specs.TableRows.{TableRows}
use Rattle.dc_tables.specs.declared.rows.Bus.{Bus}
use Rattle.dc_tables.specs.declared.rows.Stream.{Stream}
use Rattle.dc_tables.proofs.BoundsMade.{row_read}
use Rattle.dc_tables.proofs.tables.Tables.bus_streams.Goals as goal

pub piece-requires-clause-inside : goal.piece-requires-clause-inside
piece-requires-clause-inside c =
    let there : c.args.bus < length (the_view c.self.inside).buses = omega (arith, ap (λ (t : TableRows). length t.buses) c.self.view_is, c.requires) in
    let row = row_read (the_view c.self.inside) c.args.bus c.index-row.result.now there c.index-row.ensures in
    omega (arith, ap (λ (r : Bus). r.first + r.streams) row, c.self.invariant.2.valid.streams_there c.args.bus there, ap (λ (l : List Stream). length l) c.deref.ensures.value)
