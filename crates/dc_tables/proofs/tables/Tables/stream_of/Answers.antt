use Rattle.std.proofs.Common.{◌+◌, ◌<◌, ℕ, Option, Some, length, arith, ap, sym, ◌∙◌}
use Rattle.std.specs.Prelude.{option_map}
use Rattle.dc_tables.specs.TableRows.{bus_row}
use Rattle.dc_tables.specs.declared.rows.Bus.{Bus}
use Rattle.dc_tables.proofs.Parted.{own_found, no_stream}
use Rattle.dc_tables.proofs.BoundsMade.{kept_length}
use Rattle.dc_tables.proofs.Placed.{own_places, own_streams}
use Rattle.dc_tables.specs.TableRows.{TableRows}
use Rattle.dc_tables.specs.contracts.tables.Tables.{the_view}
use Rattle.dc_tables.proofs.tables.Tables.stream_of.Goals as goal

pub returns-then-bus_count-bus-clause-stream : goal.returns-then-bus_count-bus-clause-stream
returns-then-bus_count-bus-clause-stream c =
    sym (no_stream c.args.self.now c.args.bus c.args.word c.valid.ensures (omega (arith, c.bus_count.ensures)))

pub returns-in_err-at-clause-stream : goal.returns-in_err-at-clause-stream
returns-in_err-at-clause-stream c =
    let there : c.args.bus < length c.args.self.now.buses = omega (arith, c.bus_count.ensures) in
    let first : ℕ = (bus_row c.args.self.now c.args.bus).first in
    c.from_residual.ensures
    ∙ ap (λ (r : Option ℕ). option_map (λ k. first + k) r) (sym c.in_err-at.was)
    ∙ own_found c.args.self.now c.args.bus c.args.word c.bus_streams.result.now c.declaring.result c.valid.ensures there c.bus_streams.ensures c.declaring.ensures.first

pub returns-clause-stream : goal.returns-clause-stream
returns-clause-stream c =
    let there : c.args.bus < length c.args.self.now.buses = omega (arith, c.bus_count.ensures) in
    let first : ℕ = (bus_row c.args.self.now c.args.bus).first in
    ap (λ (r : Bus). Some (r.first + c.in_ok-at.at)) c.bus.ensures
    ∙ ap (λ (r : Option ℕ). option_map (λ k. first + k) r) (sym c.in_ok-at.was)
    ∙ own_found c.args.self.now c.args.bus c.args.word c.bus_streams.result.now c.declaring.result c.valid.ensures there c.bus_streams.ensures c.declaring.ensures.first

pub index-requires : goal.index-requires
index-requires c =
    omega (arith, ap (λ (t : TableRows). length t.buses) c.self.view_is, c.bus_count.ensures, kept_length c.self.inside.kept.items c.self.inside.rows.buses.items c.self.inside.rows.streams.items c.self.invariant.0)

-- what is kept of the bus is of its streams
pub declaring-requires-clause-placed : goal.declaring-requires-clause-placed
declaring-requires-clause-placed c =
    let there : c.args.bus < length (the_view c.self.inside).buses = omega (arith, ap (λ (t : TableRows). length t.buses) c.self.view_is, c.bus_count.ensures) in
    own_places c.self.inside.kept.items (the_view c.self.inside) c.args.self.now c.args.bus c.index.result.now c.bus_streams.result.now c.self.invariant.0 c.self.view_is there c.index.ensures c.bus_streams.ensures

pub declaring-requires-clause-own : goal.declaring-requires-clause-own
declaring-requires-clause-own c =
    own_streams c.args.self.now c.args.bus c.bus_streams.result.now c.valid.ensures (omega (arith, c.bus_count.ensures)) c.bus_streams.ensures
