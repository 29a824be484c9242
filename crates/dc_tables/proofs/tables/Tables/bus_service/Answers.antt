use Rattle.std.proofs.Common.{◌≡◌, ℕ, ◌<◌, ◌*◌, ◌/◌, length, arith, ap, ◌∙◌, List}
use Rattle.dc_bound.specs.Rounds.{fewest_visits}
use Rattle.dc_tables.specs.contracts.tables.Tables.{the_view}
use Rattle.dc_tables.specs.TableRows.{TableRows, bus_row, router_row, bus_floor}
use Rattle.dc_tables.specs.declared.rows.Bus.{Bus}
use Rattle.dc_tables.proofs.BoundsMade.{row_read, router_read, service_is}
use Rattle.dc_tables.proofs.tables.Tables.bus_service.Goals as goal

pub returns : goal.returns
returns c = λ d.
    let there : c.args.bus < length (the_view c.self.inside).buses = omega (arith, ap (λ (t : TableRows). length t.buses) c.self.view_is, c.requires) in
    let row = row_read (the_view c.self.inside) c.args.bus c.index.result.now there c.index.ensures in
    let at : c.index.result.now.router ≡ (bus_row (the_view c.self.inside) c.args.bus).router = ap (λ (r : Bus). r.router) row in
    let r_there : c.index.result.now.router < length (the_view c.self.inside).routers = omega (arith, at, c.self.invariant.2.valid.routers_of_buses c.args.bus there) in
    let router = router_read (the_view c.self.inside) c.index.result.now.router c.index-row.result.now r_there c.index-row.ensures ∙ ap (λ r. router_row (the_view c.self.inside) r) at in
    c.new.ensures.floor d
    ∙ ap (λ (l : List ℕ). fewest_visits l c.args.bus (c.new-pace.result.steps * (d / c.new-pace.result.within))) c.as_slice.ensures
    ∙ ap (λ (k : ℕ). fewest_visits c.index-row.result.now.visits c.args.bus (k * (d / c.new-pace.result.within))) c.new-pace.ensures.steps
    ∙ ap (λ (k : ℕ). fewest_visits c.index-row.result.now.visits c.args.bus (c.index-row.result.now.steps * (d / k))) c.new-pace.ensures.within
    ∙ service_is (the_view c.self.inside) c.args.bus d c.index-row.result.now router
    ∙ ap (λ (t : TableRows). bus_floor t c.args.bus d) c.self.view_is
