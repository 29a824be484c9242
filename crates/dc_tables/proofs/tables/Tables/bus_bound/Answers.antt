use Rattle.std.proofs.Common.{ℕ, ◌<◌, ◌≤◌, ◌^◌, length, arith, ap, ◌∙◌, sym, take, drop, List, subst}
use Rattle.std.specs.List.{sum_by}
use Rattle.dc_bound.specs.Capping.{capped}
use Rattle.dc_bound.specs.declared.alike.Alike.{Alike}
use Rattle.dc_tables.specs.contracts.tables.Tables.{the_view}
use Rattle.dc_tables.specs.TableRows.{TableRows, bus_cap}
use Rattle.dc_tables.specs.Bounds.{alike_cap}
use Rattle.dc_tables.specs.KeptOfBuses.{IsBusKept}
use Rattle.dc_tables.proofs.BoundsMade.{kept_length, kept_read, bounds_some, part_small, row_read, bound_is}
use Rattle.dc_tables.proofs.tables.Tables.bus_bound.Goals as goal

pub index-requires : goal.index-requires
index-requires c =
    omega (arith, ap (λ (t : TableRows). length t.buses) c.self.view_is, c.requires, kept_length c.self.inside.kept.items c.self.inside.rows.buses.items c.self.inside.rows.streams.items c.self.invariant.0)

pub new-streams-requires : goal.new-streams-requires
new-streams-requires c =
    let t = the_view c.self.inside in
    let there : c.args.bus < length t.buses = omega (arith, ap (λ (t : TableRows). length t.buses) c.self.view_is, c.requires) in
    let row = c.index-row.result.now in
    let own : IsBusKept c.index.result.now (take row.streams (drop row.first t.streams)) = kept_read c.self.inside.kept.items t.buses t.streams c.args.bus c.index.result.now row c.self.invariant.0 there c.index.ensures c.index-row.ensures in
    let P : List Alike → Type 0 = λ l. sum_by (alike_cap 1000000) l ≤ 2 ^ 40 in
    subst P (sym c.as_slice.ensures) (omega (arith, own.bounds 1000000, part_small row.first row.streams t.streams (bounds_some t c.self.invariant.2.valid) c.self.invariant.2.valid.few_streams))

pub returns : goal.returns
returns c = λ d.
    let t = the_view c.self.inside in
    let there : c.args.bus < length t.buses = omega (arith, ap (λ (t : TableRows). length t.buses) c.self.view_is, c.requires) in
    let row = c.index-row.result.now in
    let own : IsBusKept c.index.result.now (take row.streams (drop row.first t.streams)) = kept_read c.self.inside.kept.items t.buses t.streams c.args.bus c.index.result.now row c.self.invariant.0 there c.index.ensures c.index-row.ensures in
    c.new.ensures.cap d
    ∙ ap (λ (n : ℕ). capped c.wire_of.result d n) (c.new-streams.ensures.cap d ∙ ap (λ (l : List Alike). sum_by (alike_cap d) l) c.as_slice.ensures)
    ∙ bound_is t c.args.bus c.index.result.now.bounds row c.wire_of.result d own.bounds (row_read t c.args.bus row there c.index-row.ensures) c.wire_of.ensures.policed c.wire_of.ensures.free
    ∙ ap (λ (t : TableRows). bus_cap t c.args.bus d) c.self.view_is
