use Rattle.std.proofs.Common.{◌≡◌, ◌+◌, ◌++◌, List, length, drop, sym, ap, ◌∙◌, arith}
use Rattle.std.proofs.lemmas.List.{length-map}
use Rattle.std.specs.Prelude.{unwrap_or}
use Rattle.std.specs.List.{position}
use Rattle.dc_rules.specs.Rules.{visits_bus}
use Rattle.dc_document.specs.declared.parts.BusPart.{BusPart}
use Rattle.dc_build.specs.RowsOf.{bus_rows_from, bus_row_of}
use Rattle.dc_tables.specs.declared.rows.Bus.{Bus}
use Rattle.dc_rules.specs.lemmas.Apart.{counts_length}
use Rattle.dc_build.proofs.RowsMade.{at, own_count, own_router, first_fits, bus_row_is, bus_rows_step, below_none, below_next}
use Rattle.dc_build.proofs.assemble.bus_rows.Goals as goal

pub loop-bus-init : goal.loop-bus-init
loop-bus-init c =
    (ap (λ (l : List Bus). l ++ bus_rows_from c.args.owners.now c.args.routers.now 0 c.args.parts.now) c.new-rows.ensures.items, sym (below_none c.args.owners.now))

pub index-streams-requires : goal.index-streams-requires
index-streams-requires c = omega (arith, ap length c.in_ok-counts.ensures, counts_length c.args.owners.now (length c.args.parts.now), c.loop-bus-test.true)

pub index-router-requires : goal.index-router-requires
index-router-requires c =
    omega (arith, ap length c.in_ok-visitors.ensures, length-map c.args.parts.now (λ (y : BusPart). unwrap_or (position (visits_bus y.name) c.args.routers.now) 0), c.loop-bus-test.true)

pub overflow_add-first : goal.overflow_add-first
overflow_add-first c =
    let owners = c.args.owners.now in
    let b = c.loop-bus.bus in
    let streams : c.index-streams.result.now ≡ at b owners = own_count owners c.in_ok-counts.counts.items (length c.args.parts.now) b c.index-streams.result.now c.in_ok-counts.ensures c.loop-bus-test.true c.index-streams.ensures in
    omega (arith, first_fits owners b c.loop-bus.first c.index-streams.result.now c.loop-bus.invariant.1 streams)

pub loop-bus-preserved : goal.loop-bus-preserved
loop-bus-preserved c =
    let owners = c.args.owners.now in
    let routers = c.args.routers.now in
    let parts = c.args.parts.now in
    let b = c.loop-bus.bus in
    let part = c.index-parts-bus.result in
    let row = c.bus_row.result in
    let streams : c.index-streams.result.now ≡ at b owners = own_count owners c.in_ok-counts.counts.items (length parts) b c.index-streams.result.now c.in_ok-counts.ensures c.loop-bus-test.true c.index-streams.ensures in
    let router : c.index-router.result.now ≡ unwrap_or (position (visits_bus part.name) routers) 0 = own_router routers parts c.in_ok-visitors.visitors.items b c.index-router.result.now part c.in_ok-visitors.ensures c.loop-bus-test.true c.index-parts-bus.is c.index-router.ensures in
    let same : row ≡ bus_row_of owners routers b part = bus_row_is owners routers b part c.loop-bus.first c.index-streams.result.now c.index-router.result.now row c.bus_row.ensures c.loop-bus.invariant.1 streams router in (
      ap (λ (l : List Bus). l ++ bus_rows_from owners routers (b + 1) (drop (b + 1) parts)) c.in_ok-push.ensures.items
          ∙ bus_rows_step owners routers c.loop-bus.rows.items parts b part row c.loop-bus-test.true c.index-parts-bus.is same ∙ c.loop-bus.invariant.0,
      omega (arith, c.loop-bus.invariant.1, streams, below_next b owners),
    )
