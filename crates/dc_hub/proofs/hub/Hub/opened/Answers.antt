use Rattle.std.proofs.Common.{rules, ◌≡◌, ◌<◌, List, Some, length, subst, ap, ◌∙◌}
use Rattle.dc_check.specs.Lent.{tables_of}
use Rattle.dc_event.specs.declared.event.Actor.TheVariants.{Router, Output, Clock}
use Rattle.dc_hub.specs.Closing.{all_seats, AreOneEach}
use Rattle.dc_hub.specs.Views.{SeatView, board_caps, stepped, unused, others, parts_for, parts_in, receipts_in, AreNewWires, AreNewSeats}
use Rattle.dc_hub.proofs.Each.{new_each}
use Rattle.dc_hub.proofs.Opens.{unnoted}
use Rattle.dc_hub.proofs.hub.Hub.opened.Goals as goal

pub invariant_of-seats : goal.invariant_of-seats
invariant_of-seats g c = unnoted board_caps c.bus_count.result c.wire_seats.new.watch.1 (c.in_ok-wires.ensures.watch.1 ∙ ap (stepped c.bus_count.result) c.in_ok-board.ensures.2)

pub returns-clause-each : goal.returns-clause-each
returns-clause-each g c =
    let wires : AreNewWires c.in_ok-board.board c.in_ok-wires.wires.items (length (tables_of c.args.certified).buses) = search rules in
    let routers : AreNewSeats Router c.in_ok-routers.routers.items (length (tables_of c.args.certified).routers) = search rules in
    let outputs : AreNewSeats Output c.in_ok-outputs.outputs.items (length (tables_of c.args.certified).outputs) = search rules in
    let clock : Some c.new.result ≡ Some (unused Clock (parts_for g.L.Charter.certified g.L.Charter.whole Clock)) = search rules in
    let some : others g.L.Charter.certified < g.L.Charter.whole = search rules in
    let seats : List SeatView = all_seats c.in_ok-wires.wires.items c.in_ok-routers.routers.items c.in_ok-outputs.outputs.items (Some c.new.result) in
    subst (λ n. AreOneEach (tables_of c.args.certified) seats × (parts_in seats ≡ n) × (receipts_in seats ≡ 0)) c.requires.charter.2
    (new_each g.L.Charter.certified c.args.certified g.L.Charter.whole c.in_ok-board.board c.in_ok-wires.wires.items c.in_ok-routers.routers.items c.in_ok-outputs.outputs.items (Some c.new.result) c.requires.charter.0 some wires routers outputs clock)
