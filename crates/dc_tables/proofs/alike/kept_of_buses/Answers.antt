use Rattle.std.proofs.Common.{◌+◌, false, List, get_or, take, subst, sym}
use Rattle.dc_tables.specs.declared.alike.BusKept.{BusKept}
use Rattle.dc_tables.specs.declared.rows.Bus.{Bus}
use Rattle.dc_tables.specs.declared.rows.Stream.{Stream}
use Rattle.dc_tables.specs.KeptOfBuses.{AreBusesKept, IsBusKept}
use Rattle.dc_tables.proofs.BoundsMade.{kept_more, same_read}
use Rattle.dc_tables.proofs.alike.kept_of_buses.Goals as goal

-- what is kept of one more bus
pub loop-bus-preserved : goal.loop-bus-preserved
loop-bus-preserved c =
    let buses = c.args.buses.now in
    let streams = c.args.streams.now in
    let at = c.loop-bus.bus-index in
    let none : Bus = record { queue = 0; police = false; spacing = 0; first = 0; streams = 0; router = 0 } in
    let row = get_or buses at none in
    let own : BusKept = record { bounds = c.in_ok-bounds.bounds; places = c.of-places.result } in
    let P : List BusKept → Type 0 = λ all. AreBusesKept all (take (at + 1) buses) streams in
    let Q : List Stream → Type 0 = λ streams. IsBusKept own streams in
    subst P (sym c.in_ok-push.ensures.items) (kept_more c.loop-bus.rows.items own buses streams at row c.loop-bus-test.true (same_read buses at none c.loop-bus-test.true) c.loop-bus.invariant (subst Q c.piece-own.ensures (record { bounds = c.in_ok-bounds.ensures; places = c.of-places.ensures })))
