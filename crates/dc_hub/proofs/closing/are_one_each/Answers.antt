use Rattle.std.proofs.Common.{rules, ◌≡◌, arith}
use Rattle.dc_hub.specs.Closing.{all_seats, actor_at}
use Rattle.dc_hub.proofs.Places.{are_one_each, one_more, one_further, none_given, some_given}
use Rattle.dc_hub.proofs.closing.are_one_each.Goals as goal

pub loop-place-preserved : goal.loop-place-preserved
loop-place-preserved g c =
    let same : c.in-Some.seat.now.actor ≡ actor_at c.args.tables.now c.loop-place.place = search rules in
    one_further c.args.tables.now (all_seats c.args.seats.now.wires.items c.args.seats.now.routers.items c.args.seats.now.outputs.items c.args.seats.now.clock) c.loop-place.place c.in-Some.seat.now c.loop-place.invariant c.in-Some.ensures same

pub returns-clause-yes : goal.returns-clause-yes
returns-clause-yes g c = λ last.
    are_one_each c.args.tables.now (all_seats c.args.seats.now.wires.items c.args.seats.now.routers.items c.args.seats.now.outputs.items c.args.seats.now.clock) c.actors-count.result c.actors-count.ensures.count
    (λ p below. c.loop-place.invariant p (omega (arith, below, c.loop-place-test.false)))
    (none_given c.at-2.result _ _ c.is_none.result c.is_none.ensures last c.at-2.ensures)

pub returns-clause-no : goal.returns-clause-no
returns-clause-no g c = λ more each.
    let s = some_given c.at-2.result _ _ c.is_none.result c.is_none.ensures more c.at-2.ensures in
    one_more c.args.tables.now (all_seats c.args.seats.now.wires.items c.args.seats.now.routers.items c.args.seats.now.outputs.items c.args.seats.now.clock) c.actors-count.result s.0.now c.actors-count.ensures.count s.1 each
