use Rattle.std.proofs.Common.{rules, length, ap, arith}
use Rattle.dc_drive.specs.Played.{AllPlayed, itself, seat_of_wire}
use Rattle.dc_drive.proofs.Roles.{of-all}
use Rattle.dc_drive.proofs.Same.{counted}
use Rattle.dc_drive.proofs.driving.drive.Goals as goal

pub all_have_played-requires-clause-wires : goal.all_have_played-requires-clause-wires
all_have_played-requires-clause-wires g c =
    omega (arith, ap length c.in-Ok.ensures.wires, counted seat_of_wire c.args.seats.now.wires.items c.play.new.seats.wires.items c.play.ensures.wires, c.in-Ok.before.wires.ok.0, c.play.new.seats.wires.ok.0)

pub all_have_played-requires-clause-routers : goal.all_have_played-requires-clause-routers
all_have_played-requires-clause-routers g c =
    omega (arith, ap length c.in-Ok.ensures.routers, counted itself c.args.seats.now.routers.items c.play.new.seats.routers.items c.play.ensures.routers, c.in-Ok.before.routers.ok.0, c.play.new.seats.routers.ok.0)

pub all_have_played-requires-clause-outputs : goal.all_have_played-requires-clause-outputs
all_have_played-requires-clause-outputs g c =
    omega (arith, ap length c.in-Ok.ensures.outputs, counted itself c.args.seats.now.outputs.items c.play.new.seats.outputs.items c.play.ensures.outputs, c.in-Ok.before.outputs.ok.0, c.play.new.seats.outputs.ok.0)

pub returns-then-all_have_played-clause-fresh : goal.returns-then-all_have_played-clause-fresh
returns-then-all_have_played-clause-fresh g c = λ none.
    let played : AllPlayed c.args.tables.now c.args.script.now c.args.seats.now.wires.items c.play.new.seats.wires.items c.args.seats.now.routers.items c.play.new.seats.routers.items c.args.seats.now.outputs.items c.play.new.seats.outputs.items
    c.args.seats.now.clock c.play.new.seats.clock = search rules in
    of-all c.args.tables.now c.args.script.now c.args.seats.now.wires.items c.play.new.seats.wires.items c.args.seats.now.routers.items c.play.new.seats.routers.items c.args.seats.now.outputs.items c.play.new.seats.outputs.items
    c.args.seats.now.clock c.play.new.seats.clock c.play.ensures.wires c.play.ensures.routers c.play.ensures.outputs c.play.ensures.clock played none
