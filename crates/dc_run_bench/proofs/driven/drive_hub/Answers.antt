use Rattle.std.proofs.Common.{◌≡◌, Err, sym, ap, subst, ◌∙◌}
use Rattle.dc_run_bench.proofs.Roles.{never_stuck, of_known}
use Rattle.dc_run_bench.specs.Bench.{WentAstray}
use Rattle.dc_drive.specs.Played.{HaveRoles}
use Rattle.dc_drive.specs.declared.fault.DriveFault.{DriveFault}
use Rattle.dc_hub.specs.Closing.{all_seats}
use Rattle.dc_script.specs.Script.{bench_script}
use Rattle.dc_run_bench.proofs.driven.drive_hub.Goals as goal

pub close_hub-requires-clause-roles : goal.close_hub-requires-clause-roles
close_hub-requires-clause-roles g c =
    of_known (λ t s. HaveRoles t s (all_seats c.drive.new.seats.wires.items c.drive.new.seats.routers.items c.drive.new.seats.outputs.items c.drive.new.seats.clock)) g.L.Charter.certified c.args.tables.now c.args.plan.now.script.now c.ticks.result
    c.requires.tables (subst (λ n. c.args.plan.now.script.now ≡ bench_script c.args.tables.now n) (sym c.ticks.ensures.value) c.requires.script) (c.in-Ok.ensures.fresh c.requires.unused)

pub end_of-requires-clause-halts : goal.end_of-requires-clause-halts
end_of-requires-clause-halts g c = λ not. never_stuck g.L.Charter.certified g.L.Charter.limit c.in-Err.fault (c.in-Err.ensures.halts not)

pub end_of-requires-clause-astray : goal.end_of-requires-clause-astray
end_of-requires-clause-astray g c = λ e.
    of_known WentAstray g.L.Charter.certified c.args.tables.now c.args.plan.now.script.now c.ticks-in-Err.result c.requires.tables (subst (λ n. c.args.plan.now.script.now ≡ bench_script c.args.tables.now n) (sym c.ticks-in-Err.ensures.value) c.requires.script) (record {
      wires = c.args.seats.wires.items;
      wires' = c.drive.new.seats.wires.items;
      routers = c.args.seats.routers.items;
      routers' = c.drive.new.seats.routers.items;
      outputs = c.args.seats.outputs.items;
      outputs' = c.drive.new.seats.outputs.items;
      clock = c.args.seats.clock;
      clock' = c.drive.new.seats.clock;
      astray = c.drive.ensures.astray (c.in-Err.is ∙ ap (λ (f : DriveFault). Err f) e);
    })
