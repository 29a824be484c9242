use Rattle.std.proofs.Common.{◌≡◌}
use Rattle.dc_event.specs.Steady.{each_below, steady_tick}
use Rattle.dc_oracle.proofs.steady_run.steady_ticks.Given as goal

abbrev pub invariant-loop-tick : goal.invariant-loop-tick
invariant-loop-tick l = l.run.items ≡ each_below (steady_tick l.tables) l.tick
