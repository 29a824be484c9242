use Rattle.dc_drive.specs.Played.{IsSameSeat}
use Rattle.dc_drive.proofs.threads.run_clock.Given as goal

abbrev pub invariant-loop : goal.invariant-loop
invariant-loop g l = IsSameSeat l.fn.clock l.clock
