use Rattle.std.proofs.Common.{refl}
use Rattle.dc_bound.specs.Run.{ticks, picks}
use Rattle.dc_bound.specs.Places.{served_in, first_place}
use Rattle.dc_bound.specs.Moves.{ins, passed, is_overfull, latch, entered, taken, routed_tick}
use Rattle.dc_base_tests.proofs.windows.second_in_waits.Goals as goal

pub returns-clause-first : goal.returns-clause-first
unfolding ticks picks served_in first_place ins passed is_overfull latch entered taken routed_tick
returns-clause-first c = refl

pub returns-clause-second : goal.returns-clause-second
unfolding ticks picks served_in first_place ins passed is_overfull latch entered taken routed_tick
returns-clause-second c = refl

pub returns-clause-all : goal.returns-clause-all
unfolding ticks picks served_in first_place ins passed is_overfull latch entered taken routed_tick
returns-clause-all c = refl
