use Rattle.std.proofs.Common.{◌≡◌, ◌++◌}
use Rattle.std.specs.Prelude.{replicate}
use Rattle.dc_event.specs.declared.event.Event.TheVariants.{Route}
use Rattle.dc_oracle.proofs.steady_run.push_router.Given as goal

abbrev pub invariant-loop-step : goal.invariant-loop-step
invariant-loop-step l = l.run.items ≡ l.initial.run.items ++ replicate l._step (Route l.router)
