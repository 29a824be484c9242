use Rattle.std.proofs.Common.{◌≡◌}
use Rattle.dc_run_survey.specs.Lines.{any_below, is_broken}
use Rattle.dc_survey.specs.States.{wire_state_of}
use Rattle.dc_run_survey.proofs.engine.breaks_wires.Given as goal

abbrev pub invariant-loop-bus : goal.invariant-loop-bus
invariant-loop-bus l = l.broken ≡ any_below (λ b. is_broken (wire_state_of l.tables l.survey b)) l.bus
