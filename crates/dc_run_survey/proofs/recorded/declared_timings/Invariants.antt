use Rattle.dc_survey.specs.Surveys.{AllMade, no_timing}
use Rattle.dc_run_survey.specs.Answer.{declared_timing}
use Rattle.dc_run_survey.proofs.recorded.declared_timings.Given as goal

abbrev pub invariant-loop-stream : goal.invariant-loop-stream
invariant-loop-stream l = AllMade (declared_timing l.written) no_timing l.stream l.timings.items
