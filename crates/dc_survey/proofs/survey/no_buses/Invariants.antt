use Rattle.dc_survey.specs.Surveys.{AllMade, no_bus_words}
use Rattle.dc_survey.proofs.survey.no_buses.Given as goal

abbrev pub invariant-loop-bus : goal.invariant-loop-bus
invariant-loop-bus l = AllMade (λ _. no_bus_words) no_bus_words l._bus l.buses.items
