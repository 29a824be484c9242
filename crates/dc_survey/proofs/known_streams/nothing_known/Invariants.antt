use Rattle.dc_survey.specs.Surveys.{AllMade}
use Rattle.dc_survey.specs.declared.known_streams.Declared.TheVariants.{NotAsked}
use Rattle.dc_survey.proofs.known_streams.nothing_known.Given as goal

abbrev pub invariant-loop-place : goal.invariant-loop-place
invariant-loop-place l = AllMade (λ _. NotAsked) NotAsked l._place l.places.items
