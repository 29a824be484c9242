use Rattle.dc_survey.specs.Surveys.{AllMade}
use Rattle.dc_gauge.specs.Steps.{no_stream_words}
use Rattle.dc_survey.proofs.survey.no_streams.Given as goal

abbrev pub invariant-loop-stream : goal.invariant-loop-stream
invariant-loop-stream l = AllMade (λ _. no_stream_words) no_stream_words l._stream l.streams.items
