use Rattle.std.proofs.Common.{refl, subst, ℕ}
use Rattle.dc_gauge.specs.Steps.{no_stream_words}
use Rattle.dc_survey.specs.Surveys.{AllMade, no_bus_words}
use Rattle.dc_survey.proofs.Surveying.{surveys-nothing}
use Rattle.dc_survey.proofs.survey.Survey.new.Goals as goal

pub returns-clause-surveys : goal.returns-clause-surveys
returns-clause-surveys c =
    let P : ℕ → Type 0 = λ n. AllMade (λ _. no_stream_words) no_stream_words n c.in_ok-streams.streams.items in
    let Q : ℕ → Type 0 = λ n. AllMade (λ _. no_bus_words) no_bus_words n c.in_ok-buses.buses.items in
    surveys-nothing c.args.tables.now _ refl (subst P c.stream_count.ensures c.in_ok-streams.ensures) (subst Q c.bus_count.ensures c.in_ok-buses.ensures)
