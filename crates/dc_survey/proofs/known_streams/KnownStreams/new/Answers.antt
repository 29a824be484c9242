use Rattle.std.proofs.Common.{ℕ, ◌*◌, subst}
use Rattle.dc_survey.specs.Surveys.{AllMade}
use Rattle.dc_survey.specs.declared.known_streams.TheConstants.{KINDS}
use Rattle.dc_survey.specs.declared.known_streams.Declared.TheVariants.{NotAsked}
use Rattle.dc_survey.proofs.SameWords.{nothing_known}
use Rattle.dc_survey.proofs.known_streams.KnownStreams.new.Goals as goal

pub returns : goal.returns
returns c =
    let P : ℕ → Type 0 = λ n. AllMade (λ _. NotAsked) NotAsked (n * KINDS) c.in_ok-places.places.items in
    nothing_known c.args.tables.now _ (subst P c.bus_count.ensures c.in_ok-places.ensures)
