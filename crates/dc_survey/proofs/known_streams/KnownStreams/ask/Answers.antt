use Rattle.std.proofs.Common.{ℕ, Option, refl, subst, sym, ap, ◌∙◌}
use Rattle.dc_survey.specs.Known.{Tells}
use Rattle.dc_survey.proofs.SameWords.{known_too}
use Rattle.dc_tables.specs.Declares.{stream_of}
use Rattle.dc_survey.proofs.known_streams.KnownStreams.ask.Goals as goal

pub returns-clause-known : goal.returns-clause-known
returns-clause-known c =
    let P : Option ℕ → Type 0 = λ o. Tells o c.found.result in
    let same = c.stream_of-stream.ensures.stream ∙ ap (λ (w : ℕ). stream_of c.args.tables.now c.args.bus w) (sym c.bits.ensures.value) in
    known_too c.args.tables.now c.args.self.now _ c.args.bus c.bits.result c.found.result c.requires.known c.requires.there (subst P same c.found.ensures) refl
