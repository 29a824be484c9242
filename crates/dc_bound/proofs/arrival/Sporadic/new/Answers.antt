use Rattle.dc_bound.specs.lemmas.Spacing.{spaced_iff_holds}
use Rattle.dc_bound.proofs.arrival.Sporadic.new.Goals as goal

pub returns-clause-spaced : goal.returns-clause-spaced
returns-clause-spaced c = λ xs order. spaced_iff_holds c.args.minimum c.requires xs order
