use Rattle.std.proofs.Common.{◌∙◌, ap, min}
use Rattle.dc_bound.specs.lemmas.Jumps.{earlier_kept}
use Rattle.dc_bound.proofs.arrival.earlier.Goals as goal

pub returns : goal.returns
returns c = λ jump kept. earlier_kept c.args.kept c.min.result c.args.other jump (c.min.ensures ∙ ap (λ n. min c.args.kept n) c.unwrap_or.ensures) c.requires kept
