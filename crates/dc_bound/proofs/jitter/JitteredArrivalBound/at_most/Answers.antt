use Rattle.std.proofs.Common.{◌+◌, ◌∙◌, arith}
use Rattle.dc_bound.specs.lemmas.Caps.{div_ceil-is, jitter_cap-some}
use Rattle.dc_bound.proofs.jitter.JitteredArrivalBound.at_most.Goals as goal

pub returns : goal.returns
returns c =
    c.from.ensures ∙ c.div_ceil.ensures ∙ div_ceil-is c.args.self.now.minimum (c.args.d + c.args.self.now.jitter) c.args.self.now.positive
    ∙ jitter_cap-some c.args.self.now.minimum c.args.self.now.jitter c.args.d (omega (arith, c.if-d-eq0.false))
