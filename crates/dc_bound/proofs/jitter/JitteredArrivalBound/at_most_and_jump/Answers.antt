use Rattle.std.proofs.Common.{◌+◌, ◌-◌, ◌*◌, ap, arith}
use Rattle.dc_bound.specs.Early.{jitter_cap}
use Rattle.dc_bound.specs.lemmas.Caps.{jitter_cap-jump, jitter_cap-covers}
use Rattle.dc_bound.specs.lemmas.Jumps.{jump_found}
use Rattle.dc_bound.proofs.jitter.JitteredArrivalBound.at_most_and_jump.Goals as goal

pub overflow_sub-filled : goal.overflow_sub-filled
overflow_sub-filled c = omega (arith, jitter_cap-covers c.args.self.now.minimum c.args.self.now.jitter c.args.d c.args.self.now.positive (omega (arith, c.if-d-eq0.false)), ap (λ n. n * c.args.self.now.minimum) c.at_most-count.ensures)

pub returns-clause-jump : goal.returns-clause-jump
returns-clause-jump c =
    jump_found (jitter_cap c.args.self.now.minimum c.args.self.now.jitter) c.args.d _ c.jump_at.result
    (jitter_cap-jump c.args.self.now.minimum c.args.self.now.jitter c.args.d (c.at_most-count.result * c.args.self.now.minimum + 1 - c.args.self.now.jitter) c.args.self.now.positive (omega (arith, c.if-d-eq0.false))
    (ap (λ n. n * c.args.self.now.minimum + 1 - c.args.self.now.jitter) c.at_most-count.ensures))
    c.jump_at.ensures
