use Rattle.std.proofs.Common.{◌+◌, ◌-◌, ◌*◌, ◌/◌, ap}
use Rattle.dc_bound.specs.lemmas.Jumps.{ceil_jump, jump_found}
use Rattle.dc_bound.proofs.arrival.SporadicArrivalBound.at_most_and_jump.Goals as goal

pub returns-clause-jump : goal.returns-clause-jump
returns-clause-jump c =
    jump_found (λ e. (e + (c.args.self.now.minimum - 1)) / c.args.self.now.minimum) c.args.d _ c.jump_at.result
    (ceil_jump c.args.self.now.minimum c.args.d (c.at_most-count.result * c.args.self.now.minimum + 1) c.args.self.now.positive (ap (λ x. x * c.args.self.now.minimum + 1) c.at_most-count.ensures))
    c.jump_at.ensures
