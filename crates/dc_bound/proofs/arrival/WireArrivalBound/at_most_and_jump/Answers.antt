use Rattle.std.proofs.Common.{◌+◌, ◌-◌, ◌*◌, ◌/◌, ap, arith}
use Rattle.dc_bound.specs.Window.{wire_cap}
use Rattle.dc_bound.specs.lemmas.Jumps.{wire_jump, jump_found}
use Rattle.dc_bound.proofs.arrival.WireArrivalBound.at_most_and_jump.Goals as goal

pub returns-clause-jump : goal.returns-clause-jump
returns-clause-jump c =
    jump_found (wire_cap c.args.self.now.tick c.args.self.now.spacing) c.args.d _ c.jump_at.result
    (wire_jump c.args.self.now.tick c.args.self.now.spacing c.args.d ((c.at_most-count.result * c.args.self.now.spacing + (c.args.self.now.tick - 1)) / c.args.self.now.tick) c.args.self.now.some_tick c.args.self.now.some_spacing (omega arith)
    (ap (λ x. (x * c.args.self.now.spacing + (c.args.self.now.tick - 1)) / c.args.self.now.tick) c.at_most-count.ensures))
    c.jump_at.ensures
