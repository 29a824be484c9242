use Rattle.std.proofs.Common.{◌≡◌, ◌+◌, ◌*◌, ◌/◌, ◌%◌, ap, arith}
use Rattle.std.proofs.Math.Nat.{div-add-mod'}
use Rattle.dc_bound.specs.Frame.{cyclic_cap}
use Rattle.dc_bound.specs.lemmas.Spans.{cap_rounds, cyclic_le}
use Rattle.dc_bound.proofs.cyclic.CyclicArrivalBound.at_most.Goals as goal

pub overflow_add-result : goal.overflow_add-result
overflow_add-result c =
    let x = c.args.self.now in
    let rounds = cap_rounds c.args.self.now.frame c.args.self.now.offsets.now c.args.self.now.framed (c.args.d / c.args.self.now.frame) (c.args.d % c.args.self.now.frame) in
    let whole : c.args.d / c.args.self.now.frame * c.args.self.now.frame + c.args.d % c.args.self.now.frame ≡ c.args.d = div-add-mod' c.args.d c.args.self.now.frame in
    omega (arith, rounds, cyclic_le c.args.self.now.frame c.args.self.now.offsets.now c.args.self.now.framed (c.args.d / c.args.self.now.frame * c.args.self.now.frame + c.args.d % c.args.self.now.frame), c.most_in_rest.ensures)

pub returns : goal.returns
returns c =
    let rounds = cap_rounds c.args.self.now.frame c.args.self.now.offsets.now c.args.self.now.framed (c.args.d / c.args.self.now.frame) (c.args.d % c.args.self.now.frame) in
    let whole : c.args.d / c.args.self.now.frame * c.args.self.now.frame + c.args.d % c.args.self.now.frame ≡ c.args.d = div-add-mod' c.args.d c.args.self.now.frame in
    omega (arith, rounds, ap (λ n. cyclic_cap c.args.self.now.frame c.args.self.now.offsets.now n) whole, c.most_in_rest.ensures)
