use Rattle.std.proofs.Common.{arith}
use Rattle.dc_bound.proofs.Lesser.{all_carried, less_carried}
use Rattle.dc_bound.proofs.under.lesser.Goals as goal

pub returns-then-carries-clause-shown : goal.returns-then-carries-clause-shown
returns-then-carries-clause-shown c =
    λ f grows shown. all_carried c.args.wire.now c.in-Some.wire c.in-Some.is f c.args.ticks c.args.until c.args.last c.args.most shown c.if-carries.ensures

pub returns-clause-shown : goal.returns-clause-shown
returns-clause-shown c =
    λ f grows shown. less_carried c.args.wire.now c.in-Some.wire c.in-Some.is f c.args.ticks c.args.until c.args.last c.args.most shown grows c.requires.later c.requires.far c.if-carries.ensures
    c.at_most_and_jump-carried.result.0 c.min.result c.at_most_and_jump-carried.result.1 c.at_most_and_jump-carried.ensures.most c.at_most_and_jump-carried.ensures.jump (omega (arith, c.min.ensures, c.unwrap_or.ensures))
