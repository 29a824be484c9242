use Rattle.std.proofs.Common.{sym, ◌∙◌, arith}
use Rattle.dc_run_network.specs.Links.{is_named}
use Rattle.dc_run_network.specs.lemmas.Numbers.{number-here, number-is, number-step}
use Rattle.dc_run_network.proofs.links.number_in.Goals as goal

pub loop-number-init : goal.loop-number-init
loop-number-init c = omega (arith, number-is c.args.concentrators.now c.args.name)

pub loop-number-preserved : goal.loop-number-preserved
loop-number-preserved c =
    number-step (is_named c.args.name) c.args.concentrators.now c.loop-number.number c.index-concentrators-number.result c.loop-number-test.true c.index-concentrators-number.is (sym c.if-is_named.ensures) ∙ c.loop-number.invariant

pub returns-then-is_named : goal.returns-then-is_named
returns-then-is_named c =
    number-here (is_named c.args.name) c.args.concentrators.now c.loop-number.number c.index-concentrators-number.result c.loop-number-test.true c.index-concentrators-number.is (sym c.if-is_named.ensures) ∙ c.loop-number.invariant
