use Rattle.std.proofs.Common.{◌≡◌, ◌<◌, ◌-◌, ◌==◌, length, true, false, slice_index, sym, refl, ◌∙◌, arith, rules}
use Rattle.dc_cell.proofs.OneOff.{gap-here, gap-past, gap-none}
use Rattle.dc_cell.proofs.strays.gap.Goals as goal

pub returns-then-key-place-eq95-clause-value : goal.returns-then-key-place-eq95-clause-value
returns-then-key-place-eq95-clause-value c =
    let place = length c.args.key.now - 1 - c.loop-back.back in
    let there : c.loop-back.back < length c.args.key.now = search rules in
    let gap : (slice_index c.args.key.now place == 95) ≡ true = search rules in
    sym (gap-here c.args.key.now c.loop-back.back place there refl gap) ∙ c.loop-back.invariant

pub loop-back-preserved : goal.loop-back-preserved
loop-back-preserved c =
    let place = length c.args.key.now - 1 - c.loop-back.back in
    let there : c.loop-back.back < length c.args.key.now = search rules in
    let none : (slice_index c.args.key.now place == 95) ≡ false = search rules in
    sym (gap-past c.args.key.now c.loop-back.back place there refl none) ∙ c.loop-back.invariant

pub returns-clause-value : goal.returns-clause-value
returns-clause-value c = sym (gap-none c.args.key.now (length c.args.key.now - c.loop-back.back) (omega arith)) ∙ c.loop-back.invariant
