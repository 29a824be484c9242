use Rattle.std.proofs.Common.{◌≡◌, [], sym, subst, arith, take, get_or, ◌+◌, replicate}
use Rattle.std.proofs.lemmas.List.{length-take}
use Rattle.std.proofs.lemmas.Grind.{get_or_default_zero}
use Rattle.dc_rules.proofs.Counted.{AreCounts, counts_none, counts_more, all_counted, counts_small}
use Rattle.dc_rules.proofs.shape.count_members.Goals as goal

pub loop-owner-init : goal.loop-owner-init
loop-owner-init c =
    let e : c.in_ok-all.all.items ≡ replicate c.args.count 0 = c.in_ok-all.ensures.items_if_clones_equal (λ y h. h) in
    subst (AreCounts [] c.args.count) (sym e) (counts_none c.args.count)

pub overflow_add-index_mut : goal.overflow_add-index_mut
overflow_add-index_mut c =
    let owners = c.args.owners.now in
    let i = c.loop-owner.owner-index in
    let x = get_or owners i 0 in
    let same = get_or_default_zero c.loop-owner.all.items x c.index_mut.result.now (omega (arith, c.loop-owner.invariant.there, c.if-count-owner.false)) in
    omega (arith, counts_small (take i owners) c.args.count c.loop-owner.all.items x c.if-count-owner.false c.loop-owner.invariant, c.index_mut.ensures.value, same, length-take i owners, c.loop-owner-test.true)

pub loop-owner-preserved : goal.loop-owner-preserved
loop-owner-preserved c =
    let owners = c.args.owners.now in
    let i = c.loop-owner.owner-index in
    let x = get_or owners i 0 in
    let same = get_or_default_zero c.loop-owner.all.items x c.index_mut.result.now (omega (arith, c.loop-owner.invariant.there, c.if-count-owner.false)) in
    counts_more owners c.args.count c.loop-owner.all.items i (c.index_mut.result.now + 1) c.loop-owner-test.true c.if-count-owner.false (omega (arith, c.index_mut.ensures.value, same)) c.loop-owner.invariant

pub returns : goal.returns
returns c = all_counted c.args.owners.now c.args.count c.loop-owner.owner-index c.loop-owner.all.items c.loop-owner-test.false c.loop-owner.invariant
