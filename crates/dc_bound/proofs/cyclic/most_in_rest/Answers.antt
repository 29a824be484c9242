use Rattle.std.proofs.Common.{◌≡◌, ◌*◌, ℕ, length, arith, subst}
use Rattle.dc_bound.specs.lemmas.Spans.{IsBest, best_none, best_more, best_same, best_all}
use Rattle.dc_bound.proofs.cyclic.most_in_rest.Goals as goal
use Rattle.dc_bound.proofs.cyclic.most_in_rest.Goals.{then-due_of-ticks, else-due_of-ticks}

pub loop-j-init : goal.loop-j-init
loop-j-init c = best_none c.args.frame c.args.offsets.now c.requires.framed c.args.ticks

pub loop-j-preserved : goal.loop-j-preserved
loop-j-preserved c =
    elim c.if-due_of-ticks.branch [
      | then-due_of-ticks w ↦
          rw w.best-is (best_more c.args.frame c.args.offsets.now c.requires.framed c.args.ticks c.loop-j.j c.loop-j.best c.loop-j.invariant (omega (arith, w.if-due_of-ticks.true, c.due_of.ensures, c.due_of-in-loop-j.ensures)))
      | else-due_of-ticks w ↦
          rw w.best-is (best_same c.args.frame c.args.offsets.now c.requires.framed c.args.ticks c.loop-j.j c.loop-j.best c.loop-j.invariant (omega (arith, w.if-due_of-ticks.false, c.due_of.ensures, c.due_of-in-loop-j.ensures)))
    ]

pub returns : goal.returns
returns c =
    let e : c.loop-j.j ≡ 2 * length c.args.offsets.now = omega arith in
    let P : ℕ → Type 0 = λ j. IsBest c.args.frame c.args.offsets.now c.args.ticks j c.loop-j.best in
    best_all c.args.frame c.args.offsets.now c.requires.framed c.args.ticks c.loop-j.best c.requires.short (subst P e c.loop-j.invariant)
