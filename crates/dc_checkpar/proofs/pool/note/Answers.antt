use Rattle.std.proofs.Common.{sym, subst}
use Rattle.dc_checkpar.proofs.Known.{known-one}
use Rattle.dc_checkpar.specs.Reports.{AreJudged}
use Rattle.dc_checkpar.proofs.pool.note.Goals as goal

pub loop-one-preserved : goal.loop-one-preserved
loop-one-preserved c = λ verdict judged before.
    let all : AreJudged verdict c.deref-one-items.result.now = subst (AreJudged verdict) (sym c.deref-one-items.ensures.value) judged in
    known-one verdict c.loop-one.known.items _ _ (all c.loop-one.one-index _ c.loop-one-test.true) (c.loop-one.invariant verdict judged before)
