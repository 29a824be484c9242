use Rattle.std.proofs.Common.{sym, subst}
use Rattle.dc_checkpar.proofs.Known.{known-more}
use Rattle.dc_checkpar.specs.Reports.{AreKnown}
use Rattle.dc_checkpar.proofs.pool.unknown.Goals as goal

pub loop-preserved : goal.loop-preserved
loop-preserved c = λ verdict. subst (AreKnown verdict) (sym c.in_ok-push.ensures.items) (known-more verdict c.loop.known.items (c.loop.invariant verdict))
