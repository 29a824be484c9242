use Rattle.dc_bound.proofs.Summed.{kept_fresh}
use Rattle.dc_bound.proofs.arrival.SumOf.terms.Goals as goal

pub returns : goal.returns
returns g c = λ ticks. (
  c.if-self-gt-MOST_TERMS.false,
  kept_fresh g.B.ArrivalBound.cap c.args.self.now.members.now ticks c.new.result.total c.new.result.counts c.new.result.marks c.if-self-gt-MOST_TERMS.false
      c.new.ensures.total c.new.ensures.counts c.new.ensures.marks,
)
