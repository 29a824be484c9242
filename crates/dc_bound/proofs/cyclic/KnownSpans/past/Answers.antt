use Rattle.dc_bound.proofs.CyclicWalk.{known_more}
use Rattle.dc_bound.proofs.cyclic.KnownSpans.past.Goals as goal

pub returns-clause-known : goal.returns-clause-known
returns-clause-known c = known_more c.args.frame c.args.offsets.now c.args.self.now.past c.args.k c.least_span_in_rest.result c.least_span_in_rest.ensures.span c.requires.known
