use Rattle.std.proofs.Common.{arith}
use Rattle.dc_trace.specs.lemmas.Bringing.{traces-bring}
use Rattle.dc_trace.proofs.laws.traces_bring_the_capture.Goals as goal

pub returns : goal.returns
returns c = traces-bring c.args.tables.now (omega (arith, c.valid.ensures.ticks_some)) c.steady_ticks.ensures
