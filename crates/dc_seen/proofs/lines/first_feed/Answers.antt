use Rattle.std.proofs.Common.{arith, subst}
use Rattle.std.proofs.lemmas.List.{take_all}
use Rattle.dc_device.specs.Lines.{NoFeed}
use Rattle.dc_device.specs.lemmas.LineLemmas.{NoFeed-take}
use Rattle.dc_seen.proofs.lines.first_feed.Goals as goal

pub loop-i-preserved : goal.loop-i-preserved
loop-i-preserved c = NoFeed-take c.args.bytes.now c.loop-i.i (omega arith) c.if-bytes-i-eq10.false c.loop-i.invariant

pub returns : goal.returns
returns c = subst NoFeed (take_all c.loop-i.i c.args.bytes.now (omega arith)) c.loop-i.invariant
