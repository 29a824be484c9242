use Rattle.std.proofs.Common.{take}
use Rattle.dc_device.specs.Lines.{NoFeed}
use Rattle.dc_seen.proofs.lines.first_feed.Given as goal

abbrev pub invariant-loop-i : goal.invariant-loop-i
invariant-loop-i l = NoFeed (take l.i l.bytes)
