use Rattle.std.proofs.Common.{take}
use Rattle.dc_oracle.specs.Sources.{IsSized, Watches}
use Rattle.dc_oracle.proofs.sources.keeps_sources.Given as goal

abbrev pub invariant-loop-i : goal.invariant-loop-i
invariant-loop-i l = record {
  sized : IsSized l.tables l.watch;
  watches : Watches l.tables l.watch (take l.i l.run);
}
