use Rattle.std.proofs.Common.{take}
use Rattle.dc_oracle.specs.Budgets.{IsSized, Watches}
use Rattle.dc_oracle.proofs.budgets.keeps_budgets.Given as goal

abbrev pub invariant-loop-i : goal.invariant-loop-i
invariant-loop-i l = record {
  sized : IsSized l.tables l.watch;
  watches : Watches l.tables l.watch (take l.i l.run);
}
