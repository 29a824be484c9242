use Rattle.std.proofs.Common.{◌≡◌}
use Rattle.std.specs.Prelude.{take}
use Rattle.dc_drive.specs.Played.{counts}
use Rattle.dc_drive.proofs.driving.counts_of.Given as goal

abbrev pub invariant-loop-k : goal.invariant-loop-k
invariant-loop-k g l = l.counts.items ≡ counts g.S.Player.seat (take l.k l.seats.items)
