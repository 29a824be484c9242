use Rattle.std.proofs.Common.{◌≡◌, ◌≤◌, length}
use Rattle.std.specs.Prelude.{drop}
use Rattle.dc_drive.specs.Played.{events, own}
use Rattle.dc_drive.proofs.compare.are_own.Given as goal

abbrev pub invariant-loop-i : goal.invariant-loop-i
invariant-loop-i l =
    (events (drop l.next l.receipts) ≡ own l.actor (drop l.i l.run) → events (drop l.before l.receipts) ≡ own l.actor l.run)
    × (events (drop l.before l.receipts) ≡ own l.actor l.run → events (drop l.next l.receipts) ≡ own l.actor (drop l.i l.run))
    × (l.next ≤ length l.receipts)
