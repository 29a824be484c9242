use Rattle.std.specs.Prelude.{◌≡◌, ◌≤◌, length, take}
use Rattle.dc_hub.specs.Closing.{receipts_of}
use Rattle.dc_hub.proofs.closing.first_unlike.Given as goal

abbrev pub invariant-loop-i : goal.invariant-loop-i
invariant-loop-i l = (take l.next l.receipts ≡ receipts_of l.actor (take l.i l.entries)) × (l.next ≤ length l.receipts)
