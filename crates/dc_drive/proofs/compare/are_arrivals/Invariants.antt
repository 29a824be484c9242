use Rattle.std.proofs.Common.{◌≡◌, ◌≤◌, length}
use Rattle.std.specs.Prelude.{drop}
use Rattle.dc_drive.specs.Played.{events, arrivals}
use Rattle.dc_drive.proofs.compare.are_arrivals.Given as goal

abbrev pub invariant-loop-i : goal.invariant-loop-i
invariant-loop-i l =
    (events (drop l.next l.receipts) ≡ arrivals l.bus (drop l.i l.words) → events (drop l.before l.receipts) ≡ arrivals l.bus l.words)
    × (events (drop l.before l.receipts) ≡ arrivals l.bus l.words → events (drop l.next l.receipts) ≡ arrivals l.bus (drop l.i l.words))
    × (l.next ≤ length l.receipts)
