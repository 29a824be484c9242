use Rattle.std.specs.Prelude.{◌≡◌, ◌≤◌, take}
use Rattle.dc_hub.specs.Entries.{overruns_in}
use Rattle.dc_hub.proofs.closed.Closed.overruns.Given as goal

abbrev pub invariant-loop-i : goal.invariant-loop-i
invariant-loop-i l = (l.count ≡ overruns_in (take l.i l.self.entries)) × (l.count ≤ l.i)
