use Rattle.std.proofs.Common.{◌≡◌, ◌≤◌, ◌+◌, ◌-◌, length}
use Rattle.std.specs.Io.KnownBytes.{Consumes}
use Rattle.dc_device.proofs.whole.read_at_most.Given as goal

abbrev pub invariant-loop-n : goal.invariant-loop-n
invariant-loop-n g l =
    record {
      read : Consumes (g.S.Source.state l.fn.source).remaining (g.S.Source.state l.source).remaining l.text.items;
      within : length l.text.items ≤ l.limit;
      failed : (g.S.Source.state l.source).failed ≡ (g.S.Source.state l.fn.source).failed;
      asked : (g.S.Source.state l.source).asked ≤ (g.S.Source.state l.fn.source).asked + length l.text.items;
      dry : (g.S.Source.state l.source).dry ≡ (g.S.Source.state l.fn.source).dry;
    }

abbrev pub decreases-loop-n : goal.decreases-loop-n
decreases-loop-n g l = l.limit - length l.text.items
