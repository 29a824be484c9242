use Rattle.std.proofs.Common.{◌≡◌, ℕ, List, ◌++◌, length}
use Rattle.std.specs.Io.KnownBytes.{Appends}
use Rattle.dc_device.proofs.writer.push_all.Given as goal

abbrev pub invariant-loop-rest : goal.invariant-loop-rest
invariant-loop-rest g l =
    record {
      written : (front : List ℕ) × (front ++ l.rest ≡ l.bytes) × Appends (g.K.Sink.state l.fn.sink).contents (g.K.Sink.state l.sink).contents front;
      failed : (g.K.Sink.state l.sink).failed ≡ (g.K.Sink.state l.fn.sink).failed;
      answered : (g.K.Sink.state l.sink).answered ≡ (g.K.Sink.state l.fn.sink).answered;
    }

abbrev pub decreases-loop-rest : goal.decreases-loop-rest
decreases-loop-rest g l = length l.rest
