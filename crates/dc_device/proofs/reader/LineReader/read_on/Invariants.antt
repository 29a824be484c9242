use Rattle.std.proofs.Common.{◌≡◌, ℕ, ◌+◌, List, ◌++◌, length}
use Rattle.dc_device.specs.Lines.{NoFeed}
use Rattle.dc_device.proofs.reader.LineReader.read_on.Given as goal

abbrev pub invariant-loop-byte : goal.invariant-loop-byte
invariant-loop-byte l =
    (front : List ℕ) × (l.fn.self.bytes ≡ front ++ l.self.bytes) × (l.line.items ≡ l.fn.line.items ++ front) × NoFeed front
    × (length front + l.self.room ≡ l.fn.self.room)

abbrev pub decreases-loop-byte : goal.decreases-loop-byte
decreases-loop-byte l = length l.self.bytes
