use Rattle.std.proofs.Common.{◌≡◌, [], drop}
use Rattle.dc_cell.specs.Titles.{key_behind}
use Rattle.dc_cell.proofs.titles.key_of.Given as goal

abbrev pub invariant-loop-byte : goal.invariant-loop-byte
invariant-loop-byte l = key_behind l.key.items (drop l.byte-index l.title) ≡ key_behind [] l.title
