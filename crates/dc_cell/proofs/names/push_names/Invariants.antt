use Rattle.std.proofs.Common.{◌≡◌, [], drop}
use Rattle.dc_cell.specs.Names.{names_behind}
use Rattle.dc_cell.proofs.names.push_names.Given as goal

abbrev pub invariant-loop-byte : goal.invariant-loop-byte
invariant-loop-byte l = names_behind l.names.items l.part.items (drop l.byte-index l.text) ≡ names_behind l.initial.names.items [] l.text
