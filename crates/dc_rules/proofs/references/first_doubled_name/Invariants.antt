use Rattle.std.proofs.Common.{◌≡◌, [], take, drop}
use Rattle.std.specs.Str.{bytes_eq}
use Rattle.dc_rules.specs.Rules.{doubled_from}
use Rattle.dc_rules.proofs.references.first_doubled_name.Given as goal

abbrev pub invariant-loop-i : goal.invariant-loop-i
invariant-loop-i l = doubled_from bytes_eq (take l.i l.names) l.i (drop l.i l.names) ≡ doubled_from bytes_eq [] 0 l.names
