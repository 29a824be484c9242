use Rattle.std.proofs.Common.{◌≡◌, [], take, drop}
use Rattle.dc_rules.specs.Rules.{doubled_from}
use Rattle.dc_rules.proofs.index.distinct.Given as goal

abbrev pub invariant-loop-i : goal.invariant-loop-i
invariant-loop-i g l = (l.known.keys ≡ take l.i l.keys) × (doubled_from g.K.PartialEq.eq (take l.i l.keys) l.i (drop l.i l.keys) ≡ doubled_from g.K.PartialEq.eq [] 0 l.keys)
