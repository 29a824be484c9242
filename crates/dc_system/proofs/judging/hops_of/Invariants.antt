use Rattle.std.proofs.Common.{◌≡◌, take}
use Rattle.dc_system.specs.Judged.{hops_of}
use Rattle.dc_system.proofs.judging.hops_of.Given as goal

-- those so far
abbrev pub invariant-loop-link : goal.invariant-loop-link
invariant-loop-link l = l.hops.items ≡ hops_of (take l.link-index l.connections)
