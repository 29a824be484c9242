use Rattle.std.proofs.Common.{◌≡◌, map, take}
use Rattle.dc_run_network.specs.Links.{hop_of}
use Rattle.dc_run_network.proofs.links.hops.Given as goal

-- those so far
abbrev pub invariant-loop-link : goal.invariant-loop-link
invariant-loop-link l = l.all.items ≡ map (hop_of l.concentrators) (take l.link-index l.links)
