use Rattle.std.proofs.Common.{◌≡◌, map, take}
use Rattle.dc_run_network.specs.Links.{connection_of}
use Rattle.dc_run_network.proofs.links.connections.Given as goal

-- those so far
abbrev pub invariant-loop-link : goal.invariant-loop-link
invariant-loop-link l = l.all.items ≡ map (connection_of l.concentrators l.members) (take l.link-index l.links)
