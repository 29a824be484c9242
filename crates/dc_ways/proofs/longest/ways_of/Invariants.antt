use Rattle.std.proofs.Common.{◌≡◌, ℕ, ◌<◌, get_or, length}
use Rattle.dc_network.specs.Networks.{way_of}
use Rattle.dc_ways.specs.Members.{network_of, ways_in}
use Rattle.dc_ways.proofs.longest.ways_of.Given as goal

-- those so far are the ways
abbrev pub invariant-loop-label : goal.invariant-loop-label
invariant-loop-label l = (length l.row ≡ l.label) × ((x : ℕ) → x < l.label → get_or l.row x 0 ≡ way_of (network_of l.members l.connections) (ways_in l.rows) l.i x)
