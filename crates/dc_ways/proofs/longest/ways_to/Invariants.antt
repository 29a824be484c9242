use Rattle.std.proofs.Common.{◌≡◌, ℕ, ◌<◌, get_or, length}
use Rattle.dc_network.specs.Networks.{greatest_below}
use Rattle.dc_ways.specs.Members.{connection_at, rows_of, way_by}
use Rattle.dc_ways.proofs.longest.ways_to.Given as goal

-- of each stream the greatest over the links so far
abbrev pub invariant-loop-link : goal.invariant-loop-link
invariant-loop-link l = record {
  each : length l.before.items ≡ length (rows_of l.members l.i).streams;
  value : (s : ℕ) → s < length l.before.items → get_or l.before.items s 0 ≡ greatest_below (λ k. way_by l.members (connection_at l.connections k) l.rows l.i s) l.link-index;
}
