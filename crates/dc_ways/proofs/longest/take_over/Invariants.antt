use Rattle.std.proofs.Common.{◌≡◌, ℕ, ◌<◌, ◌≤◌, max, get_or, length}
use Rattle.dc_network.specs.Networks.{way_over}
use Rattle.dc_ways.specs.Members.{link_of}
use Rattle.dc_ways.proofs.longest.take_over.Given as goal

-- those so far are taken, the others are as they were
abbrev pub invariant-loop-stream : goal.invariant-loop-stream
invariant-loop-stream l = record {
  each : length l.before ≡ length l.initial.before;
  taken : (s : ℕ) → s < l.stream → get_or l.before s 0 ≡ max (get_or l.initial.before s 0) (way_over l.from l.to (link_of l.link) (λ y. get_or l.ways y 0) s);
  left : (s : ℕ) → l.stream ≤ s → get_or l.before s 0 ≡ get_or l.initial.before s 0;
}
