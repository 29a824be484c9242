use Rattle.std.proofs.Common.{◌≡◌, ◌++◌, length}
use Rattle.dc_run_network.specs.Lines.{accepted_text, fed, way_lines}
use Rattle.dc_run_network.proofs.ways.tell_ways.Given as goal

-- the lines of those so far
abbrev pub invariant-loop-i : goal.invariant-loop-i
invariant-loop-i l = l.page ≡ accepted_text (length l.concentrators) l.links ++ fed (way_lines l.concentrators l.members l.rows l.i)
