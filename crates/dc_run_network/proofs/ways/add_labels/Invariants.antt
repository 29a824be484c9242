use Rattle.std.proofs.Common.{◌≡◌, ◌++◌}
use Rattle.dc_run_network.specs.Lines.{fed, label_lines}
use Rattle.dc_ways.specs.Members.{ways_in}
use Rattle.dc_run_network.proofs.ways.add_labels.Given as goal

-- the lines of those so far
abbrev pub invariant-loop-label : goal.invariant-loop-label
invariant-loop-label l = l.page ≡ l.fn.page ++ fed (label_lines l.name l.tables (ways_in l.rows l.i) l.label)
