use Rattle.dc_ways.specs.Fitting.{IsFound}
use Rattle.dc_ways.specs.Members.{link_of}
use Rattle.dc_ways.proofs.fitting.feeding_label.Given as goal

-- of those so far
abbrev pub invariant-loop-label : goal.invariant-loop-label
invariant-loop-label l = IsFound l.from l.to (link_of l.link) l.stream l.label l.found
