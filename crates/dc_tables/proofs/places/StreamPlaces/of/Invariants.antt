use Rattle.std.proofs.Common.{◌≤◌, length}
use Rattle.dc_tables.specs.Places.{AreFirst}
use Rattle.dc_tables.proofs.places.StreamPlaces.of.Given as goal

abbrev pub invariant-loop-at : goal.invariant-loop-at
invariant-loop-at l = record {
  inside : l.at ≤ length l.streams;
  first : AreFirst l.places.places l.streams l.at;
}

abbrev pub decreases-loop-at : goal.decreases-loop-at
decreases-loop-at l = l.at
