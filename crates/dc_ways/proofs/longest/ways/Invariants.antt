use Rattle.std.proofs.Common.{◌≡◌, ℕ, vec_len}
use Rattle.dc_ways.specs.Members.{AreSoFar, ways_in}
use Rattle.dc_ways.proofs.longest.ways.Given as goal

-- empty rows
abbrev pub invariant-loop : goal.invariant-loop
invariant-loop l = (vec_len l.rows ≡ l.counter) × ((i x : ℕ) → ways_in l.rows.items i x ≡ 0)

-- those of lesser places have their ways, and of this one the first i
abbrev pub invariant-loop-level : goal.invariant-loop-level
invariant-loop-level l = AreSoFar l.members l.connections l.places l.level 0 l.rows.items

abbrev pub invariant-loop-i : goal.invariant-loop-i
invariant-loop-i l = AreSoFar l.members l.connections l.places l.level l.i l.rows.items
