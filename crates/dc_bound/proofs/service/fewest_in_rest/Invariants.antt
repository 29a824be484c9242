use Rattle.std.proofs.Common.{◌≡◌, ◌+◌, ◌≤◌}
use Rattle.dc_bound.specs.Places.{least}
use Rattle.dc_bound.proofs.Sliding.{visits_in}
use Rattle.dc_bound.proofs.service.fewest_in_rest.Given as goal

abbrev pub invariant-loop-n : goal.invariant-loop-n
invariant-loop-n l = record {
  small : l.least ≤ 256;
  here : l.here ≡ visits_in l.visits l.bus l.n l.rest;
  least : l.least ≡ least (λ n. visits_in l.visits l.bus n l.rest) l.n;
}

abbrev pub invariant-loop-front : goal.invariant-loop-front
invariant-loop-front l = record {
  small : l.least ≤ 256;
  here : l.here ≡ visits_in l.visits l.bus (l.last + l.front) l.rest;
  least : l.least ≡ least (λ n. visits_in l.visits l.bus n l.rest) (l.last + l.front);
}
