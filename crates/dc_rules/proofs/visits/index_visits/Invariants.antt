use Rattle.std.proofs.Common.{◌≡◌, ℕ, List, take}
use Rattle.std.specs.Str.{bytes_eq}
use Rattle.indexmap.specs.IndexMap.{get}
use Rattle.dc_rules.specs.Visits.{visitors_of}
use Rattle.dc_rules.proofs.visits.index_visits.Given as goal

abbrev pub invariant-loop-number : goal.invariant-loop-number
invariant-loop-number l = (n : List ℕ) → get bytes_eq l.visits.known n ≡ visitors_of (take l.number l.routers) n
