use Rattle.std.proofs.Common.{◌≡◌, ℕ, List, take}
use Rattle.std.specs.List.{list_any}
use Rattle.std.specs.Str.{bytes_eq}
use Rattle.indexmap.specs.IndexMap.{get}
use Rattle.dc_rules.specs.Visits.{with_router}
use Rattle.dc_rules.proofs.visits.Visits.add_all.Given as goal

abbrev pub invariant-loop-name : goal.invariant-loop-name
invariant-loop-name l = (n : List ℕ) → get bytes_eq l.self.known n ≡ with_router (list_any (bytes_eq n) (take l.name-index l.names)) (get bytes_eq l.initial.self.known n) l.router
