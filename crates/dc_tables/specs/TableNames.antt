-- The names of what tables hold.
use Rattle.std.specs.Prelude.{ℕ, List, []}

-- the names of the buses, streams, routers, outputs and labels, each list in the order of its rows
pub record TableNames : Type 0 where
  pub buses : List (List ℕ)
  pub streams : List (List ℕ)
  pub routers : List (List ℕ)
  pub outputs : List (List ℕ)
  pub labels : List (List ℕ)

-- tables without names, for worked rows
abbrev pub no_names : TableNames
no_names = record { buses = []; streams = []; routers = []; outputs = []; labels = [] }
