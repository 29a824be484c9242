-- Rows with their names.
use Rattle.std.specs.Prelude.{◌≡◌, ℕ, ◌<◌, List, [], length, slice_index_or}
use Rattle.dc_tables.specs.TableRows.{TableRows, AreValid}

-- no name stands twice
abbrev pub AreOnce : List (List ℕ) → Type 0
AreOnce names = (i j : ℕ) → i < length names → j < length names → slice_index_or names i [] ≡ slice_index_or names j [] → i ≡ j

-- each row has a name, and the names of a kind differ
pub record HaveNames (t : TableRows) : Type 0 where
  pub buses : length t.names.buses ≡ length t.buses
  pub streams : length t.names.streams ≡ length t.streams
  pub routers : length t.names.routers ≡ length t.routers
  pub outputs : length t.names.outputs ≡ length t.outputs
  pub labels : length t.names.labels ≡ length t.labels
  pub buses_once : AreOnce t.names.buses
  pub streams_once : AreOnce t.names.streams
  pub routers_once : AreOnce t.names.routers
  pub outputs_once : AreOnce t.names.outputs
  pub labels_once : AreOnce t.names.labels

-- valid rows with their names
pub record AreSound (t : TableRows) : Type 0 where
  pub valid : AreValid t
  pub named : HaveNames t
