-- The lists of names that tables have.
use Rattle.std.specs.Prelude.{ℕ, List, Option, Some, None}
use Rattle.dc_document.specs.Names.{name_of, number_of}
use Rattle.dc_tables.specs.TableRows.{TableRows}
use Rattle.dc_engine.specs.declared.name_list.NameList.{NameList}
use Rattle.dc_engine.specs.declared.name_list.NameList.TheVariants.{Buses, Streams, Routers, Outputs, Labels}

-- the names of a list, by number
abbrev pub names_in : TableRows → NameList → List (List ℕ)
names_in t Buses = t.names.buses
names_in t Streams = t.names.streams
names_in t Routers = t.names.routers
names_in t Outputs = t.names.outputs
names_in t Labels = t.names.labels

-- the number of a name among these, where it is a name
abbrev pub known_among : List (List ℕ) → Option (List ℕ) → Option ℕ
known_among names None = None
known_among names (Some name) = number_of names name

-- the number of the name with this text among these
abbrev pub number_named : List (List ℕ) → List ℕ → Option ℕ
number_named names text = known_among names (name_of text)
