-- Tables as they are written, before any rule is tested.
use Rattle.std.specs.Prelude.{ℕ, ◌<◌, ◌≤◌, List, [], ◌∷◌, ◌++◌, length, map, slice_index}
use Rattle.dc_document.specs.declared.parts.Version.{Version}
use Rattle.dc_dict.specs.declared.parameter.Parameter.{Parameter as ParameterPart}
use Rattle.dc_document.specs.declared.parts.BusPart.{BusPart}
use Rattle.dc_document.specs.declared.parts.StreamPart.{StreamPart}
use Rattle.dc_document.specs.declared.parts.RouterPart.{RouterPart}
use Rattle.dc_document.specs.declared.parts.OutputPart.{OutputPart}
use Rattle.dc_document.specs.declared.parts.LabelPart.{LabelPart}

-- each list in the order of the text; a stream names its bus by number, and a label its output
pub record Document : Type 0 where
  pub version : Version
  pub tick_us : ℕ
  pub parameters : List ParameterPart
  pub buses : List BusPart
  pub streams : List StreamPart
  pub routers : List RouterPart
  pub outputs : List OutputPart
  pub labels : List LabelPart

-- the owners of the members follow one another in order, and there are `count` of them
pub record AreOwned (count : ℕ) (owners : List ℕ) : Type 0 where
  pub below : (i : ℕ) → i < length owners → slice_index owners i < count
  pub ascend : (i j : ℕ) → i ≤ j → j < length owners → slice_index owners i ≤ slice_index owners j

-- the number of the bus of each stream
abbrev pub stream_owners : Document → List ℕ
stream_owners d = map (λ s. s.bus) d.streams

-- the number of the output of each label
abbrev pub label_owners : Document → List ℕ
label_owners d = map (λ x. x.output) d.labels

-- the streams follow one another bus by bus, and the labels output by output
pub record IsInOrder (d : Document) : Type 0 where
  pub streams : AreOwned (length d.buses) (stream_owners d)
  pub labels : AreOwned (length d.outputs) (label_owners d)

-- ---- one more

-- a text of this version with this tick, in microseconds, and no table yet
abbrev pub empty_document : Version → ℕ → Document
empty_document version tick_us = record { version = version; tick_us = tick_us; parameters = []; buses = []; streams = []; routers = []; outputs = []; labels = [] }

-- one more parameter
abbrev pub with_parameter : Document → ParameterPart → Document
with_parameter d x = record d { parameters = d.parameters ++ x ∷ [] }

-- one more bus, whose streams follow
abbrev pub with_bus : Document → BusPart → Document
with_bus d x = record d { buses = d.buses ++ x ∷ [] }

-- one more stream of the last bus
abbrev pub with_stream : Document → StreamPart → Document
with_stream d x = record d { streams = d.streams ++ x ∷ [] }

-- one more router
abbrev pub with_router : Document → RouterPart → Document
with_router d x = record d { routers = d.routers ++ x ∷ [] }

-- one more output, whose labels follow
abbrev pub with_output : Document → OutputPart → Document
with_output d x = record d { outputs = d.outputs ++ x ∷ [] }

-- one more label of the last output
abbrev pub with_label : Document → LabelPart → Document
with_label d x = record d { labels = d.labels ++ x ∷ [] }
