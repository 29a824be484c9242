-- What the text of tables says, as data: a document whose lists are lists.
use Rattle.std.specs.Prelude.{ℕ, List, [], ◌∷◌, ◌++◌, map}
use Rattle.dc_document.specs.declared.parts.Version.{Version}
use Rattle.dc_dict.specs.declared.parameter.Parameter.{Parameter as ParameterPart}
use Rattle.dc_document.specs.declared.parts.BusPart.{BusPart}
use Rattle.dc_document.specs.declared.parts.StreamPart.{StreamPart}
use Rattle.dc_document.specs.declared.parts.RouterPart.{RouterPart}
use Rattle.dc_document.specs.declared.parts.OutputPart.{OutputPart}
use Rattle.dc_document.specs.declared.parts.LabelPart.{LabelPart}
use Rattle.dc_document.specs.Document.{Document}

-- a router and the names of the buses that it visits
pub record RouterText : Type 0 where
  pub name : List ℕ
  pub steps : ℕ
  pub within : ℕ
  pub most : ℕ
  pub visits : List (List ℕ)

-- a label of an output, the names of its sources and the ticks in which it is due
pub record LabelText : Type 0 where
  pub output : ℕ
  pub name : List ℕ
  pub label : ℕ
  pub equipment : ℕ
  pub sdi : ℕ
  pub sources : List (List ℕ)
  pub stale : ℕ
  pub age : ℕ
  pub offsets : List ℕ

-- tables as their text says them
pub record Written : Type 0 where
  pub version : Version
  pub tick_us : ℕ
  pub parameters : List ParameterPart
  pub buses : List BusPart
  pub streams : List StreamPart
  pub routers : List RouterText
  pub outputs : List OutputPart
  pub labels : List LabelText

-- ---- what the program's values say

-- a router, with the names of the buses that it visits as a list
abbrev pub router_text : RouterPart → RouterText
router_text r = record { name = r.name; steps = r.steps; within = r.within; most = r.most; visits = r.visits.items }

-- a label, with its sources and its offsets as lists
abbrev pub label_text : LabelPart → LabelText
label_text x = record { output = x.output; name = x.name; label = x.label; equipment = x.equipment; sdi = x.sdi; sources = x.sources.items; stale = x.stale; age = x.age; offsets = x.offsets.items }

-- the tables of a document
abbrev pub written : Document → Written
written d = record { version = d.version; tick_us = d.tick_us; parameters = d.parameters; buses = d.buses; streams = d.streams; routers = map router_text d.routers; outputs = d.outputs; labels = map label_text d.labels }

-- ---- one more

-- the version and the length of a tick in microseconds, and no tables yet
abbrev pub nothing_written : Version → ℕ → Written
nothing_written version tick_us = record { version = version; tick_us = tick_us; parameters = []; buses = []; streams = []; routers = []; outputs = []; labels = [] }

-- a parameter, after those before it
abbrev pub and_parameter : Written → ParameterPart → Written
and_parameter d x = record d { parameters = d.parameters ++ x ∷ [] }

-- a bus, after those before it
abbrev pub and_bus : Written → BusPart → Written
and_bus d x = record d { buses = d.buses ++ x ∷ [] }

-- a stream, after those before it
abbrev pub and_stream : Written → StreamPart → Written
and_stream d x = record d { streams = d.streams ++ x ∷ [] }

-- a router, after those before it
abbrev pub and_router : Written → RouterText → Written
and_router d x = record d { routers = d.routers ++ x ∷ [] }

-- an output, after those before it
abbrev pub and_output : Written → OutputPart → Written
and_output d x = record d { outputs = d.outputs ++ x ∷ [] }

-- a label, after those before it
abbrev pub and_label : Written → LabelText → Written
and_label d x = record d { labels = d.labels ++ x ∷ [] }
