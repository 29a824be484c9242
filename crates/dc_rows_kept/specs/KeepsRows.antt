-- When a document of tables keeps the rows of the two sheets of an interface document.
use Rattle.std.specs.Prelude.{◌≡◌, ◌≢◌, ℕ, ◌+◌, ◌*◌, ◌≤◌, ◌<◌, true, List, length, slice_get, slice_index_or, IfSome, IsSomeAnd}
use Rattle.std.specs.List.{All, Contains}
use Rattle.dc_cell.specs.declared.rows.InputRow.{InputRow}
use Rattle.dc_cell.specs.declared.rows.OutputRow.{OutputRow}
use Rattle.dc_cell.specs.declared.rows.Task.{Task}
use Rattle.dc_dict.specs.Rows.{row_of}
use Rattle.dc_dict.specs.declared.parameter.Parameter.{Parameter as ParameterPart}
use Rattle.dc_document.specs.Document.{Document}
use Rattle.dc_document.specs.declared.parts.BusPart.{BusPart}
use Rattle.dc_document.specs.declared.parts.StreamPart.{StreamPart}
use Rattle.dc_document.specs.declared.parts.OutputPart.{OutputPart}
use Rattle.dc_document.specs.declared.parts.LabelPart.{LabelPart}
use Rattle.dc_rows_kept.specs.declared.kept.Unkept.{Unkept}
use Rattle.dc_rows_kept.specs.declared.kept.Unkept.TheVariants.{StreamCount, LabelCount, Input, Output}

-- ---- what a task surely does

-- who makes the steps that a row says, in the time that it says, makes so many in so many ticks: these are no more steps, and no
-- fewer microseconds
pub record AsksNoMore (tick many ticks : ℕ) (task : Task) : Type 0 where
  pub steps : many ≤ task.steps
  pub within : task.within_us ≤ ticks * tick

-- each router that visits a bus asks no more of its task
abbrev pub RoutersAskNoMore : Document → (bus : List ℕ) → Task → Type 0
RoutersAskNoMore d bus task = All (λ r. Contains r.visits.items bus → AsksNoMore d.tick_us r.steps r.within task) d.routers

-- ---- a row of the inputs

-- a stream of the row's bus with its label and its SDI, under the row's name where it has one
pub record IsStreamOf (row : InputRow) (s : StreamPart) (b : BusPart) : Type 0 where
  pub bus : b.name ≡ row.bus
  pub label : s.label ≡ row.label
  pub sdi : s.sdi ≡ row.sdi
  pub named : IfSome row.name (λ n. s.name ≡ n)

-- a bus of the row's speed, policed where the row asks for that, with a queue of at most so many words as the row says
pub record IsBusOf (row : InputRow) (b : BusPart) : Type 0 where
  pub speed : b.speed ≡ row.speed
  pub police : row.police ≡ true → b.police ≡ true
  pub queue : IfSome row.queue (λ q. b.queue ≤ q)

-- a stream of this parameter that lets all words come that the row lets come: of its code and format, as often, as rarely and as late
pub record LetsCome (row : InputRow) (s : StreamPart) (p : ParameterPart) : Type 0 where
  pub equipment : s.equipment ≡ row.equipment
  pub format : p.format ≡ row.format
  pub least : p.min_us ≤ row.min_us
  pub greatest : row.max_us ≤ p.max_us
  pub jitter : row.jitter_us ≤ s.jitter_us

-- the document's bus of the stream and its parameter are such, and the routers of the row's bus ask no more of their tasks than it says
pub record KeepsInput (d : Document) (row : InputRow) (s : StreamPart) : Type 0 where
  pub bus : IsSomeAnd (slice_get d.buses s.bus) (λ b. IsStreamOf row s b × IsBusOf row b)
  pub words : IsSomeAnd (row_of d.parameters s.label s.equipment) (LetsCome row s)
  pub task : IfSome row.task (RoutersAskNoMore d row.bus)

-- the document has such a stream
abbrev pub HasStream : Document → InputRow → Type 0
HasStream d row = (s : StreamPart) × Contains d.streams s × KeepsInput d row s

-- ---- a row of the outputs

-- a label of the row's output, of its speed, with its label and its SDI, under the row's name where it has one
pub record IsLabelOf (row : OutputRow) (x : LabelPart) (o : OutputPart) : Type 0 where
  pub output : o.name ≡ row.output
  pub speed : o.speed ≡ row.speed
  pub label : x.label ≡ row.label
  pub sdi : x.sdi ≡ row.sdi
  pub named : IfSome row.name (λ n. x.name ≡ n)

-- a label of this parameter that sends no word which the row forbids: of its code and format, no sooner and no later
pub record SendsWithin (row : OutputRow) (x : LabelPart) (p : ParameterPart) : Type 0 where
  pub equipment : x.equipment ≡ row.equipment
  pub format : IfSome row.format (λ f. p.format ≡ f)
  pub least : row.min_us ≤ p.min_us
  pub greatest : p.max_us ≤ row.max_us

-- A label that sends the data of the row's sources, in their order, none that is older than the row lets them be, and none of a
-- source that has been silent for longer than its timeout: an age of `age` ticks is less than `age + 1` whole ticks.
pub record SendsData (tick : ℕ) (row : OutputRow) (x : LabelPart) : Type 0 where
  pub sources : x.sources.items ≡ row.sources.items
  pub age : IfSome row.max_age_us (λ most. (x.age + 1) * tick ≤ most)
  pub timeout : IfSome row.timeout_us (λ most. x.stale * tick ≤ most)

-- the document's output of the label, its parameter and its data are such, and the output asks no more of its task than the row says
pub record KeepsOutput (d : Document) (row : OutputRow) (x : LabelPart) : Type 0 where
  pub output : IsSomeAnd (slice_get d.outputs x.output) (λ o. IsLabelOf row x o × IfSome row.task (AsksNoMore d.tick_us o.steps o.within))
  pub words : IsSomeAnd (row_of d.parameters x.label x.equipment) (SendsWithin row x)
  pub sent : SendsData d.tick_us row x

-- the document has such a label
abbrev pub HasLabel : Document → OutputRow → Type 0
HasLabel d row = (x : LabelPart) × Contains d.labels x × KeepsOutput d row x

-- ---- both sheets

-- as many streams as rows of the inputs and as many labels as rows of the outputs, and each row has its own
pub record KeepsRows (ins : List InputRow) (outs : List OutputRow) (d : Document) : Type 0 where
  pub streams : length d.streams ≡ length ins
  pub labels : length d.labels ≡ length outs
  pub inputs : All (HasStream d) ins
  pub outputs : All (HasLabel d) outs

-- P does not hold of the row of this number, and holds of each before it
pub record IsFirstWithout {X : Type 0} (P : X → Type 0) (rows : List X) (k : ℕ) : Type 0 where
  pub there : k < length rows
  pub here : (e : X) → ¬ P (slice_index_or rows k e)
  pub before : (j : ℕ) (e : X) → j < k → P (slice_index_or rows j e)

-- why a document does not keep the rows: what is asked first of all that does not hold
abbrev pub IsFirstUnkept : List InputRow → List OutputRow → Document → Unkept → Type 0
IsFirstUnkept inputs outputs d StreamCount = length d.streams ≢ length inputs
IsFirstUnkept inputs outputs d LabelCount = (length d.streams ≡ length inputs) × (length d.labels ≢ length outputs)
IsFirstUnkept inputs outputs d (Input k) = (length d.streams ≡ length inputs) × (length d.labels ≡ length outputs) × IsFirstWithout (HasStream d) inputs k
IsFirstUnkept inputs outputs d (Output k) =
    (length d.streams ≡ length inputs) × (length d.labels ≡ length outputs) × All (HasStream d) inputs × IsFirstWithout (HasLabel d) outputs k
