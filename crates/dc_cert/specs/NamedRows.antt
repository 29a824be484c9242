-- What a certificate says, as data.
use Rattle.std.specs.Prelude.{ℕ, List, map}
use Rattle.dc_cert.specs.declared.certificate.InputRow.{InputRow}
use Rattle.dc_cert.specs.declared.certificate.OutputRow.{OutputRow}
use Rattle.dc_cert.specs.declared.certificate.LabelRow.{LabelRow}
use Rattle.dc_cert.specs.declared.certificate.Certificate.{Certificate}
use Rattle.dc_document.specs.Names.{text_of}

-- the claim for an input bus: its window, backlog and delay
pub record NamedInput : Type 0 where
  pub bus : List ℕ
  pub window : ℕ
  pub backlog : ℕ
  pub delay : ℕ

-- the claim for an output: its window and delay
pub record NamedOutput : Type 0 where
  pub output : List ℕ
  pub window : ℕ
  pub delay : ℕ

-- the claim for a label: the greatest age of its data
pub record NamedLabel : Type 0 where
  pub label : List ℕ
  pub age : ℕ

-- the claims of a certificate, in order
pub record NamedRows : Type 0 where
  pub inputs : List NamedInput
  pub outputs : List NamedOutput
  pub labels : List NamedLabel

-- ---- what the program's values say

-- the claim for an input bus, with the text of its name
abbrev pub named_input : InputRow → NamedInput
named_input row = record { bus = text_of row.bus; window = row.window; backlog = row.backlog; delay = row.delay }

-- the claim for an output
abbrev pub named_output : OutputRow → NamedOutput
named_output row = record { output = text_of row.output; window = row.window; delay = row.delay }

-- the claim for a label
abbrev pub named_label : LabelRow → NamedLabel
named_label row = record { label = text_of row.label; age = row.age }

-- the claims of the program's certificate, in order
abbrev pub named_rows : Certificate → NamedRows
named_rows c = record { inputs = map named_input c.inputs.items; outputs = map named_output c.outputs.items; labels = map named_label c.labels.items }
