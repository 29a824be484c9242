-- What was seen of a run, by the rows of tables.
use Rattle.std.specs.Prelude.{◌≡◌, ℕ, None, length, slice_index_or}
use Rattle.dc_observe.specs.declared.labels.LabelNumbers.{LabelNumbers}
use Rattle.dc_seen.specs.declared.rows.InputNumbers.{InputNumbers}
use Rattle.dc_seen.specs.declared.rows.OutputNumbers.{OutputNumbers}
use Rattle.dc_seen.specs.declared.seen.Seen.{Seen}
use Rattle.dc_tables.specs.TableRows.{TableRows}

-- as many inputs, outputs and labels as the tables have
pub record AreSeenOf (t : TableRows) (seen : Seen) : Type 0 where
  pub inputs : length seen.inputs.items ≡ length t.buses
  pub outputs : length seen.outputs.items ≡ length t.outputs
  pub labels : length seen.labels.items ≡ length t.labels

-- of the input of this number, of the output, of the label
abbrev pub seen_input : Seen → ℕ → InputNumbers
seen_input seen b = slice_index_or seen.inputs.items b (record { backlog = 0; wait = 0 })

abbrev pub seen_output : Seen → ℕ → OutputNumbers
seen_output seen o = slice_index_or seen.outputs.items o (record { late = 0 })

abbrev pub seen_label : Seen → ℕ → LabelNumbers
seen_label seen x = slice_index_or seen.labels.items x (record { sent = 0; fallback = 0; age = None; least = None; greatest = 0 })
