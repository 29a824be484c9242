-- The intervals in microseconds that a document's tables have.
use Rattle.std.specs.Prelude.{ℕ, Option, slice_get}
use Rattle.std.specs.Option.{option_map_or, option_and_then}
use Rattle.dc_dict.specs.declared.parameter.Parameter.{Parameter as ParameterPart}
use Rattle.dc_document.specs.Document.{Document}
use Rattle.dc_document.specs.Keys.{stream_key, label_key}
use Rattle.dc_rules.specs.Rules.{parameter_of}
use Rattle.dc_tables.specs.TableRows.{TableRows, bus_row}
use Rattle.dc_time.specs.Intervals.{Intervals}

-- the parameter of the stream, and of the label, of this number
abbrev pub stream_parameter : Document → ℕ → Option ParameterPart
stream_parameter d s = option_and_then (λ row. parameter_of d.parameters (stream_key row)) (slice_get d.streams s)

abbrev pub label_parameter : Document → ℕ → Option ParameterPart
label_parameter d x = option_and_then (λ row. parameter_of d.parameters (label_key row)) (slice_get d.labels x)

-- the intervals of their parameters, each stream's jitter, and the spacing of each wire
abbrev pub intervals_of : Document → TableRows → Intervals
intervals_of d t = record {
  spacing = λ b. (bus_row t b).spacing;
  stream_least = λ s. option_map_or (λ p. p.min_us) (stream_parameter d s) 0;
  stream_most = λ s. option_map_or (λ p. p.max_us) (stream_parameter d s) 0;
  stream_jitter = λ s. option_map_or (λ row. row.jitter_us) (slice_get d.streams s) 0;
  label_least = λ x. option_map_or (λ p. p.min_us) (label_parameter d x) 0;
  label_most = λ x. option_map_or (λ p. p.max_us) (label_parameter d x) 0;
}
