-- What `margins` tells of clocks that drift by so many millionths: what they ask of sources, and what labels keep, in whole microseconds.
use Rattle.std.specs.Prelude.{ℕ, Bool, zero, suc, if◌then◌else◌, Option, Some, None, List, [], ◌∷◌, ◌++◌, length, slice_index, codes, decimal}
use Rattle.dc_build.specs.Written.{WrittenRows}
use Rattle.dc_drift.specs.Drift.{drifting_intervals, oldest_of}
use Rattle.dc_event.specs.ReplyText.{name_at}
use Rattle.dc_in_time.specs.Documents.{intervals_of}
use Rattle.dc_run_margins.specs.declared.drift.DriftPart.{DriftPart}
use Rattle.dc_run_margins.specs.declared.drift.DriftPart.TheVariants.{Wires, Sources, Sent}
use Rattle.dc_run_margins.specs.declared.telling.LineKey.TheVariants.{Line}
use Rattle.dc_run_margins.specs.Telling.{told_as}
use Rattle.dc_tables.specs.TableRows.{TableRows, bus_row, is_policed}
use Rattle.dc_time.specs.Intervals.{Intervals}

-- a number of microseconds, and what is declared
abbrev pub figure_text : List ℕ → (figure declared : ℕ) → List ℕ
figure_text word figure declared = word ++ decimal figure ++ codes " of " ++ decimal declared

-- `wire A least 351 of 350`: the least spacing that its words must keep
abbrev pub wire_text : TableRows → (drift bus : ℕ) → List ℕ
wire_text t drift b = codes "wire " ++ name_at t.names.buses b ++ figure_text (codes " least ") ((drifting_intervals t drift).spacing b) (bus_row t b).spacing

-- a stream with the least interval that it must keep, the greatest with which it is live, and the jitter that it may have
abbrev pub source_text_by : (kept declared : Intervals) → (name : List ℕ) → (stream : ℕ) → List ℕ
source_text_by kept declared name s =
    codes "source " ++ name ++ figure_text (codes " least ") (kept.stream_least s) (declared.stream_least s)
    ++ figure_text (codes " most ") (kept.stream_most s) (declared.stream_most s) ++ figure_text (codes " jitter ") (kept.stream_jitter s) (declared.stream_jitter s)

-- how old a word that leaves may be; `-` where no certificate is accepted
abbrev pub oldest_text : TableRows → (drift : ℕ) → Option (List ℕ) → (label : ℕ) → List ℕ
oldest_text t drift None x = codes "-"
oldest_text t drift (Some ages) x = decimal (oldest_of t drift (slice_index ages x))

-- a label with the least and the greatest interval that it keeps, and that
abbrev pub sent_text_by : (kept declared : Intervals) → (name : List ℕ) → (age : List ℕ) → (label : ℕ) → List ℕ
sent_text_by kept declared name age x =
    codes "sent " ++ name ++ figure_text (codes " least ") (kept.label_least x) (declared.label_least x)
    ++ figure_text (codes " most ") (kept.label_most x) (declared.label_most x) ++ codes " age " ++ age

-- what is said of the bus, stream or label of this number
abbrev pub drift_text : WrittenRows → (drift : ℕ) → Option (List ℕ) → DriftPart → ℕ → List ℕ
drift_text w drift ages Wires k = wire_text w.tables drift k
drift_text w drift ages Sources k = source_text_by (drifting_intervals w.tables drift) (intervals_of w.parts w.tables) (name_at w.tables.names.streams k) k
drift_text w drift ages Sent k =
    sent_text_by (drifting_intervals w.tables drift) (intervals_of w.parts w.tables) (name_at w.tables.names.labels k) (oldest_text w.tables drift ages k) k

-- the line with it; none of a bus that is policed
abbrev pub drift_line : (json : Bool) → WrittenRows → (drift : ℕ) → Option (List ℕ) → DriftPart → ℕ → List (List ℕ)
drift_line json w drift ages Wires k = if is_policed w.tables k then [] else told_as json Line (drift_text w drift ages Wires k) ∷ []
drift_line json w drift ages Sources k = told_as json Line (drift_text w drift ages Sources k) ∷ []
drift_line json w drift ages Sent k = told_as json Line (drift_text w drift ages Sent k) ∷ []

-- how many buses, streams or labels there are
abbrev pub part_count : TableRows → DriftPart → ℕ
part_count t Wires = length t.buses
part_count t Sources = length t.streams
part_count t Sent = length t.labels

-- the lines of the first n
unfoldable pub texts_below : (ℕ → List (List ℕ)) → ℕ → List (List ℕ)
texts_below lines zero = []
texts_below lines (suc n) = texts_below lines n ++ lines n

-- the lines of all of a part
abbrev pub part_lines : (json : Bool) → WrittenRows → (drift : ℕ) → Option (List ℕ) → DriftPart → List (List ℕ)
part_lines json w drift ages part = texts_below (drift_line json w drift ages part) (part_count w.tables part)

-- the wires', the sources' and the labels'
abbrev pub drift_lines : (json : Bool) → WrittenRows → (drift : ℕ) → Option (List ℕ) → List (List ℕ)
drift_lines json w drift ages = part_lines json w drift ages Wires ++ (part_lines json w drift ages Sources ++ part_lines json w drift ages Sent)

-- where a drift is asked for
abbrev pub lines_of_drift : (json : Bool) → WrittenRows → Option ℕ → Option (List ℕ) → List (List ℕ)
lines_of_drift json w None ages = []
lines_of_drift json w (Some drift) ages = drift_lines json w drift ages
