-- The lines of a survey.
use Rattle.std.specs.Prelude.{ℕ, zero, suc, Bool, true, false, ◌||◌, ◌&&◌, not, Option, Some, None, List, [], ◌∷◌, ◌++◌, length, codes, decimal}
use Rattle.dc_answer.specs.Answer.{fault_text}
use Rattle.dc_capture.specs.CaptureFaults.{capture_rule_code}
use Rattle.dc_capture.specs.declared.fault.CaptureFault.{CaptureFault}
use Rattle.dc_event.specs.ReplyText.{name_at}
use Rattle.dc_gauge.specs.declared.stream.StreamGauge.{StreamGauge}
use Rattle.dc_survey.specs.States.{pace_state_of, wire_state_of}
use Rattle.dc_survey.specs.Surveys.{bus_gauge, stream_gauge}
use Rattle.dc_survey.specs.declared.bus_gauge.BusGauge.{BusGauge}
use Rattle.dc_survey.specs.declared.states.PaceState.{PaceState}
use Rattle.dc_survey.specs.declared.states.PaceState.TheVariants.{Kept as PaceKept, EarlyAt, Silent}
use Rattle.dc_survey.specs.declared.states.WireState.{WireState}
use Rattle.dc_survey.specs.declared.states.WireState.TheVariants.{Kept as WireKept, BrokenAt, Policed}
use Rattle.dc_survey.specs.declared.survey.Survey.{Survey}
use Rattle.dc_tables.specs.TableRows.{TableRows, is_policed, stream_row}

-- ---- a line

-- a number behind a word
abbrev pub figure_text : List ℕ → ℕ → List ℕ
figure_text word n = word ++ decimal n

-- an interval in microseconds; `-` where fewer than two words came
abbrev pub interval_text : Option ℕ → List ℕ
interval_text None = codes "-"
interval_text (Some us) = decimal us

-- how the words of a bus kept its wire's spacing
abbrev pub wire_text : WireState → List ℕ
wire_text WireKept = codes "kept"
wire_text (BrokenAt line) = figure_text (codes "broken at ") line
wire_text Policed = codes "policed"

-- how the words of a stream kept its timing
abbrev pub pace_text : PaceState → List ℕ
pace_text PaceKept = codes "kept"
pace_text (EarlyAt line) = figure_text (codes "early at ") line
pace_text Silent = codes "silent"

-- the counts of a bus's words: those of its streams, the even ones, and the odd ones of no stream
abbrev pub bus_counts : BusGauge → List ℕ
bus_counts g = figure_text (codes " words ") g.wire.words ++ figure_text (codes " parity ") g.parity ++ figure_text (codes " undeclared ") g.undeclared

-- they, the least interval, and how its wire was kept
abbrev pub bus_numbers : BusGauge → WireState → List ℕ
bus_numbers g state = bus_counts g ++ (codes " spacing " ++ interval_text g.wire.least) ++ codes " " ++ wire_text state

-- as `bus A words 812 parity 0 undeclared 3 spacing 1000 kept`
abbrev pub bus_text : (name : List ℕ) → BusGauge → WireState → List ℕ
bus_text name g state = codes "bus " ++ name ++ bus_numbers g state

-- how many words of a stream came, and their least and greatest interval
abbrev pub stream_intervals : StreamGauge → List ℕ
stream_intervals g = figure_text (codes " words ") g.words ++ (codes " least " ++ interval_text g.least) ++ codes " greatest " ++ interval_text g.greatest

-- their least jitter, how many intervals are over the declared one, and how its timing was kept
abbrev pub stream_lateness : StreamGauge → PaceState → List ℕ
stream_lateness g state = figure_text (codes " jitter ") g.jitter ++ figure_text (codes " over ") g.over ++ codes " " ++ pace_text state

-- as `stream A-203 words 400 least 25000 greatest 25180 jitter 60 over 0 kept`
abbrev pub stream_text : (name : List ℕ) → StreamGauge → PaceState → List ℕ
stream_text name g state = codes "stream " ++ name ++ stream_intervals g ++ stream_lateness g state

-- ---- all lines

-- the line of a bus, and of a stream
abbrev pub bus_line : TableRows → Survey → ℕ → List ℕ
bus_line t w b = bus_text (name_at t.names.buses b) (bus_gauge w b) (wire_state_of t w b)

abbrev pub stream_line : TableRows → Survey → ℕ → List ℕ
stream_line t w s = stream_text (name_at t.names.streams s) (stream_gauge w s) (pace_state_of w s)

-- the first n of some lines
unfoldable pub first_lines : (ℕ → List ℕ) → ℕ → List (List ℕ)
first_lines line zero = []
first_lines line (suc n) = first_lines line n ++ line n ∷ []

-- a line for each bus in order, and one for each stream
abbrev pub bus_lines : TableRows → Survey → List (List ℕ)
bus_lines t w = first_lines (bus_line t w) (length t.buses)

abbrev pub stream_lines : TableRows → Survey → List (List ℕ)
stream_lines t w = first_lines (stream_line t w) (length t.streams)

-- the line of a capture's fault, where it has one
abbrev pub fault_lines : Option CaptureFault → List (List ℕ)
fault_lines None = []
fault_lines (Some f) = fault_text (capture_rule_code f.rule) f.line ∷ []

-- a blank line stands where there is none
abbrev pub or_blank : List (List ℕ) → List (List ℕ)
or_blank [] = [] ∷ []
or_blank (line ∷ lines) = line ∷ lines

-- the buses, the streams, and the fault
abbrev pub survey_lines : TableRows → Survey → Option CaptureFault → List (List ℕ)
survey_lines t w fault = bus_lines t w ++ (stream_lines t w ++ fault_lines fault)

-- ---- the text of lines

-- lines behind line feeds
abbrev pub fed : List (List ℕ) → List ℕ
fed [] = []
fed (line ∷ lines) = 10 ∷ line ++ fed lines

-- lines parted by line feeds
abbrev pub parted : List (List ℕ) → List ℕ
parted [] = []
parted (line ∷ lines) = line ++ fed lines

-- what stands between so many lines and one more
abbrev pub feed_behind : ℕ → List ℕ
feed_behind zero = []
feed_behind (suc n) = 10 ∷ []

-- the line of a fault behind so many, where there is one
abbrev pub fault_behind : ℕ → Option CaptureFault → List ℕ
fault_behind n None = []
fault_behind n (Some f) = feed_behind n ++ fault_text (capture_rule_code f.rule) f.line

-- ---- what is refused

-- whether a number below n passes a test
unfoldable pub any_below : (ℕ → Bool) → ℕ → Bool
any_below test zero = false
any_below test (suc n) = any_below test n || test n

-- whether a wire is broken
abbrev pub is_broken : WireState → Bool
is_broken WireKept = false
is_broken (BrokenAt line) = true
is_broken Policed = false

-- whether a stream is early
abbrev pub is_early : PaceState → Bool
is_early PaceKept = false
is_early (EarlyAt line) = true
is_early Silent = false

-- whether a wire is broken, or a stream is early whose bus is not policed
abbrev pub breaks_wires : TableRows → Survey → Bool
breaks_wires t w = any_below (λ b. is_broken (wire_state_of t w b)) (length t.buses)

abbrev pub breaks_paces : TableRows → Survey → Bool
breaks_paces t w = any_below (λ s. not (is_policed t (stream_row t s).bus) && is_early (pace_state_of w s)) (length t.streams)
