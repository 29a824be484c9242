-- What a trace text says: the events of its lines, before its first faulty line.
use Rattle.std.specs.Prelude.{ℕ, ◌+◌, ◌-◌, Bool, ◌==◌, ◌||◌, nat_lt, if◌then◌else◌, Option, Some, None, option_map, option_and_then, Result, Ok, Err, List, [], ◌∷◌, length, codes}
use Rattle.std.specs.Str.{bytes_eq}
use Rattle.dc_device.specs.Lines.{lines_of}
use Rattle.dc_document.specs.Names.{name_of}
use Rattle.dc_document.specs.Names.{number_of}
use Rattle.dc_tables.specs.TableRows.{TableRows}
use Rattle.dc_event.specs.WordText.{word_of}
use Rattle.dc_event.specs.declared.event.Event.{Event}
use Rattle.dc_event.specs.declared.event.Event.TheVariants.{Tick, Arrive, Route, Send}
use Rattle.dc_event.specs.declared.trace.LineRule.{LineRule}
use Rattle.dc_event.specs.declared.trace.LineRule.TheVariants.{LineTooLong, KindUnknown, FieldCountWrong, NameUnknown, NotAWord, LineNotEnded}
use Rattle.dc_event.specs.declared.trace.TraceFault.{TraceFault}
use Rattle.dc_device.specs.declared.reader.TheConstants.{LINE_LIMIT}

-- ---- a line

-- a byte in front of the first field
abbrev pub onto_field : ℕ → List (List ℕ) → List (List ℕ)
onto_field c [] = (c ∷ []) ∷ []
onto_field c (f ∷ fs) = (c ∷ f) ∷ fs

-- the fields of a line, parted by one space
abbrev pub fields_of : List ℕ → List (List ℕ)
fields_of [] = [] ∷ []
fields_of (c ∷ cs) = if c == 32 then [] ∷ fields_of cs else onto_field c (fields_of cs)

-- the number of the name that the text spells, if it spells one, among names in the order of their rows
abbrev pub number_named : List (List ℕ) → List ℕ → Option ℕ
number_named names text = option_and_then (λ name. number_of names name) (name_of text)

-- a value, or the code of a fault where there is none
abbrev pub or_fault : {X : Type 0} → LineRule → Option X → Result X LineRule
or_fault rule None = Err rule
or_fault rule (Some x) = Ok x

-- an arrival: the name is looked up before the word is read
abbrev pub arrival : Option ℕ → Option ℕ → Result Event LineRule
arrival None word = Err NameUnknown
arrival (Some b) None = Err NotAWord
arrival (Some b) (Some w) = Ok (Arrive w b)

-- the fields after A: a bus and a word
abbrev pub arrive_fields : TableRows → List (List ℕ) → Result Event LineRule
arrive_fields t [] = Err FieldCountWrong
arrive_fields t (bus ∷ []) = Err FieldCountWrong
arrive_fields t (bus ∷ word ∷ []) = arrival (number_named t.names.buses bus) (word_of word)
arrive_fields t (bus ∷ word ∷ more ∷ rest) = Err FieldCountWrong

-- after R: a router
abbrev pub route_fields : TableRows → List (List ℕ) → Result Event LineRule
route_fields t [] = Err FieldCountWrong
route_fields t (router ∷ []) = or_fault NameUnknown (option_map (λ r. Route r) (number_named t.names.routers router))
route_fields t (router ∷ more ∷ rest) = Err FieldCountWrong

-- after S: an output
abbrev pub send_fields : TableRows → List (List ℕ) → Result Event LineRule
send_fields t [] = Err FieldCountWrong
send_fields t (output ∷ []) = or_fault NameUnknown (option_map (λ o. Send o) (number_named t.names.outputs output))
send_fields t (output ∷ more ∷ rest) = Err FieldCountWrong

-- after T: nothing
abbrev pub tick_fields : List (List ℕ) → Result Event LineRule
tick_fields [] = Ok Tick
tick_fields (more ∷ rest) = Err FieldCountWrong

-- the first field tells the kind
abbrev pub fields_event : TableRows → List (List ℕ) → Result Event LineRule
fields_event t [] = Err KindUnknown
fields_event t (kind ∷ rest) =
    if bytes_eq kind (codes "A") then arrive_fields t rest
    else if bytes_eq kind (codes "R") then route_fields t rest
    else if bytes_eq kind (codes "S") then send_fields t rest
    else if bytes_eq kind (codes "T") then tick_fields rest
    else Err KindUnknown

-- the event of a whole line within its limit, or the code of its fault
unfoldable pub line_event : TableRows → List ℕ → Result Event LineRule
line_event t line = fields_event t (fields_of line)

-- ---- a text

-- the events before the first fault, and that fault with its line, where there is one
pub record Trace : Type 0 where
  pub events : List Event
  pub fault : Option TraceFault

-- a trace that ends with this fault
abbrev pub faulty : LineRule → ℕ → Trace
faulty rule number = record { events = []; fault = Some (record { rule = rule; line = number }) }

-- an event in front, or the fault of its line
abbrev pub in_front : ℕ → Result Event LineRule → Trace → Trace
in_front number (Ok e) rest = record { events = e ∷ rest.events; fault = rest.fault }
in_front number (Err rule) rest = faulty rule number

-- whether a line passes its limit, or the text passes its limit, with so many bytes of the one and of the other
abbrev pub too_long : ℕ → ℕ → ℕ → Bool
too_long room line text = nat_lt LINE_LIMIT line || nat_lt room text

-- where the text ends after these bytes of a line
abbrev pub ended_by : ℕ → List ℕ → Trace
ended_by number [] = record { events = []; fault = None }
ended_by number (c ∷ cs) = faulty LineNotEnded number

-- the trace of lines from a number on and of what stands after them, where the text may have so many bytes from there on
abbrev pub trace_lines : TableRows → ℕ → ℕ → List (List ℕ) → List ℕ → Trace
trace_lines t room number [] rest = if too_long room (length rest) (length rest) then faulty LineTooLong number else ended_by number rest
trace_lines t room number (l ∷ ls) rest =
    if too_long room (length l) (length l + 1) then faulty LineTooLong number
    else in_front number (line_event t l) (trace_lines t (room - (length l + 1)) (number + 1) ls rest)

-- the trace that a text of at most so many bytes says; lines are counted from 1
unfoldable pub trace_of : TableRows → ℕ → List ℕ → Trace
trace_of t limit text = trace_lines t limit 1 (lines_of text).0 (lines_of text).1
