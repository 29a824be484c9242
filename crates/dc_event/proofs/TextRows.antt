-- Worked rows of trace texts and of printed lines, computed from the definitions.
use Rattle.std.proofs.Common.{◌≡◌, ℕ, true, false, Some, None, [], ◌∷◌, ◌++◌, refl}
use Rattle.std.specs.Prelude.{codes}
use Rattle.std.specs.Fmt.{digits}
use Rattle.dc_bound.specs.Run.{ticks, picks, stamped}
use Rattle.dc_bound.specs.Places.{served_in, first_place, each_place}
use Rattle.dc_bound.specs.Moves.{ins, passed, is_overfull, latch, entered, taken, routed_tick, arrived_tick, latest_number, latest_by}
use Rattle.dc_device.specs.Lines.{spelled}
use Rattle.dc_word.specs.Word.{reversed, ones_in, is_odd, body_of, composed_word, copied_word, fallback_word}
use Rattle.dc_document.specs.Names.{padded}
use Rattle.dc_tables.specs.TableRows.{TableRows}
use Rattle.dc_tables.specs.Declares.{stream_of}
use Rattle.dc_event.specs.Buses.{moves}
use Rattle.dc_event.specs.Latest.{latest}
use Rattle.dc_event.specs.Outputs.{due_by, sent}
use Rattle.dc_event.specs.Choice.{fresh, chosen_source}
use Rattle.dc_event.specs.Replies.{reply}
use Rattle.dc_event.specs.WordText.{word_of}
use Rattle.dc_event.specs.TraceText.{line_event, trace_of}
use Rattle.dc_event.specs.ReplyText.{reply_line, run_lines}
use Rattle.dc_event.specs.declared.event.Event.TheVariants.{Tick, Arrive, Route, Send}
use Rattle.dc_event.specs.declared.trace.LineRule.TheVariants.{LineTooLong, KindUnknown, FieldCountWrong, NameUnknown, NotAWord, LineNotEnded}
use Rattle.dc_event.proofs.Rows.{small}

-- the small tables with names
abbrev named : ℕ → TableRows
named queue = record (small queue) {
  names = record {
    buses = padded (codes "A") ∷ [];
    streams = padded (codes "A-203") ∷ padded (codes "A-204") ∷ [];
    routers = padded (codes "R1") ∷ [];
    outputs = padded (codes "O") ∷ [];
    labels = padded (codes "x") ∷ [];
  };
}

-- ---- trace texts

a_trace_is_its_lines : trace_of (named 2) 1000 (spelled (codes "A A 600000C1" ∷ codes "R R1" ∷ codes "S O" ∷ codes "T" ∷ []))
    ≡ record { events = Arrive 0x600000C1 0 ∷ Route 0 ∷ Send 0 ∷ Tick ∷ []; fault = None }
unfolding word_of line_event trace_of
a_trace_is_its_lines = refl

small_digits_are_read : trace_of (named 2) 1000 (spelled (codes "A A 600000c1" ∷ [])) ≡ record { events = Arrive 0x600000C1 0 ∷ []; fault = None }
unfolding word_of line_event trace_of
small_digits_are_read = refl

limit_at_line_3 : trace_of (named 2) 4 (spelled (codes "T" ∷ codes "T" ∷ codes "T" ∷ []))
    ≡ record { events = Tick ∷ Tick ∷ []; fault = Some (record { rule = LineTooLong; line = 3 }) }
unfolding line_event trace_of
limit_at_line_3 = refl

empty_line_has_no_kind : trace_of (named 2) 1000 (spelled (codes "T" ∷ [] ∷ [])) ≡ record { events = Tick ∷ []; fault = Some (record { rule = KindUnknown; line = 2 }) }
unfolding line_event trace_of
empty_line_has_no_kind = refl

two_spaces_make_a_field : trace_of (named 2) 1000 (spelled (codes "R  R1" ∷ [])) ≡ record { events = []; fault = Some (record { rule = FieldCountWrong; line = 1 }) }
unfolding line_event trace_of
two_spaces_make_a_field = refl

a_router_is_no_bus : trace_of (named 2) 1000 (spelled (codes "A R1 600000C" ∷ [])) ≡ record { events = []; fault = Some (record { rule = NameUnknown; line = 1 }) }
unfolding word_of line_event trace_of
a_router_is_no_bus = refl

seven_digits_are_no_word : trace_of (named 2) 1000 (spelled (codes "A A 600000C" ∷ [])) ≡ record { events = []; fault = Some (record { rule = NotAWord; line = 1 }) }
unfolding word_of line_event trace_of
seven_digits_are_no_word = refl

end_inside_a_line : trace_of (named 2) 1000 (spelled (codes "A A 600000C1" ∷ codes "R R1" ∷ codes "S O" ∷ []) ++ codes "S")
    ≡ record { events = Arrive 0x600000C1 0 ∷ Route 0 ∷ Send 0 ∷ []; fault = Some (record { rule = LineNotEnded; line = 4 }) }
unfolding word_of line_event trace_of
end_inside_a_line = refl

-- ---- printed lines

all_lines : run_lines (named 2) true (Route 0 ∷ Arrive 0x600000C1 0 ∷ Arrive 0xE0000021 0 ∷ Send 0 ∷ Tick ∷ Route 0 ∷ Tick ∷ Route 0 ∷ [])
    ≡ codes "0 R1 empty A" ∷ codes "0 A queued 1" ∷ codes "0 A queued 2" ∷ codes "0 O A00000C1" ∷ codes "1 tick" ∷ codes "1 R1 took A 600000C1" ∷ codes "2 tick" ∷ codes "2 R1 took A E0000021" ∷ []
unfolding digits run_lines reply_line served_in first_place each_place reversed ones_in is_odd body_of composed_word copied_word fallback_word ticks picks stamped stream_of ins passed is_overfull latch entered taken routed_tick arrived_tick latest_number latest_by moves latest due_by sent fresh chosen_source reply
all_lines = refl

lines_without_all : run_lines (named 2) false (Arrive 0x600000C1 0 ∷ Route 0 ∷ Send 0 ∷ Send 0 ∷ []) ≡ codes "0 O 600000C1" ∷ []
unfolding digits run_lines reply_line served_in first_place each_place reversed ones_in is_odd body_of composed_word copied_word fallback_word ticks picks stamped stream_of ins passed is_overfull latch entered taken routed_tick arrived_tick latest_number latest_by moves latest due_by sent fresh chosen_source reply
lines_without_all = refl

lines_of_lost_words : run_lines (named 1) false (Arrive 0x600000C1 0 ∷ Arrive 0xE0000021 0 ∷ Arrive 0x600000C1 0 ∷ Arrive 0x200000C1 0 ∷ Arrive 0xE0000081 0 ∷ [])
    ≡ codes "0 A overrun E0000021" ∷ codes "0 A latched 600000C1" ∷ codes "0 A parity 200000C1" ∷ codes "0 A undeclared E0000081" ∷ []
unfolding digits run_lines reply_line served_in first_place each_place reversed ones_in is_odd body_of composed_word copied_word fallback_word ticks picks stamped stream_of ins passed is_overfull latch entered taken routed_tick arrived_tick latest_number latest_by moves latest due_by sent fresh chosen_source reply
lines_of_lost_words = refl
