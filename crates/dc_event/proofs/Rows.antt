-- Worked rows, computed from the definitions.
use Rattle.std.proofs.Common.{true, false, ◌≡◌, ℕ, zero, suc, Some, None, List, [], ◌∷◌, ◌++◌, refl}
use Rattle.dc_bound.specs.Run.{ticks, picks, stamped}
use Rattle.dc_bound.specs.Early.{would_pass, admitted}
use Rattle.dc_bound.specs.Window.{count_in}
use Rattle.dc_event.specs.Offers.{is_early}
use Rattle.dc_bound.specs.Places.{served_in, first_place, each_place}
use Rattle.dc_bound.specs.Moves.{ins, passed, is_overfull, latch, entered, taken, routed_tick, arrived_tick, latest_number, latest_by}
use Rattle.dc_word.specs.Word.{reversed, ones_in, is_odd, body_of, composed_word, copied_word, fallback_word}
use Rattle.dc_word.specs.declared.format.Format.TheVariants.{Bnr}
use Rattle.dc_tables.specs.TableNames.{no_names}
use Rattle.dc_tables.specs.TableRows.{TableRows}
use Rattle.dc_tables.specs.Declares.{stream_of}
use Rattle.dc_event.specs.Buses.{moves}
use Rattle.dc_event.specs.Latest.{latest, latest_arrived}
use Rattle.dc_event.specs.Outputs.{due_by, sent}
use Rattle.dc_event.specs.lemmas.OutputMoves.{output_moves}
use Rattle.dc_event.specs.Choice.{fresh, chosen_source}
use Rattle.dc_event.specs.Replies.{reply, outputs_of}
use Rattle.dc_event.specs.Emissions.{emission, emission_ticks}
use Rattle.dc_event.specs.Steady.{steady}
use Rattle.dc_event.specs.declared.event.Event.{Event}
use Rattle.dc_event.specs.declared.event.Event.TheVariants.{Tick, Arrive, Route, Send}
use Rattle.dc_event.specs.declared.event.Reply.TheVariants.{Queued, BadParity, Undeclared, TooEarly, Overrun, Latched, Took, Empty, Sent, Idle, Now}

-- ---- tables: labels 203 and 204 in octal are 131 and 132

-- one bus with two streams and a queue of this size, one router, one output with one label
abbrev pub small : ℕ → TableRows
small queue = record {
  tick_us = 1000;
  buses = record { queue = queue; police = false; spacing = 350; first = 0; streams = 2; router = 0 } ∷ [];
  streams = record { bus = 0; label = 131; sdi = None; format = Bnr; minimum = 10; maximum = 20; jitter = 0 } ∷ record { bus = 0; label = 132; sdi = None; format = Bnr; minimum = 10; maximum = 20; jitter = 0 } ∷ [];
  routers = record { steps = 1; within = 1; most = 2; visits = 0 ∷ [] } ∷ [];
  outputs = record { steps = 1; within = 2; gap = 1; frame = 15; entries = record { offset = 0; label = 0 } ∷ [] } ∷ [];
  labels = record { output = 0; label = 131; sdi = 0; format = Bnr; sources = 0 ∷ []; stale = 22; age_limit = 30; minimum = 11; maximum = 19 } ∷ [];
  names = no_names;
}

-- the same with two entries of the label, in ticks 0 and 1 of the frame
abbrev twice : TableRows
twice = record {
  tick_us = 1000;
  buses = record { queue = 2; police = false; spacing = 350; first = 0; streams = 2; router = 0 } ∷ [];
  streams = record { bus = 0; label = 131; sdi = None; format = Bnr; minimum = 10; maximum = 20; jitter = 0 } ∷ record { bus = 0; label = 132; sdi = None; format = Bnr; minimum = 10; maximum = 20; jitter = 0 } ∷ [];
  routers = record { steps = 1; within = 1; most = 2; visits = 0 ∷ [] } ∷ [];
  outputs = record { steps = 1; within = 2; gap = 1; frame = 15; entries = record { offset = 0; label = 0 } ∷ record { offset = 1; label = 0 } ∷ [] } ∷ [];
  labels = record { output = 0; label = 131; sdi = 0; format = Bnr; sources = 0 ∷ []; stale = 22; age_limit = 30; minimum = 11; maximum = 19 } ∷ [];
  names = no_names;
}

-- two buses with a stream of the label each, visited in turn
abbrev two_buses : TableRows
two_buses = record {
  tick_us = 1000;
  buses = record { queue = 2; police = false; spacing = 350; first = 0; streams = 2; router = 0 } ∷ record { queue = 2; police = false; spacing = 350; first = 2; streams = 1; router = 0 } ∷ [];
  streams = record { bus = 0; label = 131; sdi = None; format = Bnr; minimum = 10; maximum = 20; jitter = 0 } ∷ record { bus = 0; label = 132; sdi = None; format = Bnr; minimum = 10; maximum = 20; jitter = 0 } ∷ record { bus = 1; label = 131; sdi = None; format = Bnr; minimum = 10; maximum = 20; jitter = 0 } ∷ [];
  routers = record { steps = 1; within = 1; most = 2; visits = 0 ∷ 1 ∷ [] } ∷ [];
  outputs = record { steps = 1; within = 2; gap = 1; frame = 15; entries = record { offset = 0; label = 0 } ∷ [] } ∷ [];
  labels = record { output = 0; label = 131; sdi = 0; format = Bnr; sources = 0 ∷ 2 ∷ []; stale = 22; age_limit = 30; minimum = 11; maximum = 19 } ∷ [];
  names = no_names;
}

-- ---- replies

words_wait_and_are_taken : outputs_of (small 2) (Route 0 ∷ Arrive 0x600000C1 0 ∷ Arrive 0xE0000021 0 ∷ Send 0 ∷ Tick ∷ Route 0 ∷ Tick ∷ Route 0 ∷ [])
    ≡ Empty 0 ∷ Queued 1 ∷ Queued 2 ∷ Sent 131 0xA00000C1 ∷ Now 1 ∷ Took 0x600000C1 0 ∷ Now 2 ∷ Took 0xE0000021 0 ∷ []
unfolding served_in first_place each_place reversed ones_in is_odd body_of composed_word copied_word fallback_word ticks picks stamped stream_of ins passed is_overfull latch entered taken routed_tick arrived_tick latest_number latest_by moves latest due_by sent fresh chosen_source reply outputs_of
words_wait_and_are_taken = refl

routed_word_is_copied : outputs_of (small 2) (Arrive 0x600000C1 0 ∷ Route 0 ∷ Send 0 ∷ [])
    ≡ Queued 1 ∷ Took 0x600000C1 0 ∷ Sent 131 0x600000C1 ∷ []
unfolding served_in first_place each_place reversed ones_in is_odd body_of composed_word copied_word fallback_word ticks picks stamped stream_of ins passed is_overfull latch entered taken routed_tick arrived_tick latest_number latest_by moves latest due_by sent fresh chosen_source reply outputs_of
routed_word_is_copied = refl

waiting_word_is_not_copied : outputs_of (small 2) (Arrive 0x600000C1 0 ∷ Send 0 ∷ Route 0 ∷ [])
    ≡ Queued 1 ∷ Sent 131 0xA00000C1 ∷ Took 0x600000C1 0 ∷ []
unfolding served_in first_place each_place reversed ones_in is_odd body_of composed_word copied_word fallback_word ticks picks stamped stream_of ins passed is_overfull latch entered taken routed_tick arrived_tick latest_number latest_by moves latest due_by sent fresh chosen_source reply outputs_of
waiting_word_is_not_copied = refl

latch_after_overrun : outputs_of (small 1) (Arrive 0x600000C1 0 ∷ Arrive 0xE0000021 0 ∷ Arrive 0x600000C1 0 ∷ Route 0 ∷ Arrive 0x600000C1 0 ∷ Send 0 ∷ [])
    ≡ Queued 1 ∷ Overrun ∷ Latched ∷ Took 0x600000C1 0 ∷ Latched ∷ Sent 131 0xA00000C1 ∷ []
unfolding served_in first_place each_place reversed ones_in is_odd body_of composed_word copied_word fallback_word ticks picks stamped stream_of ins passed is_overfull latch entered taken routed_tick arrived_tick latest_number latest_by moves latest due_by sent fresh chosen_source reply outputs_of
latch_after_overrun = refl

parity_before_declaration : outputs_of (small 2) (Arrive 0x200000C1 0 ∷ Arrive 0xE0000081 0 ∷ [])
    ≡ BadParity ∷ Undeclared ∷ []
unfolding served_in first_place each_place reversed ones_in is_odd body_of composed_word copied_word fallback_word ticks picks stamped stream_of ins passed is_overfull latch entered taken routed_tick arrived_tick latest_number latest_by moves latest due_by sent fresh chosen_source reply outputs_of
parity_before_declaration = refl

copied_word_has_output_sdi : outputs_of (small 2) (Arrive 0xE00001C1 0 ∷ Route 0 ∷ Send 0 ∷ Send 0 ∷ [])
    ≡ Queued 1 ∷ Took 0xE00001C1 0 ∷ Sent 131 0x600000C1 ∷ Idle ∷ []
unfolding served_in first_place each_place reversed ones_in is_odd body_of composed_word copied_word fallback_word ticks picks stamped stream_of ins passed is_overfull latch entered taken routed_tick arrived_tick latest_number latest_by moves latest due_by sent fresh chosen_source reply outputs_of
copied_word_has_output_sdi = refl

-- both entries leave late, and what they carry is chosen when they are sent
late_entries_chosen_when_sent : outputs_of twice (Route 0 ∷ Tick ∷ Route 0 ∷ Send 0 ∷ Tick ∷ Arrive 0x600000C1 0 ∷ Route 0 ∷ Send 0 ∷ [])
    ≡ Empty 0 ∷ Now 1 ∷ Empty 0 ∷ Sent 131 0xA00000C1 ∷ Now 2 ∷ Queued 1 ∷ Took 0x600000C1 0 ∷ Sent 131 0x600000C1 ∷ []
unfolding served_in first_place each_place reversed ones_in is_odd body_of composed_word copied_word fallback_word ticks picks stamped stream_of ins passed is_overfull latch entered taken routed_tick arrived_tick latest_number latest_by moves latest due_by sent fresh chosen_source reply outputs_of
late_entries_chosen_when_sent = refl

-- the first source is fresh but not usable, so the second is copied
usable_source_before_fresh : outputs_of two_buses (Arrive 0xA00000C1 0 ∷ Arrive 0xFFFFFCC1 1 ∷ Route 0 ∷ Route 0 ∷ Send 0 ∷ [])
    ≡ Queued 1 ∷ Queued 1 ∷ Took 0xA00000C1 0 ∷ Took 0xFFFFFCC1 1 ∷ Sent 131 0xFFFFFCC1 ∷ []
unfolding served_in first_place each_place reversed ones_in is_odd body_of composed_word copied_word fallback_word ticks picks stamped stream_of ins passed is_overfull latch entered taken routed_tick arrived_tick latest_number latest_by moves latest due_by sent fresh chosen_source reply outputs_of
usable_source_before_fresh = refl

-- ---- policed buses

-- a policed bus whose streams have this jitter
abbrev policed : ℕ → ℕ → TableRows
policed queue jitter = record (small queue) {
  buses = record { queue = queue; police = true; spacing = 350; first = 0; streams = 2; router = 0 } ∷ [];
  streams = record { bus = 0; label = 131; sdi = None; format = Bnr; minimum = 10; maximum = 20; jitter = jitter } ∷ record { bus = 0; label = 132; sdi = None; format = Bnr; minimum = 10; maximum = 20; jitter = jitter } ∷ [];
}

-- a second word at once is early, one of another stream is not, and it is judged before the latch and the full queue
second_word_is_early : outputs_of (policed 1 0) (Arrive 0x600000C1 0 ∷ Arrive 0x600000C1 0 ∷ Arrive 0xE0000021 0 ∷ Arrive 0x600000C1 0 ∷ Arrive 0x200000C1 0 ∷ Arrive 0xE0000081 0 ∷ [])
    ≡ Queued 1 ∷ TooEarly ∷ Overrun ∷ TooEarly ∷ BadParity ∷ Undeclared ∷ []
unfolding would_pass admitted is_early count_in served_in first_place each_place reversed ones_in is_odd body_of composed_word copied_word fallback_word ticks picks stamped stream_of ins passed is_overfull latch entered taken routed_tick arrived_tick latest_number latest_by moves latest due_by sent fresh chosen_source reply outputs_of
second_word_is_early = refl

-- with a jitter of ten ticks the second is not early, and the third is
third_word_is_early : outputs_of (policed 4 10) (Arrive 0x600000C1 0 ∷ Arrive 0x600000C1 0 ∷ Arrive 0x600000C1 0 ∷ [])
    ≡ Queued 1 ∷ Queued 2 ∷ TooEarly ∷ []
unfolding would_pass admitted is_early count_in served_in first_place each_place reversed ones_in is_odd body_of composed_word copied_word fallback_word ticks picks stamped stream_of ins passed is_overfull latch entered taken routed_tick arrived_tick latest_number latest_by moves latest due_by sent fresh chosen_source reply outputs_of
third_word_is_early = refl

-- ---- steady runs

steady_tick_of_small : steady (small 2) 1 ≡ Route 0 ∷ Route 0 ∷ Send 0 ∷ Tick ∷ []
unfolding steady
steady_tick_of_small = refl

steady_replies : outputs_of (small 2) (steady (small 2) 1) ≡ Empty 0 ∷ Empty 0 ∷ Sent 131 0xA00000C1 ∷ Now 1 ∷ []
unfolding steady served_in first_place each_place reversed ones_in is_odd body_of composed_word copied_word fallback_word ticks picks stamped stream_of ins passed is_overfull latch entered taken routed_tick arrived_tick latest_number latest_by moves latest due_by sent fresh chosen_source reply outputs_of
steady_replies = refl

-- ---- arrivals and emissions

latest_word_came_in_tick_1 : latest_arrived (small 2) 1 (Route 0 ∷ Arrive 0x600000C1 0 ∷ Tick ∷ Arrive 0xE0000021 0 ∷ Tick ∷ Route 0 ∷ Tick ∷ Route 0 ∷ []) ≡ Some 1
unfolding served_in first_place each_place reversed ones_in is_odd ticks picks stamped stream_of ins passed is_overfull latch entered taken routed_tick arrived_tick latest_number latest_by moves latest_arrived
latest_word_came_in_tick_1 = refl

label_leaves_once_a_frame : emission_ticks (small 2) 0 (Send 0 ∷ Send 0 ∷ Tick ∷ Send 0 ∷ []) ≡ 0 ∷ []
unfolding served_in each_place ticks picks due_by sent emission emission_ticks
label_leaves_once_a_frame = refl

what_passes_is_what_is_sent : passed (output_moves (small 2) 0 (Send 0 ∷ Send 0 ∷ Tick ∷ Send 0 ∷ [])) ≡ sent (small 2) 0 (Send 0 ∷ Send 0 ∷ Tick ∷ Send 0 ∷ [])
unfolding served_in each_place ticks picks ins passed due_by sent output_moves
what_passes_is_what_is_sent = refl

-- ---- stale words

abbrev beat : List Event
beat = Route 0 ∷ Send 0 ∷ Tick ∷ []

abbrev beats : ℕ → List Event
beats zero = []
beats (suc n) = beats n ++ beat

-- the word comes in tick 8 and is routed there: 22 ticks later it is still fresh
abbrev word_in_tick_8 : List Event
word_in_tick_8 = beats 8 ++ (Arrive 0x600000C1 0 ∷ beats 22 ++ (Route 0 ∷ []))

fresh_after_22_ticks : chosen_source (small 2) 0 word_in_tick_8 ≡ Some (0, 0x600000C1)
unfolding served_in first_place each_place reversed ones_in is_odd ticks picks stamped stream_of ins passed is_overfull latch entered taken routed_tick arrived_tick latest_number latest_by moves latest fresh chosen_source
fresh_after_22_ticks = refl

fresh_after_7_ticks : chosen_source (small 2) 0 (beats 8 ++ (Arrive 0x600000C1 0 ∷ beats 7 ++ (Route 0 ∷ []))) ≡ Some (0, 0x600000C1)
unfolding served_in first_place each_place reversed ones_in is_odd ticks picks stamped stream_of ins passed is_overfull latch entered taken routed_tick arrived_tick latest_number latest_by moves latest fresh chosen_source
fresh_after_7_ticks = refl

-- where it comes in tick 7, it is stale after 23 ticks
stale_after_23_ticks : chosen_source (small 2) 0 (beats 7 ++ (Arrive 0x600000C1 0 ∷ beats 23 ++ (Route 0 ∷ []))) ≡ None
unfolding served_in first_place each_place reversed ones_in is_odd ticks picks stamped stream_of ins passed is_overfull latch entered taken routed_tick arrived_tick latest_number latest_by moves latest fresh chosen_source
stale_after_23_ticks = refl

-- the label leaves in these ticks of the 31
label_leaves_every_15_ticks : emission_ticks (small 2) 0 (beats 31) ≡ 0 ∷ 15 ∷ 30 ∷ []
unfolding served_in each_place ticks picks due_by sent emission emission_ticks
label_leaves_every_15_ticks = refl
