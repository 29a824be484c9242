-- Words that are offered to a bus, and which of them are early.
use Rattle.std.specs.Prelude.{ℕ, Bool, false, cond, ◌==◌, ◌&&◌, Option, Some, None, List}
use Rattle.dc_bound.specs.Window.{ticks_of}
use Rattle.dc_bound.specs.Run.{stamped}
use Rattle.dc_bound.specs.Early.{jitter_cap, would_pass, admitted}
use Rattle.dc_word.specs.Word.{is_odd}
use Rattle.dc_tables.specs.Declares.{stream_of}
use Rattle.dc_tables.specs.TableRows.{TableRows, stream_row, is_policed}
use Rattle.dc_event.specs.Time.{ends, tick_after}
use Rattle.dc_event.specs.declared.event.Event.{Event}
use Rattle.dc_event.specs.declared.event.Event.TheVariants.{Tick, Arrive, Route, Send}

-- the stream of which the event offers a word to the bus: a word of odd parity (ARINC Specification 429 Part 1, 2.3.4) whose label and SDI a stream of the bus declares
abbrev pub offer_of : TableRows → ℕ → Event → Option ℕ
offer_of t b Tick = None
offer_of t b (Arrive w a) = cond ((a == b) && is_odd w) (stream_of t b w) None
offer_of t b (Route r) = None
offer_of t b (Send o) = None

-- a number, where it is s
abbrev pub only : ℕ → Option ℕ → Option ℕ
only s None = None
only s (Some x) = cond (x == s) (Some x) None

-- whether the event offers a word of the stream
abbrev pub offer_on : TableRows → ℕ → Event → Option ℕ
offer_on t s e = only s (offer_of t (stream_row t s).bus e)

-- the ticks of the offered words of a stream
abbrev pub offered : TableRows → ℕ → List Event → List ℕ
offered t s run = ticks_of (stamped ends (offer_on t s) 0 run)

-- the most arrivals of a stream in so many consecutive ticks
abbrev pub cap_of : TableRows → ℕ → ℕ → ℕ
cap_of t s d = jitter_cap (stream_row t s).minimum (stream_row t s).jitter d

-- whether a word of the stream is early after the events of past: counted with the stream's earlier words that were not early,
-- some d ticks that end in its own would pass the cap
unfoldable pub is_early : TableRows → ℕ → List Event → Bool
is_early t s past = would_pass (cap_of t s) (admitted (cap_of t s) (offered t s past)) (tick_after past)

-- whether the bus refuses a word of the stream, where there is one: a policed bus refuses early words
abbrev pub refuses_early : TableRows → ℕ → List Event → Option ℕ → Bool
refuses_early t b past None = false
refuses_early t b past (Some s) = is_policed t b && is_early t s past

-- the stream, where the bus does not refuse its word
abbrev pub let_in : TableRows → ℕ → List Event → Option ℕ → Option ℕ
let_in t b past o = cond (refuses_early t b past o) None o
