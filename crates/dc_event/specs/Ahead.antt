-- A line that stands whole among bytes.
use Rattle.std.specs.Prelude.{◌≡◌, ℕ, ◌+◌, ◌<◌, ◌≤◌, List, ◌∷◌, ◌++◌, length, Ok}
use Rattle.dc_device.specs.Lines.{Held, HoldsLine, NoFeed}
use Rattle.dc_device.specs.declared.reader.TheConstants.{LINE_LIMIT}
use Rattle.dc_tables.specs.TableRows.{TableRows}
use Rattle.dc_event.specs.TraceText.{line_event}
use Rattle.dc_event.specs.declared.event.Event.{Event}

-- bytes begin with a line within its limit that says this event, and with its line feed it takes so many of them
abbrev pub StartsWithLine : TableRows → List ℕ → Event → ℕ → Type 0
StartsWithLine t bytes event count =
    (line : List ℕ) × (rest : List ℕ) × (bytes ≡ line ++ 10 ∷ rest) × NoFeed line × (length line ≤ LINE_LIMIT) × (length line + 1 ≡ count) × (line_event t line ≡ Ok event)

-- the held bytes begin with such a line, within the limit of the text
abbrev pub HoldsEvent : TableRows → Held → Event → ℕ → Type 0
HoldsEvent t held event count = (line : List ℕ) × HoldsLine held line × (length line + 1 ≡ count) × (line_event t line ≡ Ok event)
