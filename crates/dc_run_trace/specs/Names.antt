-- Names kept with their lengths, for the lines of events.
use Rattle.std.specs.Prelude.{◌≡◌, ℕ, ◌<◌, ◌≤◌, List, slice_index_or, take}
use Rattle.dc_document.specs.declared.limits.TheConstants.{NAME_LIMIT}
use Rattle.dc_event.specs.ReplyText.{name_at}
use Rattle.dc_run_trace.specs.declared.texts.NameText.{NameText}

-- this text is kept
abbrev pub Keeps : NameText → List ℕ → Type 0
Keeps kept text = (kept.len ≤ NAME_LIMIT) × (take kept.len kept.bytes ≡ text)

-- the first names are kept, each at its number
abbrev pub KeepsFirst : List NameText → List (List ℕ) → ℕ → Type 0
KeepsFirst texts names count = (n : ℕ) (none : NameText) → n < count → Keeps (slice_index_or texts n none) (name_at names n)
