-- What is known of the words of a bus that have one label and one SDI.
use Rattle.std.specs.Prelude.{◌≡◌, ℕ, ◌+◌, ◌*◌, ◌%◌, ◌<◌, Option, Some, None, length, slice_index_or}
use Rattle.dc_tables.specs.Declares.{stream_of}
use Rattle.dc_tables.specs.TableRows.{TableRows}
use Rattle.dc_survey.specs.declared.known_streams.TheConstants.{KINDS}
use Rattle.dc_survey.specs.declared.known_streams.Declared.{Declared}
use Rattle.dc_survey.specs.declared.known_streams.Declared.TheVariants.{NotAsked, Undeclared, Stream}
use Rattle.dc_survey.specs.declared.known_streams.KnownStreams.{KnownStreams}

-- what is known of such words, where this stream declares them, if any does
abbrev pub Tells : Option ℕ → Declared → Type 0
Tells stream NotAsked = Unit {0}
Tells stream Undeclared = stream ≡ None
Tells stream (Stream s) = stream ≡ Some s

-- there is a place for each bus, label and SDI, and it tells of the words that have them
pub record AreKnown (t : TableRows) (k : KnownStreams) : Type 0 where
  pub places : length k.places.items ≡ length t.buses * KINDS
  pub told : (b w : ℕ) → b < length t.buses → Tells (stream_of t b w) (slice_index_or k.places.items (b * KINDS + w % KINDS) NotAsked)
