-- Which stream of a bus declares a word.
use Rattle.std.specs.Prelude.{ℕ, Bool, true, ◌==◌, ◌&&◌, Option, Some, None, position}
use Rattle.dc_word.specs.Word.{label_of, sdi_of}
use Rattle.dc_tables.specs.TableRows.{TableRows}
use Rattle.dc_tables.specs.declared.rows.Stream.{Stream}

-- a stream declares one SDI, or any
abbrev pub fits : Option ℕ → ℕ → Bool
fits None sdi = true
fits (Some declared) sdi = declared == sdi

-- whether the stream is of the bus and declares the word's label and SDI
abbrev pub declares : ℕ → ℕ → Stream → Bool
declares b w stream = (stream.bus == b) && (stream.label == label_of w) && fits stream.sdi (sdi_of w)

-- the number of the stream of the bus that declares the word
unfoldable pub stream_of : TableRows → ℕ → ℕ → Option ℕ
stream_of t b w = position (declares b w) t.streams
