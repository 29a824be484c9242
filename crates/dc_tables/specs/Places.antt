-- Where the streams of a bus stand, by their label and SDI.
use Rattle.std.specs.Prelude.{◌≡◌, ℕ, ◌+◌, ◌*◌, ◌<◌, ◌≤◌, Bool, true, false, cond, ◌==◌, ◌&&◌, List, length, slice_index_or, None}
use Rattle.dc_word.specs.declared.format.Format.TheVariants.{Bnr}
use Rattle.dc_tables.specs.Declares.{fits}
use Rattle.dc_tables.specs.declared.rows.Stream.{Stream}

-- whether a stream declares this label and SDI
abbrev pub takes : ℕ → ℕ → Stream → Bool
takes label sdi stream = (stream.label == label) && fits stream.sdi sdi

-- the stream that stands here
abbrev pub stream_at : List Stream → ℕ → Stream
stream_at streams k = slice_index_or streams k (record { bus = 0; label = 0; sdi = None; format = Bnr; minimum = 0; maximum = 0; jitter = 0 })

-- of the streams from this one on, the first that declares a label and an SDI stands at their place
abbrev pub AreFirst : List ℕ → List Stream → ℕ → Type 0
AreFirst places streams start = (label sdi k : ℕ) → label < 256 → sdi < 4 → start ≤ k → k < length streams → takes label sdi (stream_at streams k) ≡ true
    → ((j : ℕ) → start ≤ j → j < k → takes label sdi (stream_at streams j) ≡ false) → slice_index_or places (label * 4 + sdi) 0 ≡ k

-- these labels and SDIs get a place, and the others keep theirs
abbrev pub IsPut : (ℕ → ℕ → Bool) → ℕ → List ℕ → List ℕ → Type 0
IsPut taken at old new = (label sdi : ℕ) → label < 256 → sdi < 4 → slice_index_or new (label * 4 + sdi) 0 ≡ cond (taken label sdi) at (slice_index_or old (label * 4 + sdi) 0)
