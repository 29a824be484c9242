-- Entries that are due at fixed offsets in each frame.
use Rattle.std.specs.Prelude.{◌≡◌, ℕ, ◌+◌, ◌*◌, ◌/◌, ◌%◌, ◌≤◌, ◌<◌, nat_le, List, length, slice_index, slice_index_or}
use Rattle.dc_bound.specs.Window.{count_in, ticks_of}
use Rattle.dc_bound.specs.Places.{count_below}
use Rattle.dc_bound.specs.Rounds.{most_among}

-- the tick at which entry n, from 0, is due
abbrev pub due : ℕ → List ℕ → ℕ → ℕ
due frame offsets n = n / length offsets * frame + slice_index offsets (n % length offsets)

-- the ticks are the first due ticks
abbrev pub IsDue : ℕ → List ℕ → List (ℕ × ℕ) → Type 0
IsDue frame offsets xs = (k : ℕ) → k < length (ticks_of xs) → slice_index (ticks_of xs) k ≡ due frame offsets k

-- how many offsets are this one
abbrev pub entries_at : List ℕ → ℕ → ℕ
entries_at offsets i = count_in i 1 offsets

-- each is below the next, and all below the frame
pub record Offsets (frame : ℕ) (offsets : List ℕ) : Type 0 where
  pub some : 1 ≤ length offsets
  pub ascend : (i j : ℕ) → i < j → j < length offsets → slice_index offsets i < slice_index offsets j
  pub below : (i : ℕ) → i < length offsets → slice_index offsets i < frame

-- the greatest number of entries due in d consecutive ticks
abbrev pub cyclic_cap : (frame : ℕ) (offsets : List ℕ) → ℕ → ℕ
cyclic_cap frame offsets d = most_among (λ i. entries_at offsets i) frame d

-- ---- the same for entries of any kind, whose offset is `off`

-- the tick at which entry number n, from 0, of a frame that comes again and again is due
abbrev pub due_of_entry : {E : Type 0} → (E → ℕ) → E → ℕ → List E → ℕ → ℕ
due_of_entry off z frame es n = n / length es * frame + off (slice_index_or es (n % length es) z)

-- offsets ascend, and all lie below the frame
pub record IsFrame {E : Type 0} (off : E → ℕ) (z : E) (frame : ℕ) (es : List E) : Type 0 where
  pub some : 1 ≤ length es
  pub ascend : (i j : ℕ) → i < j → j < length es → off (slice_index_or es i z) < off (slice_index_or es j z)
  pub below : (i : ℕ) → i < length es → off (slice_index_or es i z) < frame

-- how many entries are due at a tick or before it. No entry of a greater number than the tick is, since due ticks ascend
unfoldable pub due_so_far : (ℕ → ℕ) → ℕ → ℕ
due_so_far due tick = count_below (λ n. nat_le (due n) tick) (tick + 1)

-- `least` is the least span of k + 1 neighbouring entries that begin with one below n, and is met
pub record IsLeastSpan (frame : ℕ) (offsets : List ℕ) (k n least : ℕ) : Type 0 where
  pub met : (i : ℕ) × (due frame offsets (i + k) ≡ due frame offsets i + least)
  pub below : (i : ℕ) → i < n → due frame offsets i + least ≤ due frame offsets (i + k)
