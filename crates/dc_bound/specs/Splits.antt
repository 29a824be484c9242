-- What a walk along the spans of a frame keeps.
use Rattle.std.specs.Prelude.{◌≡◌, ℕ, ◌+◌, ◌-◌, ◌*◌, ◌<◌, List, length, slice_index}
use Rattle.dc_bound.specs.Frame.{IsLeastSpan}

-- a count is that of some whole frames, which last `whole` ticks, and of a rest of a frame
pub record IsSplit (frame n count whole rest : ℕ) : Type 0 where
  pub rounds : ℕ
  pub whole_is : rounds * frame ≡ whole
  pub count_is : rounds * n + rest ≡ count
  pub part : rest < n

-- the number at each place k of a frame, where it is not 0, is one past the least span of k + 1 neighbouring entries
abbrev pub ArePastSpans : (frame : ℕ) (offsets past : List ℕ) → Type 0
ArePastSpans frame offsets past = (k : ℕ) → k < length offsets → 0 < slice_index past k → IsLeastSpan frame offsets k (length offsets) (slice_index past k - 1)
