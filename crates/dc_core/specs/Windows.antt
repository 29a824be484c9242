-- What a window of step counts holds of the ticks of an actor's steps, where tick `whole` is the unfinished one.
use Rattle.std.specs.Prelude.{◌≡◌, ℕ, ◌-◌, min, map, List}
use Rattle.std.specs.List.{range_with_len}
use Rattle.dc_bound.specs.Window.{count_in}
use Rattle.dc_queue.specs.WindowData.{WindowData}

-- how many of the steps each of the n ticks from u on holds
abbrev pub counts : ℕ → ℕ → List ℕ → List ℕ
counts u n ts = map (λ v. count_in v 1 ts) (range_with_len u n)

-- how many finished ticks a window d wide has in the unfinished tick `whole`
abbrev pub finished : ℕ → ℕ → ℕ
finished d whole = min (d - 1) whole

-- the window, d ticks wide, holds the counts of the last ticks up to the unfinished one, and its ticks have room for `most` steps
pub record HoldsSteps (d most whole : ℕ) (ts : List ℕ) (w : WindowData) : Type 0 where
  pub width : w.width ≡ d
  pub room : w.room ≡ most
  pub past : w.past ≡ counts (whole - finished d whole) (finished d whole) ts
  pub count : w.count ≡ count_in whole 1 ts
