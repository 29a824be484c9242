-- The least numbers of a queue, among all windows.
use Rattle.std.proofs.Common.{◌≡◌, ℕ, ◌+◌, ◌-◌, ◌≤◌, Option, Some, None, refl, arith}
use Rattle.dc_bound.specs.lemmas.Jumps.{Grows}
use Rattle.dc_busy.specs.BusyWindow.{Closes, BacklogBounded, DelayBounded}
use Rattle.dc_busy.specs.Least.{IsLeastUpToLongest}

-- what bounds the backlog of a window bounds that of a shorter one
pub shorter-backlog : (a s : ℕ → ℕ) (short long backlog : ℕ) → short ≤ long → BacklogBounded a s long backlog → BacklogBounded a s short backlog
shorter-backlog a s short long backlog h bounded w some inside = bounded w some (omega arith)

pub shorter-delay : (a s : ℕ → ℕ) (short long delay : ℕ) → short ≤ long → DelayBounded a s long delay → DelayBounded a s short delay
shorter-delay a s short long delay h bounded w some inside = bounded w some (omega arith)

-- in a window that closes, none waits for as many ticks as the window has
pub closing-bounds_delay : (a s : ℕ → ℕ) → Grows a → Grows s → (window : ℕ) → Closes a s window → DelayBounded a s window (window - 1)
closing-bounds_delay a s a_grows s_grows window closes w some inside =
    omega (arith, a_grows w window inside, closes, s_grows (window - 1) (w - 1 + (window - 1)) (omega arith))

-- so it has a least delay
pub closing-has_delay : (a s : ℕ → ℕ) → Grows a → Grows s → (window : ℕ) → 1 ≤ window → window ≤ 100000 → Closes a s window →
    (found : Option ℕ) → IsLeastUpToLongest (DelayBounded a s window) found → (d : ℕ) × (found ≡ Some d)
closing-has_delay a s a_grows s_grows window some most closes None h =
    absurd (h (window - 1) (omega arith) (closing-bounds_delay a s a_grows s_grows window closes))
closing-has_delay a s a_grows s_grows window some most closes (Some d) h = (d, refl)
