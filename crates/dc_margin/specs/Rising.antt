-- The greatest height so far along a walk.
use Rattle.std.specs.Prelude.{◌≡◌, ℕ, ◌≤◌, ◌<◌, ◌⊎◌}

-- h is the greatest height of f at the numbers from 1 to below `end` and up to the window, w the first of them that has it;
-- 0 and 1 before any
pub record IsPeakSoFar (f : ℕ → ℕ) (window end w h : ℕ) : Type 0 where
  pub some : 1 ≤ w
  pub at : ((w ≤ window) × (h ≡ f w)) ⊎ ((w ≡ 1) × (h ≡ 0))
  pub greatest : (v : ℕ) → 1 ≤ v → v < end → v ≤ window → f v ≤ h
  pub first : (v : ℕ) → 1 ≤ v → v < w → f v < h
