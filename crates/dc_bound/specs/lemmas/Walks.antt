-- The stretches of a walk, of one cap each.
use Rattle.std.proofs.Common.{◌≡◌, ℕ, ◌+◌, ◌<◌, ◌≤◌, min, Option, Some, None, arith}
use Rattle.std.specs.Option.{unwrap_or}
use Rattle.dc_bound.specs.Window.{IsNextJump, Shown}

-- up to the next jump, or to the end of the walk, the cap stays
pub shown_to_jump : (f : ℕ → ℕ) (d last until most : ℕ) (jump : Option ℕ) → last ≤ 100000 → IsNextJump f d jump → until ≡ min (unwrap_or jump (last + 1)) (last + 1) → most ≡ f d → Shown f d until most
shown_to_jump f d last until most None far flat is here = λ k from to. omega (arith, flat k from (omega arith))
shown_to_jump f d last until most (Some j) far at is here = λ k from to. omega (arith, at.2 k from (omega arith))

-- and the next stretch begins later
pub shown_some : (f : ℕ → ℕ) (d last until : ℕ) (jump : Option ℕ) → d ≤ last → IsNextJump f d jump → until ≡ min (unwrap_or jump (last + 1)) (last + 1) → d < until
shown_some f d last until None inside flat is = omega arith
shown_some f d last until (Some j) inside at is = omega (arith, at.0)
