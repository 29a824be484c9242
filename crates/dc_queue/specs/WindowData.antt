-- What a clause sees of a window of step counts.
use Rattle.std.specs.Prelude.{ℕ, ◌+◌, ◌-◌, ◌==◌, ◌&&◌, Bool, nat_lt, nat_le, List, [], ◌∷◌, ◌++◌, length, sum}
use Rattle.circular_buffer.specs.Buffer.{keep_last}

-- how many ticks the window is wide, how many steps a tick has room for, the counts of the finished ticks among the last `width`, the oldest first, and the count of the unfinished tick
pub record WindowData : Type 0 where
  pub width : ℕ
  pub room : ℕ
  pub past : List ℕ
  pub count : ℕ

-- a window before the first step
abbrev pub empty_window : ℕ → ℕ → WindowData
empty_window width room = record { width = width; room = room; past = []; count = 0 }

-- how many steps the last `width` ticks hold, the unfinished one included
abbrev pub steps_of : WindowData → ℕ
steps_of w = sum w.past + w.count

-- with one step more
abbrev pub added : WindowData → WindowData
added w = record { width = w.width; room = w.room; past = w.past; count = w.count + 1 }

-- when the tick ends
abbrev pub turned : WindowData → WindowData
turned w = record { width = w.width; room = w.room; past = keep_last (w.width - 1) (w.past ++ w.count ∷ []); count = 0 }

-- whether the unfinished tick has room for no step more
abbrev pub is_full_tick : WindowData → Bool
is_full_tick w = nat_le w.room w.count

-- whether as many ticks have begun as the window is wide, and they hold fewer than n steps
abbrev pub lacks : WindowData → ℕ → Bool
lacks w n = (length w.past + 1 == w.width) && nat_lt (steps_of w) n
