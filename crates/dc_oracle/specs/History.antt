-- The ticks of what one actor or one stream did.
use Rattle.std.specs.Prelude.{ℕ, ◌+◌, ◌-◌, Bool, nat_le, nat_lt, not, ◌&&◌, List, length, slice_index}

-- whether the one `count` places before the end is there, and lies in the last `window` ticks
abbrev pub held : ℕ → ℕ → ℕ → List ℕ → Bool
held count window tick ts = nat_le count (length ts) && nat_lt (tick - slice_index ts (length ts - count)) window

-- whether so many ticks are over at the end of this one, and the last of them hold fewer than `steps`
abbrev pub lacking : ℕ → ℕ → ℕ → List ℕ → Bool
lacking steps within tick ts = nat_le within (tick + 1) && not (held steps within tick ts)
