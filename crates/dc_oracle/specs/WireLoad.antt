-- How far the words that came load a wire.
use Rattle.std.specs.Prelude.{◌≡◌, ℕ, suc, ◌+◌, ◌-◌, ◌*◌, ◌≤◌, nat_le, Bool, ◌⊎◌, List}
use Rattle.dc_bound.specs.Window.{count_in}
use Rattle.dc_oracle.specs.declared.wire.WireLoad.{WireLoad}

-- how many microseconds of a tick the words before it still keep the wire
abbrev pub left_us : ℕ → ℕ → WireLoad → ℕ
left_us tick_us tick wire = wire.load_us - (tick - wire.tick) * tick_us

-- whether the wire is free by the end of the tick
abbrev pub can_carry : ℕ → ℕ → WireLoad → Bool
can_carry tick_us tick wire = nat_le (left_us tick_us tick wire) tick_us

-- the wire with one word more, in this tick
abbrev pub loaded : ℕ → ℕ → ℕ → WireLoad → WireLoad
loaded tick_us spacing tick wire = record { tick = tick; load_us = left_us tick_us tick wire + spacing }

-- the time at which it is free, from the beginning of the run on
abbrev pub free_us : ℕ → WireLoad → ℕ
free_us tick_us wire = wire.tick * tick_us + wire.load_us

-- how many came from tick u up to this one
abbrev pub since : ℕ → ℕ → List ℕ → ℕ
since u tick ts = count_in u (suc tick - u) ts

-- The time is the greatest, over all ticks u from which some came up to this one, of the beginning of u and a spacing for each that came; 0 where none came
pub record IsFreeAt (tick_us spacing tick : ℕ) (ts : List ℕ) (free : ℕ) : Type 0 where
  pub most : (u : ℕ) → u ≤ tick → 1 ≤ since u tick ts → u * tick_us + since u tick ts * spacing ≤ free
  pub met : (free ≡ 0) ⊎ ((u : ℕ) × (u ≤ tick) × (1 ≤ since u tick ts) × (free ≤ u * tick_us + since u tick ts * spacing))

-- the load stands for the words that came up to this tick
pub record IsLoad (tick_us spacing tick : ℕ) (ts : List ℕ) (wire : WireLoad) : Type 0 where
  pub past : wire.tick ≤ tick
  pub free : IsFreeAt tick_us spacing tick ts (free_us tick_us wire)

-- a wire that carried nothing
abbrev pub no_load : WireLoad
no_load = record { tick = 0; load_us = 0 }
