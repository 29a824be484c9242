-- How far the words of a stream are ahead of their pace.
use Rattle.std.specs.Prelude.{◌≡◌, ℕ, ◌+◌, ◌-◌, ◌≤◌, Bool, nat_lt, List}
use Rattle.dc_bound.specs.Early.{pace_of}
use Rattle.dc_oracle.specs.declared.pace.Pace.{Pace}

-- how many ticks of it are left in this tick
abbrev pub left : ℕ → Pace → ℕ
left tick p = p.ahead - (tick - p.tick)

-- whether a word of this tick is early: more ticks are left than the jitter
abbrev pub is_early_at : (jitter tick : ℕ) → Pace → Bool
is_early_at jitter tick p = nat_lt jitter (left tick p)

-- the pace with one word more, in this tick
abbrev pub moved : (minimum tick : ℕ) → Pace → Pace
moved minimum tick p = record { tick = tick; ahead = left tick p + minimum }

-- it stands for the words that came up to this tick
pub record IsPaceOf (minimum tick : ℕ) (ts : List ℕ) (p : Pace) : Type 0 where
  pub past : p.tick ≤ tick
  pub number : pace_of minimum ts ≡ p.tick + p.ahead

-- no word came
abbrev pub no_pace : Pace
no_pace = record { tick = 0; ahead = 0 }
