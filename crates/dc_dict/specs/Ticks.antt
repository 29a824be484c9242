-- Intervals in ticks, made from microseconds. They lean to the safe side.
use Rattle.std.specs.Prelude.{ℕ, ◌+◌, ◌-◌, ◌/◌, nat_lt, if◌then◌else◌, Result, Ok, Err}
use Rattle.std.specs.Int.{div_ceil}
use Rattle.dc_dict.specs.declared.fault.DictFault.{DictFault}
use Rattle.dc_dict.specs.declared.fault.DictFault.TheVariants.{NoTicks}
use Rattle.dc_dict.specs.declared.ticks.Interval.{Interval}

-- of an input, in ticks: the whole ticks of the least interval
abbrev pub in_minimum : (min_us tick_us : ℕ) → ℕ
in_minimum min_us tick_us = min_us / tick_us

-- of an input, in ticks: those that the greatest interval begins
abbrev pub in_maximum : (max_us tick_us : ℕ) → ℕ
in_maximum max_us tick_us = div_ceil max_us tick_us

-- how late of their rhythm the words of a stream may come: the ticks that the jitter begins
abbrev pub jitter_ticks : (jitter_us tick_us : ℕ) → ℕ
jitter_ticks jitter_us tick_us = div_ceil jitter_us tick_us

-- of an output, in ticks: one more than the least interval begins
abbrev pub out_minimum : (min_us tick_us : ℕ) → ℕ
out_minimum min_us tick_us = div_ceil min_us tick_us + 1

-- of an output, in ticks: one less than the whole ticks of the greatest interval
abbrev pub out_maximum : (max_us tick_us : ℕ) → ℕ
out_maximum max_us tick_us = max_us / tick_us - 1

-- the interval on an input, whose least is a tick or more
unfoldable pub in_interval : (min_us max_us tick_us : ℕ) → Result Interval DictFault
in_interval min_us max_us tick_us =
    if nat_lt (in_minimum min_us tick_us) 1 then Err NoTicks
    else Ok (record { min = in_minimum min_us tick_us; max = in_maximum max_us tick_us })

-- the interval on an output, whose greatest is its least or more
unfoldable pub out_interval : (min_us max_us tick_us : ℕ) → Result Interval DictFault
out_interval min_us max_us tick_us =
    if nat_lt (out_maximum max_us tick_us) (out_minimum min_us tick_us) then Err NoTicks
    else Ok (record { min = out_minimum min_us tick_us; max = out_maximum max_us tick_us })
