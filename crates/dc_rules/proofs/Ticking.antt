-- When a parameter leaves no interval in ticks.
use Rattle.std.proofs.Common.{◌≡◌, ℕ, ◌<◌, Bool, true, false, cond, nat_lt, Result, Ok, Err, is_err, refl}
use Rattle.dc_dict.specs.Ticks.{in_minimum, in_maximum, out_minimum, out_maximum, in_interval, out_interval}
use Rattle.dc_dict.specs.declared.fault.DictFault.{DictFault}
use Rattle.dc_dict.specs.declared.fault.DictFault.TheVariants.{NoTicks}
use Rattle.dc_dict.specs.declared.ticks.Interval.{Interval}

err_if : (b : Bool) (e : DictFault) (x : Interval) → is_err (cond b (Err e) (Ok x)) ≡ b
err_if true e x = refl
err_if false e x = refl

pub in_err : (min max tick : ℕ) → is_err (in_interval min max tick) ≡ nat_lt (in_minimum min tick) 1
unfolding in_interval
in_err min max tick = err_if (nat_lt (in_minimum min tick) 1) NoTicks (record { min = in_minimum min tick; max = in_maximum max tick })

pub out_err : (min max tick : ℕ) → is_err (out_interval min max tick) ≡ nat_lt (out_maximum max tick) (out_minimum min tick)
unfolding out_interval
out_err min max tick = err_if (nat_lt (out_maximum max tick) (out_minimum min tick)) NoTicks (record { min = out_minimum min tick; max = out_maximum max tick })
