use Rattle.std.proofs.Common.{arith, get_or, length-take, refl, take, length, ◌≡◌}
use Rattle.dc_capture.proofs.Decimals.{digits-more, fits_digits, more_digits, whole_time}
use Rattle.dc_capture.proofs.ahead.time_ahead.Goals as goal

pub overflow_mul-time : goal.overflow_mul-time
overflow_mul-time c =
    let fits = fits_digits c.loop-i.time c.loop-i.i c.loop-i.invariant.small (omega arith) in
    omega (arith, fits)

pub overflow_add-time : goal.overflow_add-time
overflow_add-time c =
    let fits = fits_digits c.loop-i.time c.loop-i.i c.loop-i.invariant.small (omega arith) in
    omega (arith, fits)

pub loop-i-init : goal.loop-i-init
loop-i-init c = record { small = omega arith; reads = refl }

pub loop-i-preserved : goal.loop-i-preserved
loop-i-preserved c = record {
  small = more_digits c.loop-i.time c.from.result c.loop-i.i c.loop-i.invariant.small (omega arith);
  reads = rw c.from.ensures (digits-more c.loop-i.time c.loop-i.i (get_or c.args.text.now c.loop-i.i 0) c.value_of-digit.result c.args.text.now (omega arith) refl (c.value_of-digit.ensures (omega arith)) c.loop-i.invariant.reads);
}

pub returns-then-digit-gt9-clause-starts : goal.returns-then-digit-gt9-clause-starts
returns-then-digit-gt9-clause-starts c =
    let long : length (take c.loop-i.i c.args.text.now) ≡ c.loop-i.i = omega (arith, length-take c.loop-i.i c.args.text.now) in (
      omega arith,
      omega arith,
      whole_time c.loop-i.time (take c.loop-i.i c.args.text.now) (omega (arith, long)) c.if-time-gt-LAST_TIME.false c.loop-i.invariant.reads,
      omega arith,
    )
