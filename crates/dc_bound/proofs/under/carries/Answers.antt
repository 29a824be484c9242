use Rattle.std.proofs.Common.{◌*◌, ◌<◌, ◌≤◌, ap, arith}
use Rattle.std.proofs.Math.Nat.{mul-le-mul_left}
use Rattle.dc_bound.specs.Window.{wire_cap}
use Rattle.dc_bound.proofs.Lesser.{by_test, carried, not_carried}
use Rattle.dc_bound.proofs.under.carries.Goals as goal

pub returns : goal.returns
returns c =
    let w = c.args.wire.now in
    by_test c.saturating_mul.result (c.args.ticks * w.tick) (c.args.most ≤ wire_cap w.tick w.spacing c.args.ticks) (wire_cap w.tick w.spacing c.args.ticks < c.args.most)
    (λ h. carried w.tick w.spacing c.args.ticks c.args.most w.some_spacing c.requires (let same = ap (λ n. n * w.spacing) c.saturating_sub-words.ensures in omega (arith, h, c.saturating_mul.ensures, same, mul-le-mul_left c.args.ticks w.short_tick, c.ranges.ticks.fits)))
    (λ h. not_carried w.tick w.spacing c.args.ticks c.args.most w.some_spacing c.requires (let same = ap (λ n. n * w.spacing) c.saturating_sub-words.ensures in omega (arith, h, c.saturating_mul.ensures, same)))
