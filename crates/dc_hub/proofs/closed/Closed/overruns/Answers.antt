use Rattle.std.proofs.Common.{rules, ◌≡◌, ◌<◌, get_or, subst, length, arith}
use Rattle.dc_hub.specs.Views.{ClosedView}
use Rattle.dc_hub.proofs.Tallies.{overruns-more}
use Rattle.dc_hub.proofs.closed.Closed.overruns.Goals as goal

pub loop-i-preserved : goal.loop-i-preserved
loop-i-preserved c =
    let v = c.loop-i.invariant in
    let there = subst (λ (x : ClosedView). c.index.result.now ≡ get_or x.entries c.loop-i.i c.index.result.now) c.self.view_is c.index.ensures in
    let inside : c.loop-i.i < length c.args.self.now.entries = search rules in
    let more = overruns-more c.args.self.now.entries c.loop-i.i c.index.result.now inside there in
    (omega (arith, v.0, more, c.overruns_of-count.ensures.count), omega (arith, v.1, c.overruns_of-count.ensures.one))
