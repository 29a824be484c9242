use Rattle.std.proofs.Common.{◌-◌, arith, ap}
use Rattle.std.specs.List.{sum_by}
use Rattle.std.proofs.lemmas.List.Sums.{sum_by_more}
use Rattle.dc_tables.specs.Bounds.{alike_cap, jittered_cap}
use Rattle.dc_tables.proofs.BoundsMade.{run_sum, first_of_times}
use Rattle.dc_tables.proofs.alike.runs_of.Goals as goal

-- a run more
pub loop-at-preserved : goal.loop-at-preserved
loop-at-preserved c = record {
  inside = c.end_of_run-end.ensures.inside;
  sum = λ d.
      let bounds = c.args.bounds.now in
      let at = c.loop-at.at in
      let first = c.index-bounds-at.result in
      let cap = jittered_cap d first in
      omega (
        arith,
        ap (sum_by (alike_cap d)) c.in_ok-push.ensures.items,
        run_sum d c.loop-at.runs.items c.new.result (c.end_of_run-end.result - at) first c.new.ensures.sources c.new.ensures.each,
        c.loop-at.invariant.sum d,
        c.end_of_run-end.ensures.sum d,
        sum_by_more (jittered_cap d) bounds at first c.loop-at-test.true,
        ap (jittered_cap d) c.index-bounds-at.is,
        first_of_times c.end_of_run-end.result at cap c.end_of_run-end.ensures.order,
      );
}
