use Rattle.std.proofs.Common.{◌≡◌, arith, ap, ◌∙◌}
use Rattle.std.proofs.lemmas.List.Sums.{sum_by_more}
use Rattle.dc_bound.specs.Early.{jitter_cap}
use Rattle.dc_tables.specs.Bounds.{jittered_cap}
use Rattle.dc_tables.proofs.BoundsMade.{one_more_times}
use Rattle.dc_tables.proofs.alike.end_of_run.Goals as goal

-- one more of the same
pub loop-end-preserved : goal.loop-end-preserved
loop-end-preserved c =
    let first = c.args.first.now in
    let same = c.are_same.ensures.0 c.if-are_same.true in
    record {
      order = omega (arith, c.loop-end.invariant.order);
      inside = omega (arith, c.loop-end-test.true);
      sum = λ d.
          let cap : jittered_cap d c.index-bounds-end.result ≡ jittered_cap d first =
          ap (λ m. jitter_cap m c.index-bounds-end.result.jitter d) same.0 ∙ ap (λ j. jitter_cap first.minimum j d) same.1 in
          omega (
            arith,
            sum_by_more (jittered_cap d) c.args.bounds.now c.loop-end.end c.index-bounds-end.result c.loop-end-test.true,
            ap (jittered_cap d) c.index-bounds-end.is,
            cap,
            c.loop-end.invariant.sum d,
            one_more_times c.loop-end.end c.args.from (jittered_cap d first) c.loop-end.invariant.order,
          );
    }
