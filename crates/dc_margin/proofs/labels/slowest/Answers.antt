use Rattle.std.proofs.Common.{◌≡◌, length, get_or, ap, ◌∙◌, arith}
use Rattle.std.specs.Prelude.{slice_index}
use Rattle.dc_cert.specs.Bounds.{certificate_rows}
use Rattle.dc_check.specs.Accepts.{source_delay}
use Rattle.dc_margin.proofs.Sources.{fold-all, fold-step, picked}
use Rattle.dc_tables.specs.TableRows.{label_row}
use Rattle.dc_margin.proofs.labels.slowest.Goals as goal

pub returns : goal.returns
returns c = record {
  source = fold-all (source_delay c.args.fitted.now.tables.now (certificate_rows c.args.fitted.now.certificate.now)) c.as_slice-sources.result.now (label_row c.args.fitted.now.tables.now c.args.label).sources c.loop-stream.stream-index c.loop-stream.best
      c.loop-stream-test.false (c.as_slice-sources.ensures ∙ ap (λ r. r.sources) c.label-row.ensures) c.loop-stream.invariant.best;
  there = c.loop-stream.invariant.there;
}

pub loop-stream-preserved : goal.loop-stream-preserved
loop-stream-preserved c =
    let f = source_delay c.args.fitted.now.tables.now (certificate_rows c.args.fitted.now.certificate.now) in
    let same = c.as_slice-sources.ensures ∙ ap (λ r. r.sources) c.label-row.ensures in
    let at : get_or c.as_slice-sources.result.now c.loop-stream.stream-index 0 ≡ slice_index (label_row c.args.fitted.now.tables.now c.args.label).sources c.loop-stream.stream-index = ap (λ xs. get_or xs c.loop-stream.stream-index 0) same in
    let there = c.valid.ensures.sources_there c.args.label c.loop-stream.stream-index c.requires.there (omega (arith, c.loop-stream-test.true, ap length same)) in
    record {
      best = fold-step f c.as_slice-sources.result.now c.loop-stream.stream-index c.loop-stream.best c.slower-best.result c.loop-stream-test.true c.loop-stream.invariant.best c.slower-best.ensures;
      there = omega (arith, c.slower-best.ensures, picked f (length c.args.fitted.now.tables.now.streams) c.loop-stream.best (get_or c.as_slice-sources.result.now c.loop-stream.stream-index 0) c.loop-stream.invariant.there (omega (arith, at, there)));
    }
