use Rattle.std.proofs.Common.{◌+◌, sym, ap, ◌∙◌, arith}
use Rattle.std.specs.Prelude.{nat_le}
use Rattle.std.specs.List.{list_all}
use Rattle.std.proofs.lemmas.Bool.{le-leb, lt-leb}
use Rattle.dc_cert.specs.Bounds.{certificate_rows}
use Rattle.dc_check.proofs.GapTests.{each-passed, passed-more, failed-at}
use Rattle.dc_check.specs.Accepts.{source_delay}
use Rattle.dc_tables.specs.TableRows.{stream_row, label_row}
use Rattle.dc_check.proofs.labels.stay_fresh.Goals as goal

pub returns : goal.returns
returns c =
    let sources = c.as_slice-sources.ensures ∙ ap (λ r. r.sources) c.label-row.ensures in
    sym (each-passed (λ s. nat_le (source_delay c.args.fitted.now.tables.now (certificate_rows c.args.fitted.now.certificate.now) s + (stream_row c.args.fitted.now.tables.now s).maximum) (label_row c.args.fitted.now.tables.now c.args.label).stale) c.as_slice-sources.result.now c.loop-stream.stream-index c.loop-stream-test.false c.loop-stream.invariant)
    ∙ ap (list_all (λ s. nat_le (source_delay c.args.fitted.now.tables.now (certificate_rows c.args.fitted.now.certificate.now) s + (stream_row c.args.fitted.now.tables.now s).maximum) (label_row c.args.fitted.now.tables.now c.args.label).stale)) sources

pub returns-then-from : goal.returns-then-from
returns-then-from c =
    let sources = c.as_slice-sources.ensures ∙ ap (λ r. r.sources) c.label-row.ensures in
    failed-at (λ s. nat_le (source_delay c.args.fitted.now.tables.now (certificate_rows c.args.fitted.now.certificate.now) s + (stream_row c.args.fitted.now.tables.now s).maximum) (label_row c.args.fitted.now.tables.now c.args.label).stale) c.as_slice-sources.result.now c.loop-stream.stream-index c.loop-stream-test.true
    (lt-leb _ _ (omega (arith, c.if-from.true, c.from.ensures, c.from-in-loop-stream.ensures, c.from-in-loop-stream-2.ensures, c.delay_of-delay.ensures, ap (λ r. r.stale) c.label-row.ensures, ap (λ r. r.maximum) c.stream.ensures)))
    ∙ ap (list_all (λ s. nat_le (source_delay c.args.fitted.now.tables.now (certificate_rows c.args.fitted.now.certificate.now) s + (stream_row c.args.fitted.now.tables.now s).maximum) (label_row c.args.fitted.now.tables.now c.args.label).stale)) sources

pub loop-stream-preserved : goal.loop-stream-preserved
loop-stream-preserved c =
    passed-more (λ s. nat_le (source_delay c.args.fitted.now.tables.now (certificate_rows c.args.fitted.now.certificate.now) s + (stream_row c.args.fitted.now.tables.now s).maximum) (label_row c.args.fitted.now.tables.now c.args.label).stale) c.as_slice-sources.result.now c.loop-stream.stream-index c.loop-stream-test.true c.loop-stream.invariant
    (le-leb _ _ (omega (arith, c.if-from.false, c.from.ensures, c.from-in-loop-stream.ensures, c.from-in-loop-stream-2.ensures, c.delay_of-delay.ensures, ap (λ r. r.stale) c.label-row.ensures, ap (λ r. r.maximum) c.stream.ensures)))
