use Rattle.std.proofs.Common.{◌≡◌, ◌<◌, length, take}
use Rattle.std.specs.Prelude.{slice_index}
use Rattle.std.specs.List.{fold}
use Rattle.dc_cert.specs.Bounds.{certificate_rows}
use Rattle.dc_check.specs.Accepts.{source_delay}
use Rattle.dc_margin.specs.Margins.{greater_of}
use Rattle.dc_margin.proofs.labels.slowest.Given as goal

abbrev pub invariant-loop-stream : goal.invariant-loop-stream
invariant-loop-stream l = record {
  best : l.best ≡ fold (greater_of (source_delay l.fitted.tables.now (certificate_rows l.fitted.certificate.now))) (slice_index l.sources 0) (take l.stream-index l.sources);
  there : l.best < length l.fitted.tables.now.streams;
}
