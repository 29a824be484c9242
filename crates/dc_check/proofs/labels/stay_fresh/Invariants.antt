use Rattle.std.proofs.Common.{◌≡◌, ◌+◌, true, take}
use Rattle.std.specs.Prelude.{nat_le}
use Rattle.std.specs.List.{list_all}
use Rattle.dc_cert.specs.Bounds.{certificate_rows}
use Rattle.dc_check.specs.Accepts.{source_delay}
use Rattle.dc_tables.specs.TableRows.{stream_row, label_row}
use Rattle.dc_check.proofs.labels.stay_fresh.Given as goal

abbrev pub invariant-loop-stream : goal.invariant-loop-stream
invariant-loop-stream l = list_all (λ s. nat_le (source_delay l.fitted.tables.now (certificate_rows l.fitted.certificate.now) s + (stream_row l.fitted.tables.now s).maximum) (label_row l.fitted.tables.now l.label).stale) (take l.stream-index l.sources) ≡ true
