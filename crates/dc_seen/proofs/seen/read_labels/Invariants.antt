use Rattle.std.proofs.Common.{◌≡◌, ◌+◌, ◌≤◌, length, Ok}
use Rattle.dc_cert.specs.Bounds.{certificate_rows}
use Rattle.dc_seen.specs.Reading.{said_from}
use Rattle.dc_seen.specs.Said.{followed, labels_only}
use Rattle.dc_seen.proofs.seen.read_labels.Given as goal

abbrev pub invariant-loop-label : goal.invariant-loop-label
invariant-loop-label l =
    record {
      within : l.place.before ≤ length l.text;
      at : l.place.lines ≡ length l.tables.buses + length l.tables.outputs + l.label;
      sized : length l.rows.items ≡ l.label;
      said : said_from l.tables (certificate_rows l.certificate) l.text l.initial.place ≡ followed (Ok (labels_only l.rows.items)) (said_from l.tables (certificate_rows l.certificate) l.text l.place);
    }
