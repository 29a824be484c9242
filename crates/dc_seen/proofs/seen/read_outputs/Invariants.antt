use Rattle.std.proofs.Common.{◌≡◌, ◌+◌, ◌≤◌, length, Ok}
use Rattle.dc_cert.specs.Bounds.{certificate_rows}
use Rattle.dc_seen.specs.Reading.{said_from}
use Rattle.dc_seen.specs.Said.{followed, outputs_only}
use Rattle.dc_seen.proofs.seen.read_outputs.Given as goal

abbrev pub invariant-loop-output : goal.invariant-loop-output
invariant-loop-output l =
    record {
      within : l.place.before ≤ length l.text;
      at : l.place.lines ≡ length l.tables.buses + l.output;
      sized : length l.rows.items ≡ l.output;
      said : said_from l.tables (certificate_rows l.certificate) l.text l.initial.place ≡ followed (Ok (outputs_only l.rows.items)) (said_from l.tables (certificate_rows l.certificate) l.text l.place);
    }
