use Rattle.std.proofs.Common.{◌≡◌, ◌≤◌, length, Ok}
use Rattle.dc_cert.specs.Bounds.{certificate_rows}
use Rattle.dc_seen.specs.Reading.{said_from}
use Rattle.dc_seen.specs.Said.{followed, inputs_only}
use Rattle.dc_seen.proofs.seen.read_inputs.Given as goal

abbrev pub invariant-loop-bus : goal.invariant-loop-bus
invariant-loop-bus l =
    record {
      within : l.place.before ≤ length l.text;
      at : l.place.lines ≡ l.bus;
      sized : length l.rows.items ≡ l.bus;
      said : said_from l.tables (certificate_rows l.certificate) l.text l.initial.place ≡ followed (Ok (inputs_only l.rows.items)) (said_from l.tables (certificate_rows l.certificate) l.text l.place);
    }
