use Rattle.std.proofs.Common.{◌≡◌, map, drop}
use Rattle.serde_json.specs.View.{items_view}
use Rattle.dc_cert.specs.Reading.{rows_of}
use Rattle.dc_cert.proofs.ReadingLemmas.{with_front}
use Rattle.dc_cert.proofs.read.rows.Given as goal

abbrev pub invariant-loop-index : goal.invariant-loop-index
invariant-loop-index g l = with_front (map g.R.Row.claim l.rows.items) (rows_of g.R.Row.claim_of l.index (items_view (drop l.index l.values))) ≡ rows_of g.R.Row.claim_of 0 (items_view l.values)
