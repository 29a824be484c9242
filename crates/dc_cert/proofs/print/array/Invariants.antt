use Rattle.std.proofs.Common.{◌≡◌, map, take}
use Rattle.std.specs.Prelude.{All}
use Rattle.serde_json.specs.View.{view}
use Rattle.dc_cert.proofs.print.array.Given as goal

abbrev pub invariant-loop-row : goal.invariant-loop-row
invariant-loop-row g l =
    record {
      same : map view l.values.items ≡ map g.R.Row.printed (map g.R.Row.claim (take l.row-index l.rows));
      fit : All g.R.Row.fits (map g.R.Row.claim (take l.row-index l.rows));
    }
