use Rattle.std.proofs.Common.{◌≡◌, ◌<◌, ap, arith, length, subst}
use Rattle.dc_gauge.specs.declared.timing.StreamTiming.{StreamTiming}
use Rattle.dc_in_time.specs.InTime.{DocumentsRound}
use Rattle.dc_tables.specs.TableRows.{AreValid, TableRows}
use Rattle.dc_run_survey.proofs.Surveying.{declared-some}
use Rattle.dc_run_survey.proofs.recorded.begin.Goals as goal

pub new-requires-clause-timed : goal.new-requires-clause-timed
new-requires-clause-timed c = λ s there.
    let w = c.args.written.now in
    let same : c.tables-tables.result.now ≡ w.tables = c.tables-tables.ensures in
    let P : TableRows → Type 0 = λ t. s < length t.streams in
    let Q : TableRows → Type 0 = λ t. DocumentsRound t in
    let here : s < length w.tables.streams = subst P same there in
    let some = declared-some w c.written.ensures (subst AreValid same c.valid.ensures) (subst Q same c.documents_round.ensures) s here in
    omega (arith, some, ap (λ (x : StreamTiming). x.min_us) (c.in_ok-timings.ensures.1 s here))
