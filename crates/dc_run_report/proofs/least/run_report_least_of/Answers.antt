use Rattle.std.proofs.Common.{◌≡◌, [], ◌∷◌, ap, rules}
use Rattle.dc_answer.specs.lemmas.Plain.{plain}
use Rattle.dc_run_report.proofs.Paging.{any_of_one, least_reports, quiet_of_one}
use Rattle.dc_run_report.proofs.least.run_report_least_of.Goals as goal

pub returns : goal.returns
returns g c =
    let before = g.K.Sink.state c.args.sink.now in
    let after = g.K.Sink.state c.run.new.sink in
    let a = (g.T.Source.state c.args.tables.now).failed in
    let a' = (g.T.Source.state c.run.new.given.first.now).failed in
    let p = (g.T.Source.state c.tables-1.given.0).failed in
    let same0 : c.tables-1.given.0 ≡ c.run.new.given.first.now = search rules in
    let n0 : p ≡ a' = ap (λ x. (g.T.Source.state x).failed) same0 in
    record {
      reports = λ rows e. least_reports rows before.contents after.contents a a' p before.failed after.failed c.run.result n0 (plain (c.run.ensures.reports (rows ∷ []) (e, tt)));
      reported = any_of_one before.contents after.contents a a' p before.failed after.failed c.run.result n0 (plain c.run.ensures.reported);
      asks = rw same0 (c.run.ensures.asks.0);
      left = c.run.ensures.left;
      quiet = λ not. quiet_of_one a a' p before.failed after.failed n0 (c.run.ensures.quiet not);
    }
