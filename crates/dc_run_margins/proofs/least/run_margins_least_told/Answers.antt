use Rattle.std.proofs.Common.{◌≡◌, [], ◌∷◌, ap, arith, rules, subst, sym}
use Rattle.dc_answer.specs.Answer.{Any, Reported}
use Rattle.dc_answer.specs.lemmas.Plain.{of_one, plain}
use Rattle.dc_run_margins.specs.Margins.{ReportsLeast}
use Rattle.dc_run_margins.proofs.Advising.{least_reports}
use Rattle.dc_run_margins.proofs.least.run_margins_least_told.Goals as goal

pub returns-clause-reports : goal.returns-clause-reports
returns-clause-reports g c = λ rows e.
    let same0 : c.tables-1.given.0 ≡ c.run.new.given.first.now = search rules in
    subst (λ x. ReportsLeast c.args.told rows (g.K.Sink.state c.args.sink.now).contents (g.K.Sink.state c.run.new.sink).contents (g.T.Source.state c.args.tables.now).failed (g.T.Source.state x).failed (g.K.Sink.state c.args.sink.now).failed (g.K.Sink.state c.run.new.sink).failed c.run.result) (sym same0) (least_reports c.args.told rows _ _ _ _ _ _ _ (plain (c.run.ensures.reports (rows ∷ []) (e, tt))))

pub returns-clause-reported : goal.returns-clause-reported
returns-clause-reported g c =
    let same0 : c.tables-1.given.0 ≡ c.run.new.given.first.now = search rules in
    subst (λ x. Reported Any (g.K.Sink.state c.args.sink.now).contents (g.K.Sink.state c.run.new.sink).contents (g.T.Source.state c.args.tables.now).failed (g.T.Source.state x).failed (g.K.Sink.state c.args.sink.now).failed (g.K.Sink.state c.run.new.sink).failed c.run.result) (sym same0) (of_one Any _ _ _ _ _ _ _ (plain c.run.ensures.reported))

pub returns-clause-quiet : goal.returns-clause-quiet
returns-clause-quiet g c = λ not.
    let same0 : c.tables-1.given.0 ≡ c.run.new.given.first.now = search rules in
    let n0 = ap (λ x. (g.T.Source.state x).failed) same0 in
    let q = c.run.ensures.quiet not in omega (arith, q, n0)
