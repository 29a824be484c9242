use Rattle.std.proofs.Common.{◌≡◌, ◌+◌, ◌<◌, IfSome, ap, subst}
use Rattle.dc_run.specs.Replay.{IsPrompt, ReportsReplay}
use Rattle.dc_run.proofs.ReplayReports.{replay_reports, replay_reported}
use Rattle.dc_run.proofs.replay.run_replay.Goals as goal

pub returns-clause-reports : goal.returns-clause-reports
returns-clause-reports g c =
    let ended = c.replay-ended.ensures in
    let report = c.report.ensures in
    subst (λ n. IfSome (g.T.Source.state c.args.tables.now).remaining (λ rows. IfSome (g.S.Source.state c.args.trace.now).remaining (λ text. ReportsReplay n c.args.all rows text (g.K.Sink.state c.args.sink.now).contents (g.K.Sink.state c.report.new.sink).contents ((g.T.Source.state c.args.tables.now).failed + (g.S.Source.state c.args.trace.now).failed) ((g.T.Source.state c.replay-ended.new.tables).failed + (g.S.Source.state c.replay-ended.new.trace).failed) (g.K.Sink.state c.args.sink.now).failed (g.K.Sink.state c.report.new.sink).failed c.report.result))) c.limit_of.ensures.limit
    (replay_reports _ _ _ _ _ _ _ c.replay-ended.result _ _ _ _ _ c.report.result ended.answer (λ e. ap (λ s. (g.K.Sink.state s).contents) (ended.memory e)) ended.source ended.sink report.rise report.exit report.reports)

pub returns-clause-reported : goal.returns-clause-reported
returns-clause-reported g c =
    let ended = c.replay-ended.ensures in
    let report = c.report.ensures in
    replay_reported _ _ _ c.replay-ended.result _ _ _ _ _ c.report.result ended.some (λ e. ap (λ s. (g.K.Sink.state s).contents) (ended.memory e)) ended.source ended.sink report.rise report.exit report.reports

pub returns-clause-prompt : goal.returns-clause-prompt
returns-clause-prompt g c =
    subst (λ n. (g.S.Source.state c.args.trace.now).dry < (g.S.Source.state c.replay-ended.new.trace).dry → (g.S.Source.state c.replay-ended.new.trace).failed ≡ (g.S.Source.state c.args.trace.now).failed → IfSome (g.T.Source.state c.args.tables.now).remaining (λ rows. IfSome (g.S.Source.state c.args.trace.now).remaining (λ text. IsPrompt n c.args.all rows text (g.K.Sink.state c.args.sink.now).contents (g.K.Sink.state c.report.new.sink).answered))) c.limit_of.ensures.limit
    (rw c.report.ensures.answered c.replay-ended.ensures.prompt)
