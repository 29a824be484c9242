use Rattle.dc_run_network.specs.Paths.{folder_of}
use Rattle.dc_run_network.specs.lemmas.Yes.{reports-if-known, yes-if-known}
use Rattle.dc_run_network.proofs.engine.run_by.Goals as goal

pub returns-clause-yes : goal.returns-clause-yes
returns-clause-yes g c = λ done.
    yes-if-known g.T.Telling.says (g.J.Verdicts.starts_threads c.args.by.now.verdicts) (g.S.Source.state c.args.system.now).remaining (g.F.Shelf.holds c.args.shelf.now) (folder_of c.args.path.now) (g.K.Sink.state c.args.sink.now) (g.K.Sink.state c.finish.new.sink) c.finish.result
    (reports-if-known g.T.Telling.says (g.J.Verdicts.starts_threads c.args.by.now.verdicts) (g.S.Source.state c.args.system.now).remaining (g.F.Shelf.holds c.args.shelf.now) (folder_of c.args.path.now) c.folder_of.result.now c.judge_source-judged.new.page c.judge_source-judged.result (g.K.Sink.state c.args.sink.now) (g.K.Sink.state c.finish.new.sink) c.finish.result c.folder_of.ensures c.judge_source-judged.ensures.answers c.judge_source-judged.ensures.threads c.finish.ensures.tells) done
