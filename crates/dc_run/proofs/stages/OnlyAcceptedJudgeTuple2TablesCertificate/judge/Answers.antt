use Rattle.std.proofs.Common.{inr, refl}
use Rattle.dc_answer.specs.lemmas.Stages.{none_ask}
use Rattle.dc_cert.specs.NamedRows.{named_rows}
use Rattle.dc_run.proofs.Accepting.{accepted_judged, accepted_order, not_accepted}
use Rattle.dc_run.proofs.stages.OnlyAcceptedJudgeTuple2TablesCertificate.judge.Goals as goal

pub returns-in-Done-clause-answer : goal.returns-in-Done-clause-answer
returns-in-Done-clause-answer g c =
    accepted_judged c.args.known.0 (named_rows c.args.known.1) _ c.judge.result (λ texts. g.J.Judge.answers c.args.self.now.0 c.args.known texts) (g.G.Given.states c.args.given.now)
    _ c.judge-in-Done.result c.judge.ensures c.in-Done.is c.judge-in-Done.ensures.answer

pub returns-in-Done-clause-order : goal.returns-in-Done-clause-order
returns-in-Done-clause-order g c =
    accepted_order c.args.known.0 (named_rows c.args.known.1) _ c.judge.result (λ texts. g.J.Judge.goes_on c.args.self.now.0 c.args.known texts) (g.G.Given.states c.args.given.now)
    (λ k. g.G.Given.kept k c.args.given.now c.judge-in-Done.new.given) c.judge.ensures c.in-Done.is c.judge-in-Done.ensures.order

pub returns-in_default-clause-answer : goal.returns-in_default-clause-answer
returns-in_default-clause-answer g c = λ texts are.
    not_accepted c.args.known.0 (named_rows c.args.known.1) _ c.judge.result (λ more. g.J.Judge.answers c.args.self.now.0 c.args.known more) (g.G.Given.states c.args.given.now)
    c.judge.ensures c.in_default.not-Done texts

pub returns-in_default-clause-raises : goal.returns-in_default-clause-raises
returns-in_default-clause-raises g c = refl

pub returns-in_default-clause-asks : goal.returns-in_default-clause-asks
returns-in_default-clause-asks g c = none_ask _ _

pub returns-in_default-clause-order : goal.returns-in_default-clause-order
returns-in_default-clause-order g c = λ first are. inr (g.G.Given.kept_same _ _)
