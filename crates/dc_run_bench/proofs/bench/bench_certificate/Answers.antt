use Rattle.std.proofs.Common.{◌≡◌, rules, ap, subst, sym}
use Rattle.std.specs.Arc.{arc_value}
use Rattle.dc_answer.specs.Judging.{Says}
use Rattle.dc_answer.specs.declared.exit.Outcome.TheVariants.{Refused as WasRefused}
use Rattle.dc_cert.specs.NamedRows.{named_rows}
use Rattle.dc_run_bench.specs.Bench.{AnswersCertificate}
use Rattle.dc_run_bench.proofs.Benching.{ran_judged, refusal_judged}
use Rattle.dc_run_bench.proofs.bench.bench_certificate.Goals as goal

pub returns-in-Ok-check-clause-answer : goal.returns-in-Ok-check-clause-answer
returns-in-Ok-check-clause-answer g c =
    let t = arc_value c.args.tables.now in
    let shared : arc_value c.in-Ok.shared ≡ t = search rules in
    let ticks : c.from.result ≡ c.args.ticks = search rules in
    ran_judged t c.args.ticks c.args.marks (named_rows c.args.certificate) _ c.in-Ok-check.certified (arc_value c.in-Ok.shared) _ c.run_certified.result c.in-Ok-check.ensures.lends.0 shared (ap named_rows c.in-Ok-check.ensures.lends.1) ticks c.in-Ok-check.ensures.exact
    c.run_certified.ensures.answer

pub returns-in-Err-clause-answer : goal.returns-in-Err-clause-answer
returns-in-Err-clause-answer g c =
    let t = arc_value c.args.tables.now in
    let shared : arc_value c.in-Ok.shared ≡ t = search rules in
    let printed : c.deref-in-Err.result.now ≡ t = search rules in
    subst (λ l. Says (AnswersCertificate c.args.ticks c.args.marks t (named_rows c.args.certificate)) l WasRefused) (sym c.tell.ensures)
    (refusal_judged t c.args.ticks c.args.marks (named_rows c.args.certificate) _ _ _ c.in-Err.fault shared printed c.in-Err.ensures.exact c.print_refused.ensures)
