use Rattle.std.proofs.Common.{◌≡◌, rules, subst}
use Rattle.std.specs.Arc.{arc_value}
use Rattle.dc_answer.specs.Judging.{Keeps}
use Rattle.dc_cert.specs.NamedRows.{named_rows}
use Rattle.dc_run_bench.specs.Bench.{AnswersCertificate}
use Rattle.dc_run_bench.proofs.bench.share_and_bench.Goals as goal

pub returns-in-Ok-clause-answer : goal.returns-in-Ok-clause-answer
returns-in-Ok-clause-answer g c =
    let shared : arc_value c.in-Ok.tables ≡ c.args.tables = search rules in
    subst (λ t. Keeps (AnswersCertificate c.args.bench.ticks c.args.bench.marks t (named_rows c.args.certificate)) c.bench_certificate.new.page c.bench_certificate.result) shared c.bench_certificate.ensures.answer
