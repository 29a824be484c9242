use Rattle.std.proofs.Common.{◌≡◌, List, ℕ, Some, sym, ap, ◌∙◌, subst}
use Rattle.dc_answer.specs.Answer.{one_line}
use Rattle.dc_answer.specs.declared.exit.Outcome.TheVariants.{Refused as WasRefused}
use Rattle.dc_cert.specs.NamedRows.{named_rows}
use Rattle.dc_check.specs.Verdict.{verdict_of}
use Rattle.dc_check.specs.lemmas.Places.{verdict_placed}
use Rattle.dc_print.specs.Verdicts.{refused_text}
use Rattle.dc_run.specs.Check.{AnswersCheck}
use Rattle.dc_tables.specs.TableRows.{TableRows}
use Rattle.dc_run_network.specs.lemmas.Halting.{refused-answer}
use Rattle.dc_run_network.proofs.members.judge.Goals as goal

pub print_refused-requires : goal.print_refused-requires
print_refused-requires g c =
    verdict_placed c.tables-tables.result.now (named_rows c.args.certificate.now) c.in-Ok-Some.fault (sym (rw c.in-Ok-Some.field-0-is at c.in-Ok-Some.ensures.exact))

pub returns-in-Ok-None-clause-judged : goal.returns-in-Ok-None-clause-judged
returns-in-Ok-None-clause-judged g c =
    ap (λ (t : TableRows). verdict_of t (named_rows c.args.certificate.now)) (sym c.tables-tables.ensures) ∙ sym (rw c.in-Ok-None.field-0-is at c.in-Ok-None.ensures.exact)

pub returns-in-Ok-None-clause-said : goal.returns-in-Ok-None-clause-said
returns-in-Ok-None-clause-said g c = tt

pub returns-in-Ok-None-clause-threads : goal.returns-in-Ok-None-clause-threads
returns-in-Ok-None-clause-threads g c = tt

pub returns-in-Ok-Some-clause-judged : goal.returns-in-Ok-Some-clause-judged
returns-in-Ok-Some-clause-judged g c = λ rows text are read.
    let fault = c.in-Ok-Some.fault in
    let refused : verdict_of c.tables-tables.result.now (named_rows c.args.certificate.now) ≡ Some c.in-Ok-Some.fault = sym (rw c.in-Ok-Some.field-0-is at c.in-Ok-Some.ensures.exact) in
    let P : List ℕ → Type 0 = λ l. AnswersCheck rows text (one_line l WasRefused) in
    subst P (sym (c.print_refused.ensures ∙ ap (λ (t : TableRows). refused_text t fault) c.tables-tables.ensures))
    (refused-answer rows text c.args.written.now (named_rows c.args.certificate.now) fault are read (ap (λ (t : TableRows). verdict_of t (named_rows c.args.certificate.now)) (sym c.tables-tables.ensures) ∙ refused))

pub returns-in-Ok-Some-clause-said : goal.returns-in-Ok-Some-clause-said
returns-in-Ok-Some-clause-said g c = λ e. cc

pub returns-in-Ok-Some-clause-threads : goal.returns-in-Ok-Some-clause-threads
returns-in-Ok-Some-clause-threads g c = λ e. absurd cc

pub returns-in-Err-Memory-clause-judged : goal.returns-in-Err-Memory-clause-judged
returns-in-Err-Memory-clause-judged g c = λ rows text are read. tt

pub returns-in-Err-Memory-clause-said : goal.returns-in-Err-Memory-clause-said
returns-in-Err-Memory-clause-said g c = tt

pub returns-in-Err-Memory-clause-threads : goal.returns-in-Err-Memory-clause-threads
returns-in-Err-Memory-clause-threads g c = λ e. absurd cc

pub returns-in-Err-Threads-clause-judged : goal.returns-in-Err-Threads-clause-judged
returns-in-Err-Threads-clause-judged g c = λ rows text are read. tt

pub returns-in-Err-Threads-clause-said : goal.returns-in-Err-Threads-clause-said
returns-in-Err-Threads-clause-said g c = tt
