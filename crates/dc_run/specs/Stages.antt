-- What is answered to a certificate that is to be accepted first.
use Rattle.std.specs.Prelude.{◌≡◌, Option, Some, None}
use Rattle.dc_check.specs.declared.fault.CheckFault.{CheckFault}
use Rattle.dc_tables.specs.TableRows.{TableRows}
use Rattle.dc_answer.specs.Answer.{Answer}
use Rattle.dc_run.specs.Check.{answer_verdict}

-- where this is the verdict: where it is refused, as `check`
abbrev pub AnswersAccepted : TableRows → (Answer → Type 0) → Answer → Option CheckFault → Type 0
AnswersAccepted t Is answer None = Is answer
AnswersAccepted t Is answer (Some fault) = answer ≡ answer_verdict t (Some fault)
