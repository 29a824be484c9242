-- What `explain` answers, and what it ends with.
use Rattle.std.proofs.Common.{◌≡◌, ◌≢◌, ◌∙◌, ℕ, List, refl, ap, Option}
use Rattle.dc_answer.specs.Exits.{exit_with}
use Rattle.dc_answer.specs.Judging.{Says}
use Rattle.dc_answer.specs.declared.exit.Exit.{Exit}
use Rattle.dc_answer.specs.declared.exit.Exit.TheVariants.{Done as IsDone, Refused, Unreadable, Failed}
use Rattle.dc_answer.specs.declared.exit.Outcome.TheVariants.{Done}
use Rattle.dc_answer.specs.lemmas.Judgments.{one_said}
use Rattle.dc_run_explain.specs.Explain.{IsPage, ReportsExplain}

-- a page, and done
pub page_said : (text : List ℕ) → Says IsPage text Done
page_said text = one_said IsPage text text Done refl (text, refl)

-- it ends as its page says
pub ends_done : (old new : Option (List ℕ)) (k k' : ℕ) (exit : Exit) → ReportsExplain old new k k' exit → exit ≢ Failed → exit ≡ IsDone
ends_done old new k k' IsDone r not = refl
ends_done old new k k' Refused r not = (r.reports.done not).1 ∙ ap (λ a. exit_with a.outcome) r.is.1
ends_done old new k k' Unreadable r not = (r.reports.done not).1 ∙ ap (λ a. exit_with a.outcome) r.is.1
ends_done old new k k' Failed r not = absurd (not refl)
