use Rattle.std.proofs.Common.{sym, ◌∙◌, None, Some}
use Rattle.dc_cert.specs.NamedRows.{named_rows}
use Rattle.dc_check.specs.lemmas.Jobs.{verdict-jobs, verdict-names}
use Rattle.dc_check.specs.lemmas.Places.{verdict_placed}
use Rattle.dc_check.proofs.job.verdict.Goals as goal

pub returns-in-Some : goal.returns-in-Some
returns-in-Some c =
    let t = c.args.tables.now in
    let claims = named_rows c.args.certificate.now in
    let is = verdict-names t claims c.in-Some.fault (sym c.misnamed.ensures.exact ∙ c.in-Some.is) in
    record { place = verdict_placed t claims c.in-Some.fault is; exact = is }

pub returns-in-None-clause-exact : goal.returns-in-None-clause-exact
returns-in-None-clause-exact c = verdict-jobs c.args.tables.now (named_rows c.args.certificate.now) None (sym c.misnamed.ensures.exact ∙ c.in_default.is) (sym c.jobs_fault.ensures ∙ c.in-None.is)

pub returns-in-Some-jobs_fault : goal.returns-in-Some-jobs_fault
returns-in-Some-jobs_fault c =
    let t = c.args.tables.now in
    let claims = named_rows c.args.certificate.now in
    let fault = c.in-Some-jobs_fault.fault in
    let is = verdict-jobs t claims (Some fault) (sym c.misnamed.ensures.exact ∙ c.in_default.is) (sym c.jobs_fault.ensures ∙ c.in-Some-jobs_fault.is) in
    record { place = verdict_placed t claims fault is; exact = is }
