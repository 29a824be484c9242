use Rattle.std.proofs.Common.{None, Some, sym, ◌∙◌}
use Rattle.dc_cert.specs.NamedRows.{named_rows}
use Rattle.dc_check.specs.lemmas.Jobs.{verdict-jobs, verdict-names}
use Rattle.dc_check.specs.lemmas.Places.{verdict_placed}
use Rattle.dc_checkpar.proofs.par.verdict_par.Goals as goal

pub returns-in-Some-clause-exact : goal.returns-in-Some-clause-exact
returns-in-Some-clause-exact g c =
    let t = c.args.tables.now in
    let claims = named_rows c.args.certificate.now in
    let is = verdict-names t claims c.in-Some.fault (sym c.misnamed.ensures.exact ∙ c.in-Some.is) in
    (is, verdict_placed t claims c.in-Some.fault is)

pub returns-in-Ok-None-clause-exact : goal.returns-in-Ok-None-clause-exact
returns-in-Ok-None-clause-exact g c =
    verdict-jobs c.args.tables.now (named_rows c.args.certificate.now) None (sym c.misnamed.ensures.exact ∙ c.in_default.is) (sym c.in-Ok-None.ensures.ok ∙ c.in-Ok-None.field-0-is)

pub returns-in-Ok-Some-clause-exact : goal.returns-in-Ok-Some-clause-exact
returns-in-Ok-Some-clause-exact g c =
    let t = c.args.tables.now in
    let claims = named_rows c.args.certificate.now in
    let fault = c.in-Ok-Some.fault in
    let is = verdict-jobs t claims (Some fault) (sym c.misnamed.ensures.exact ∙ c.in_default.is) (sym c.in-Ok-Some.ensures.ok ∙ c.in-Ok-Some.field-0-is) in
    (is, verdict_placed t claims fault is)
