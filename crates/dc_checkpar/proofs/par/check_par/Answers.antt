use Rattle.std.proofs.Common.{subst}
use Rattle.std.specs.Arc.{arc_value}
use Rattle.dc_cert.specs.NamedRows.{named_rows}
use Rattle.dc_check.specs.lemmas.Exact.{verdict-accepts}
use Rattle.dc_check.specs.lemmas.Lent.{handed_in}
use Rattle.dc_check.specs.Accepts.{Accepts}
use Rattle.dc_check.specs.Certified.{KeepsItsClaims}
use Rattle.dc_check.specs.Lent.{tables_of, certificate_of}
use Rattle.dc_check.specs.Numbers.{KeepsItsNumbers}
use Rattle.dc_tables.specs.TableRows.{TableRows}
use Rattle.dc_checkpar.proofs.par.check_par.Goals as goal

pub certify-certified-requires : goal.certify-certified-requires
certify-certified-requires g c =
    let P : TableRows → Type 0 = λ t. Accepts t (named_rows c.args.certificate) in
    subst P c.deref.ensures ((verdict-accepts c.deref.result.now (named_rows c.args.certificate)).0 c.in-Ok.ensures.exact)

pub returns-in-Ok-clause-claims : goal.returns-in-Ok-clause-claims
returns-in-Ok-clause-claims g c =
    handed_in KeepsItsClaims (arc_value c.args.tables) (tables_of c.certify-certified.result) c.args.certificate (certificate_of c.certify-certified.result)
    c.certify-certified.ensures.tables c.certify-certified.ensures.certificate c.keeps_its_claims.ensures.claims

pub returns-in-Ok-clause-numbers : goal.returns-in-Ok-clause-numbers
returns-in-Ok-clause-numbers g c =
    handed_in KeepsItsNumbers (arc_value c.args.tables) (tables_of c.certify-certified.result) c.args.certificate (certificate_of c.certify-certified.result)
    c.certify-certified.ensures.tables c.certify-certified.ensures.certificate c.keeps_its_claims.ensures.numbers
