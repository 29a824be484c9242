use Rattle.std.proofs.Common.{subst}
use Rattle.dc_cert.specs.NamedRows.{named_rows}
use Rattle.dc_check.proofs.Numbers.{certificate_numbers}
use Rattle.dc_check.proofs.Whole.{claims_hold}
use Rattle.dc_check.specs.Accepts.{Accepts}
use Rattle.dc_check.specs.Certified.{KeepsItsClaims}
use Rattle.dc_check.specs.Lent.{certificate_of}
use Rattle.dc_check.specs.Numbers.{KeepsItsNumbers}
use Rattle.dc_tables.specs.TableRows.{TableRows}
use Rattle.dc_check.proofs.certified.Certified.keeps_its_claims.Goals as goal

pub returns-clause-claims : goal.returns-clause-claims
returns-clause-claims c =
    let P : TableRows → Type 0 = λ t. Accepts t (named_rows (certificate_of c.args.self.now)) → KeepsItsClaims t (named_rows (certificate_of c.args.self.now)) in
    subst P c.deref.ensures (λ ok. claims_hold c.deref.result.now c.valid.ensures (named_rows (certificate_of c.args.self.now)) ok) c.args.self.now.accepted

pub returns-clause-numbers : goal.returns-clause-numbers
returns-clause-numbers c =
    let P : TableRows → Type 0 = λ t. Accepts t (named_rows (certificate_of c.args.self.now)) → KeepsItsNumbers t (named_rows (certificate_of c.args.self.now)) in
    subst P c.deref.ensures (λ ok. certificate_numbers c.deref.result.now c.valid.ensures (named_rows (certificate_of c.args.self.now)) ok) c.args.self.now.accepted
