use Rattle.std.proofs.Common.{subst}
use Rattle.dc_cert.specs.NamedRows.{named_rows}
use Rattle.dc_check.specs.Lent.{tables_of, certificate_of}
use Rattle.dc_tables.specs.TableRows.{TableRows}
use Rattle.dc_time.specs.Laws.{SourcesKeepTicks, ClaimsKeepTime}
use Rattle.dc_in_time.proofs.Keeping.{are_admissible, in_time}
use Rattle.dc_in_time.proofs.in_time.keeps_its_claims_in_time.Goals as goal

pub returns-clause-claims : goal.returns-clause-claims
returns-clause-claims c =
    let P : TableRows → Type 0 = λ t. SourcesKeepTicks t in
    let Q : TableRows → Type 0 = λ t. ClaimsKeepTime t in
    in_time (tables_of c.args.certified.now) (subst P c.tables-tables.ensures c.sources_keep_ticks.ensures) (subst Q c.tables-tables.ensures c.claims_keep_time.ensures) (named_rows (certificate_of c.args.certified.now)) c.keeps_its_claims.ensures.claims

pub returns-clause-admissible : goal.returns-clause-admissible
returns-clause-admissible c =
    let P : TableRows → Type 0 = λ t. SourcesKeepTicks t in
    are_admissible (tables_of c.args.certified.now) (subst P c.tables-tables.ensures c.sources_keep_ticks.ensures)
