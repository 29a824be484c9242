use Rattle.std.proofs.Common.{subst}
use Rattle.dc_cert.specs.NamedRows.{named_rows}
use Rattle.dc_check.specs.Certified.{KeepsItsClaims}
use Rattle.dc_find.specs.Least.{IsLeastAccepted}
use Rattle.dc_run_design.proofs.laid.certify_laid.Goals as goal

pub returns-in-Ok-certify_tables : goal.returns-in-Ok-certify_tables
returns-in-Ok-certify_tables c =
    let claims = named_rows c.in-Ok-certify_tables.field-0 in
    let of = c.in-Ok-certify_tables.ensures in
    record {
      written = c.in-Ok-read_back.tables;
      claims = claims;
      read = c.in-Ok-read_back.ensures;
      least = subst (λ t. IsLeastAccepted t claims) c.tables.ensures of.least;
      claimed = subst (λ t. KeepsItsClaims t claims) c.tables.ensures of.claimed;
      same = c.in-Ok.ensures;
    }
