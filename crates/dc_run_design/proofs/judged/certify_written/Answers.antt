use Rattle.std.proofs.Common.{subst}
use Rattle.dc_cert.specs.NamedRows.{named_rows}
use Rattle.dc_check.specs.Certified.{KeepsItsClaims}
use Rattle.dc_find.specs.Least.{IsLeastAccepted}
use Rattle.dc_rows_kept.specs.KeepsRows.{KeepsRows}
use Rattle.dc_run_design.proofs.judged.certify_written.Goals as goal

pub returns-in-Ok-certify_tables : goal.returns-in-Ok-certify_tables
returns-in-Ok-certify_tables c =
    let claims = named_rows c.in-Ok-certify_tables.certificate in
    let of = c.in-Ok-certify_tables.ensures in
    record {
      least = subst (λ t. IsLeastAccepted t claims) c.tables.ensures of.least;
      claimed = subst (λ t. KeepsItsClaims t claims) c.tables.ensures of.claimed;
      kept = subst (λ d. KeepsRows c.args.wanted.now.inputs.now.rows.items c.args.wanted.now.outputs.now.rows.items d) c.parts.ensures c.in-Ok.ensures;
    }
