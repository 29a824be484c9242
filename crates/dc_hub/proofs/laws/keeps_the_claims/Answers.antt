use Rattle.std.proofs.Common.{subst}
use Rattle.dc_cert.specs.Bounds.{numbers_of}
use Rattle.dc_cert.specs.NamedRows.{named_rows}
use Rattle.dc_check.specs.Lent.{tables_of, certificate_of}
use Rattle.dc_event.specs.Admissible.{KeepsSources}
use Rattle.dc_event.specs.Claims.{ClaimsHold}
use Rattle.dc_hub.specs.Entries.{events}
use Rattle.dc_hub.specs.Views.{ClosedView}
use Rattle.dc_hub.proofs.laws.keeps_the_claims.Goals as goal

pub returns : goal.returns
returns c =
    let legal = c.closed.invariant in
    subst (λ (b : ClosedView). KeepsSources (tables_of b.certified) (events b.entries) → ClaimsHold (tables_of b.certified) (numbers_of (named_rows (certificate_of b.certified))).ages (events b.entries))
    c.closed.view_is
    (λ sources. c.keeps_its_claims.ensures.claims (events c.closed.inside.entries.items) (record { numbers = legal.numbers; sources = sources; budgets = legal.budgets }))
