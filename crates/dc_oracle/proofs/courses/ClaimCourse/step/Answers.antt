use Rattle.std.proofs.Common.{◌≡◌, ◌+◌, ◌∙◌, ℕ, Option, Some, None, List, [], ◌∷◌, ◌++◌, length, refl, sym, ap, subst, arith}
use Rattle.dc_cert.specs.Bounds.{certificate_rows}
use Rattle.dc_event.specs.Breaks.{BreaksClaimsAt}
use Rattle.dc_event.specs.declared.event.Claim.{Claim}
use Rattle.dc_oracle.specs.Claims.{StandsFor, Judged}
use Rattle.dc_oracle.proofs.Claiming.{hold-push}
use Rattle.dc_oracle.proofs.Coursing.{no_place, longer, claims-now}
use Rattle.dc_oracle.proofs.courses.ClaimCourse.step.Goals as goal

pub returns-in_default-clause-tells : goal.returns-in_default-clause-tells
returns-in_default-clause-tells c = λ run h numbered.
    let ages = (certificate_rows c.args.certificate.now).ages in
    let none : c.args.self.now.broken ≡ None = no_place c.args.self.now.broken (sym c.is_some.ensures ∙ c.if-is_some.false) in
    let seen = c.see.ensures.seen run (h.watch none) numbered in
    let Q : Option Claim → Type 0 = λ o. Judged c.args.tables.now ages run c.args.event o in
    let R : Option (Claim × ℕ) → Type 0 = λ o. BreaksClaimsAt c.args.tables.now ages run o in
    record {
      count = omega (arith, h.count, longer run c.args.event);
      place = rw none (hold-push c.args.tables.now ages run c.args.event (subst R none h.place) (subst Q c.in_default.is seen.judged));
      watch = λ e. seen.stands;
    }
