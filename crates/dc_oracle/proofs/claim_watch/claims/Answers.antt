use Rattle.std.proofs.Common.{◌≡◌, ◌∙◌, ◌+◌, ◌<◌, Option, Some, None, List, [], ◌∷◌, ◌++◌, length, take, sym, subst, arith}
use Rattle.std.proofs.lemmas.List.{take_all}
use Rattle.dc_cert.specs.Bounds.{certificate_rows}
use Rattle.dc_event.specs.Admissible.{IsNumbered}
use Rattle.dc_event.specs.Claims.{ClaimsHold}
use Rattle.dc_event.specs.declared.event.Claim.{Claim}
use Rattle.dc_event.specs.declared.event.Event.{Event}
use Rattle.dc_oracle.specs.Claims.{StandsFor, Judged}
use Rattle.dc_oracle.proofs.Claiming.{hold-nil, hold-push, breaks-here}
use Rattle.dc_oracle.proofs.Entries.{holds-more}
use Rattle.dc_oracle.proofs.Places.{next-place}
use Rattle.dc_oracle.proofs.claim_watch.claims.Goals as goal

pub loop-i-init : goal.loop-i-init
loop-i-init c = record {
  sized = c.in_ok-watch.ensures.sized;
  early = omega (arith, c.in_ok-watch.ensures.tick);
  police_early = omega (arith, c.in_ok-watch.ensures.police_tick);
  stands = λ n. c.in_ok-watch.ensures.stands;
  hold = λ n. hold-nil c.args.tables.now (certificate_rows c.args.certificate.now).ages;
}

pub returns-in-Some : goal.returns-in-Some
returns-in-Some c = λ n.
    let P : Event → Type 0 = λ e. IsNumbered c.args.tables.now e in
    let numbered : IsNumbered c.args.tables.now c.index-run-i.result = subst P (sym c.index-run-i.is) (n c.loop-i.i c.index-run-i.result c.loop-i-test.true) in
    let seen = c.see.ensures.seen (take c.loop-i.i c.args.run.now) (c.loop-i.invariant.stands n) numbered in
    let Q : Option Claim → Type 0 = λ o. Judged c.args.tables.now (certificate_rows c.args.certificate.now).ages (take c.loop-i.i c.args.run.now) c.index-run-i.result o in
    breaks-here c.args.tables.now (certificate_rows c.args.certificate.now).ages c.args.run.now c.loop-i.i c.index-run-i.result c.in-Some.claim c.loop-i-test.true
    (next-place c.args.run.now c.loop-i.i c.index-run-i.result c.loop-i-test.true c.index-run-i.is) (c.loop-i.invariant.hold n) (subst Q c.in-Some.is seen.judged)

pub loop-i-preserved : goal.loop-i-preserved
loop-i-preserved c =
    let P : Event → Type 0 = λ e. IsNumbered c.args.tables.now e in
    let Q : Option Claim → Type 0 = λ o. Judged c.args.tables.now (certificate_rows c.args.certificate.now).ages (take c.loop-i.i c.args.run.now) c.index-run-i.result o in
    record {
      sized = c.see.ensures.sized;
      early = omega (arith, c.see.ensures.tick, c.loop-i.invariant.early);
      police_early = omega (arith, c.see.ensures.police_tick, c.loop-i.invariant.police_early);
      stands = λ n. (
          let seen = c.see.ensures.seen (take c.loop-i.i c.args.run.now) (c.loop-i.invariant.stands n) (subst P (sym c.index-run-i.is) (n c.loop-i.i c.index-run-i.result c.loop-i-test.true)) in
          holds-more (StandsFor c.args.tables.now c.see.new.self) c.args.run.now c.loop-i.i c.index-run-i.result c.loop-i-test.true c.index-run-i.is seen.stands);
      hold = λ n. (
          let seen = c.see.ensures.seen (take c.loop-i.i c.args.run.now) (c.loop-i.invariant.stands n) (subst P (sym c.index-run-i.is) (n c.loop-i.i c.index-run-i.result c.loop-i-test.true)) in
          holds-more (ClaimsHold c.args.tables.now (certificate_rows c.args.certificate.now).ages) c.args.run.now c.loop-i.i c.index-run-i.result c.loop-i-test.true c.index-run-i.is
          (hold-push c.args.tables.now (certificate_rows c.args.certificate.now).ages (take c.loop-i.i c.args.run.now) c.index-run-i.result (c.loop-i.invariant.hold n) (subst Q c.in_default.is seen.judged)));
    }

pub returns : goal.returns
returns c = λ n.
    let P : List Event → Type 0 = λ r. ClaimsHold c.args.tables.now (certificate_rows c.args.certificate.now).ages r in
    subst P (take_all c.loop-i.i c.args.run.now (omega (arith, c.loop-i-test.false))) (c.loop-i.invariant.hold n)
