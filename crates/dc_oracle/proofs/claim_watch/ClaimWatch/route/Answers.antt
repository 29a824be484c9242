use Rattle.std.proofs.Common.{◌≡◌, Option, true, None, refl, sym, subst}
use Rattle.dc_event.specs.Emissions.{emission}
use Rattle.dc_event.specs.declared.event.Claim.{Claim}
use Rattle.dc_event.specs.declared.event.Event.{Event}
use Rattle.dc_event.specs.declared.event.Event.TheVariants.{Route}
use Rattle.dc_oracle.specs.Claims.{Judged}
use Rattle.dc_oracle.proofs.Claiming.{judged-unsent, routes-fit}
use Rattle.dc_oracle.proofs.Emitting.{emits-other}
use Rattle.dc_oracle.proofs.Policing.{judges-step}
use Rattle.dc_oracle.proofs.Replying.{emission-none}
use Rattle.dc_oracle.proofs.claim_watch.ClaimWatch.route.Goals as goal

pub returns-clause-seen : goal.returns-clause-seen
returns-clause-seen c = λ ages run h l in_time.
    let t = c.args.tables.now in
    let e : Event = Route c.args.router in
    let none : None ≡ emission c.args.tables.now run (Route c.args.router) = emission-none t run (Route c.args.router) (λ o same. absurd cc) in
    let reported = c.route-reply.ensures.reply run h.replies l in
    let R : Option Claim → Type 0 = λ o. Judged t ages run e o in
    record {
      stands = record {
        replies = reported.holds;
        police = (judges-step t c.args.self.now.police run e refl (λ s. refl) refl h.police).holds;
        arrivals = c.route.ensures.follows run h.arrivals reported.holds l reported.answer;
        emissions = emits-other t c.args.self.now.emissions run e (sym none) h.emissions;
      };
      judged = subst R (sym c.first_unsent.ensures) (judged-unsent t ages run e true c.args.in_time none (routes-fit t run c.args.router) in_time);
    }
