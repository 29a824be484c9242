use Rattle.std.proofs.Common.{◌≡◌, Option, true, None, refl, sym, subst}
use Rattle.dc_event.specs.Emissions.{emission}
use Rattle.dc_event.specs.declared.event.Claim.{Claim}
use Rattle.dc_event.specs.declared.event.Event.TheVariants.{Tick}
use Rattle.dc_oracle.specs.Claims.{Judged}
use Rattle.dc_oracle.proofs.Arriving.{follows-still, still-tick}
use Rattle.dc_oracle.proofs.Claiming.{judged-unsent, ticks-fit}
use Rattle.dc_oracle.proofs.Emitting.{emits-other}
use Rattle.dc_oracle.proofs.Policing.{judges-tick}
use Rattle.dc_oracle.proofs.Replying.{emission-none}
use Rattle.dc_oracle.proofs.claim_watch.ClaimWatch.turn.Goals as goal

pub returns-clause-seen : goal.returns-clause-seen
returns-clause-seen c = λ ages run h in_time.
    let t = c.args.tables.now in
    let none : None ≡ emission c.args.tables.now run Tick = emission-none t run Tick (λ o same. absurd cc) in
    let R : Option Claim → Type 0 = λ o. Judged t ages run Tick o in
    record {
      stands = record {
        replies = (c.turn-2.ensures.reply run h.replies).holds;
        police = (judges-tick t c.args.self.now.police c.turn.new.self run c.turn.ensures.tick c.turn.ensures.paces h.police).holds;
        arrivals = follows-still t c.queues_grow.ensures run Tick c.args.self.now.arrivals (λ a. refl) (λ a. still-tick t run a) h.arrivals;
        emissions = emits-other t c.args.self.now.emissions run Tick (sym none) h.emissions;
      };
      judged = subst R (sym c.first_unsent.ensures) (judged-unsent t ages run Tick true c.args.in_time none (ticks-fit t run) in_time);
    }
