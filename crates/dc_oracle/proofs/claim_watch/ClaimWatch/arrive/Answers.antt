use Rattle.std.proofs.Common.{◌≡◌, ◌∙◌, Option, true, None, refl, sym, subst}
use Rattle.dc_event.specs.Emissions.{emission}
use Rattle.dc_event.specs.declared.event.Claim.{Claim}
use Rattle.dc_event.specs.declared.event.Event.{Event}
use Rattle.dc_event.specs.declared.event.Event.TheVariants.{Arrive}
use Rattle.dc_event.specs.declared.event.Reply.TheVariants.{TooEarly}
use Rattle.dc_oracle.specs.Claims.{Judged}
use Rattle.dc_oracle.proofs.Arriving.{arrives-no, follows-still, still-arrive}
use Rattle.dc_oracle.proofs.Claiming.{judged-unsent, no_overrun-reported}
use Rattle.dc_oracle.proofs.Emitting.{emits-other}
use Rattle.dc_oracle.proofs.Replying.{emission-none, replies-refused}
use Rattle.dc_oracle.proofs.claim_watch.ClaimWatch.arrive.Goals as goal

pub returns-then-arrive-clause-seen : goal.returns-then-arrive-clause-seen
returns-then-arrive-clause-seen c = λ ages run h l in_time.
    let t = c.args.tables.now in
    let e : Event = Arrive c.args.word c.args.bus in
    let none : None ≡ emission c.args.tables.now run (Arrive c.args.word c.args.bus) = emission-none t run e (λ o same. absurd cc) in
    let j = c.arrive.ensures.judges run h.police l in
    let reported = replies-refused t c.args.self.now.replies run e (sym j.answer ∙ c.if-arrive.true) h.replies in
    let R : Option Claim → Type 0 = λ o. Judged t ages run e o in
    record {
      stands = record {
        replies = reported.holds;
        police = j.holds;
        arrivals = follows-still t c.queues_grow.ensures run e c.args.self.now.arrivals (arrives-no t run c.args.bus c.args.word TooEarly reported.answer refl) (λ a. still-arrive t run c.args.bus c.args.word a) h.arrivals;
        emissions = emits-other t c.args.self.now.emissions run e (sym none) h.emissions;
      };
      judged = subst R (sym c.first_unsent.ensures) (judged-unsent t ages run e true c.args.in_time none (no_overrun-reported t run e TooEarly true refl reported.answer) in_time);
    }

pub returns-clause-seen : goal.returns-clause-seen
returns-clause-seen c = λ ages run h l in_time.
    let t = c.args.tables.now in
    let e : Event = Arrive c.args.word c.args.bus in
    let none : None ≡ emission c.args.tables.now run (Arrive c.args.word c.args.bus) = emission-none t run e (λ o same. absurd cc) in
    let j = c.arrive.ensures.judges run h.police l in
    let reported = c.arrive-reply.ensures.reply run h.replies l (sym j.answer ∙ c.if-arrive.false) in
    let R : Option Claim → Type 0 = λ o. Judged t ages run e o in
    record {
      stands = record {
        replies = reported.holds;
        police = j.holds;
        arrivals = c.arrive-2.ensures.follows run c.args.bus h.arrivals (c.tick-tick.ensures ∙ h.replies.clock) l c.stream_of-stream.ensures.stream reported.answer;
        emissions = emits-other t c.args.self.now.emissions run e (sym none) h.emissions;
      };
      judged = subst R (sym c.first_unsent-2.ensures) (judged-unsent t ages run e c.fits.result c.args.in_time none (no_overrun-reported t run e c.arrive-reply.result c.fits.result c.fits.ensures reported.answer) in_time);
    }
