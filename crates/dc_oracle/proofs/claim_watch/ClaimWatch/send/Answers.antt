use Rattle.std.proofs.Common.{◌≡◌, ◌∙◌, ℕ, Option, [], ◌∷◌, ◌++◌, refl, sym, subst}
use Rattle.std.specs.Prelude.{IfSome, MatchBool, slice_index}
use Rattle.dc_cert.specs.Bounds.{certificate_rows}
use Rattle.dc_event.specs.Claims.{IsYoung, UsesFirst, UsesAny}
use Rattle.dc_event.specs.Time.{tick_after}
use Rattle.dc_event.specs.declared.event.Claim.{Claim}
use Rattle.dc_event.specs.declared.event.Event.{Event}
use Rattle.dc_event.specs.declared.event.Event.TheVariants.{Send}
use Rattle.dc_oracle.specs.Claims.{Judged}
use Rattle.dc_oracle.proofs.Arriving.{follows-still, still-send}
use Rattle.dc_oracle.proofs.Claiming.{no_overrun-reported, judged}
use Rattle.dc_oracle.proofs.Policing.{judges-step}
use Rattle.dc_oracle.proofs.claim_watch.ClaimWatch.send.Goals as goal

pub returns-clause-seen : goal.returns-clause-seen
returns-clause-seen c = λ run h l in_time.
    let t = c.args.tables.now in
    let e : Event = Send c.args.output in
    let ages = (certificate_rows c.args.certificate.now).ages in
    let clock : c.tick-tick.result ≡ tick_after run = c.tick-tick.ensures ∙ h.replies.clock in
    let emitted = c.sends-emitted.ensures.emission run h.replies l in
    let reported = c.send-reply.ensures.reply run h.replies l in
    let follows = follows-still t c.queues_grow.ensures run e c.args.self.now.arrivals (λ a. refl) (λ a. still-send t run c.args.output a) h.arrivals in
    let P : Option ℕ → Type 0 = λ o. MatchBool c.is_sent_young-young.result (IfSome o (λ x. IsYoung t x (slice_index ages x) (run ++ e ∷ []))) (IfSome o (λ x. IsYoung t x (slice_index ages x) (run ++ e ∷ [])) → ⊥) in
    let Q : Option ℕ → Type 0 = λ o. MatchBool c.is_sent_live-live.result (IfSome o (λ x. UsesFirst t x (run ++ e ∷ []) × UsesAny t x (run ++ e ∷ []))) (IfSome o (λ x. UsesFirst t x (run ++ e ∷ []) × UsesAny t x (run ++ e ∷ [])) → ⊥) in
    let R : Option Claim → Type 0 = λ o. Judged t ages run e o in
    record {
      stands = record {
        replies = reported.holds;
        police = (judges-step t c.args.self.now.police run e refl (λ s. refl) refl h.police).holds;
        arrivals = follows;
        emissions = c.emit.ensures.emits run e h.emissions clock emitted;
      };
      judged = subst R (sym c.first_of.ensures)
          (judged t ages run e c.fits-fits.result c.is_sent_young-young.result c.is_sent_live-live.result c.args.in_time c.is_spaced-spaced.result
          (no_overrun-reported t run e c.send-reply.result c.fits-fits.result c.fits-fits.ensures reported.answer)
          (subst P emitted (c.is_sent_young-young.ensures (run ++ e ∷ []) reported.holds follows))
          (subst Q emitted (c.is_sent_live-live.ensures (run ++ e ∷ []) reported.holds follows))
          in_time
          (c.is_spaced-spaced.ensures run e h.emissions clock emitted));
    }
