use Rattle.std.proofs.Common.{◌≡◌, ◌∙◌, [], ◌∷◌, length-append, arith}
use Rattle.dc_event.specs.Time.{tick_after}
use Rattle.dc_observe.proofs.nearness.Nearness.see.Goals as goal

pub returns-clause-near : goal.returns-clause-near
returns-clause-near c = λ run h l.
    let e = c.args.event.now in
    let clock : c.tick-tick.result ≡ tick_after run = c.tick-tick.ensures ∙ h.replies.clock in
    let emitted = c.emits-emitted.ensures.emission run h.replies l in
    let reported = c.answer-reply.ensures.reply run h.replies h.police l in
    let follows = c.follow.ensures.follows run h.arrivals clock reported.holds l reported.answer in
    record {
      count = omega (arith, h.count, length-append run (e ∷ []));
      replies = reported.holds;
      police = c.answer-reply.ensures.judges run h.police l;
      arrivals = follows;
      backlogs = c.see-2.ensures.observes run h.backlogs reported.holds l;
      waits = c.see-3.ensures.waits run h.waits clock reported.holds l reported.answer;
      lates = c.see.ensures.late run h.lates h.replies l;
      labels = c.see-4.ensures.gauged run e h.labels (omega (arith, h.count, c.requires.few)) emitted clock reported.holds follows;
    }
