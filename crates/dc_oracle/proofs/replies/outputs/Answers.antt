use Rattle.std.proofs.Common.{◌∙◌, take, subst, sym, arith}
use Rattle.dc_event.specs.Admissible.{IsNumbered}
use Rattle.dc_event.specs.declared.event.Event.{Event}
use Rattle.dc_oracle.specs.Police.{Polices}
use Rattle.dc_oracle.specs.Replies.{Holds}
use Rattle.dc_oracle.proofs.Entries.{none-reported, holds-more, reported-more}
use Rattle.dc_oracle.proofs.replies.outputs.Goals as goal

pub loop-event-init : goal.loop-event-init
loop-event-init c = record {
  sized = c.in_ok-watch.ensures.sized;
  paces = c.in_ok-police.ensures.sized;
  early = omega (arith, c.in_ok-watch.ensures.tick);
  police_early = omega (arith, c.in_ok-police.ensures.tick);
  polices = λ n. c.in_ok-police.ensures.holds;
  holds = λ n. c.in_ok-watch.ensures.holds;
  replies = λ n. c.new-replies.ensures.items ∙ none-reported c.args.tables.now;
}

pub loop-event-preserved : goal.loop-event-preserved
loop-event-preserved c =
    let v = c.loop-event.invariant in
    let P : Event → Type 0 = λ e. IsNumbered c.args.tables.now e in
    record {
      sized = c.answer-reply.ensures.sized;
      paces = c.answer-reply.ensures.paces;
      early = omega (arith, c.answer-reply.ensures.tick, v.early);
      police_early = omega (arith, c.answer-reply.ensures.police_tick, v.police_early);
      polices = λ n. (let s = c.answer-reply.ensures.judges (take c.loop-event.event-index c.args.run.now) (v.polices n) (subst P (sym c.event-item.is) (n c.loop-event.event-index c.event-item.result c.loop-event-test.true)) in
          holds-more (Polices c.args.tables.now c.answer-reply.new.police) c.args.run.now c.loop-event.event-index c.event-item.result c.loop-event-test.true c.event-item.is s);
      holds = λ n. (let s = c.answer-reply.ensures.reply (take c.loop-event.event-index c.args.run.now) (v.holds n) (v.polices n) (subst P (sym c.event-item.is) (n c.loop-event.event-index c.event-item.result c.loop-event-test.true)) in
          holds-more (Holds c.args.tables.now c.answer-reply.new.watch) c.args.run.now c.loop-event.event-index c.event-item.result c.loop-event-test.true c.event-item.is s.holds);
      replies = λ n. (let s = c.answer-reply.ensures.reply (take c.loop-event.event-index c.args.run.now) (v.holds n) (v.polices n) (subst P (sym c.event-item.is) (n c.loop-event.event-index c.event-item.result c.loop-event-test.true)) in
          c.in_ok-push.ensures.items ∙ reported-more c.args.tables.now c.args.run.now c.loop-event.event-index c.event-item.result c.loop-event.replies.items c.answer-reply.result c.loop-event-test.true c.event-item.is (v.replies n) s.answer);
    }
