use Rattle.std.proofs.Common.{◌<◌, ◌≤◌, ◌-◌, ◌^◌, ◌∙◌, [], ◌∷◌, ◌++◌, length, ap, refl, arith}
use Rattle.std.proofs.lemmas.List.{get_or_read}
use Rattle.dc_tables.specs.declared.rows.OutputLabel.{OutputLabel}
use Rattle.dc_event.specs.Outputs.{due_tick}
use Rattle.dc_event.specs.declared.event.Event.TheVariants.{Send}
use Rattle.dc_event.specs.declared.event.Reply.TheVariants.{Sent}
use Rattle.dc_oracle.proofs.Choosing.{chosen-is}
use Rattle.dc_oracle.proofs.Replying.{replies-idle, holds-sent, sent_reply}
use Rattle.dc_oracle.proofs.replies.ReplyWatch.send.Goals as goal

pub returns-then-due-self-clause-reply : goal.returns-then-due-self-clause-reply
returns-then-due-self-clause-reply c = λ run h l.
    let there : c.args.output < length c.args.self.now.sent.items = omega (arith, c.if-output-len.false, c.len.ensures) in
    let read = get_or_read c.args.self.now.sent.items c.args.output c.index-number.result.now there c.index-number.ensures 0 in
    replies-idle c.args.tables.now c.valid.ensures c.args.self.now c.args.self.now run c.args.output c.index-number.result.now l read h (omega (arith, c.if-due-self.true, c.entry-label.ensures.due))

pub returns-clause-reply : goal.returns-clause-reply
returns-clause-reply c = λ run h l.
    let there : c.args.output < length c.args.self.now.sent.items = omega (arith, c.if-output-len.false, c.len.ensures) in
    let read = get_or_read c.args.self.now.sent.items c.args.output c.index-number.result.now there c.index-number.ensures 0 in
    let due : due_tick c.args.tables.now c.args.output c.index-number.result.now ≤ c.args.self.now.tick = omega (arith, c.if-due-self.false, c.entry-label.ensures.due, c.requires.early) in
    let holds = holds-sent c.args.tables.now c.valid.ensures c.args.self.now _ run c.args.output c.index-number.result.now l read h c.saturating_add.result (2 ^ 64 - 1) c.saturating_add.ensures c.requires.early due there refl refl refl refl refl in
    record {
      holds = holds;
      answer = ap (λ (r : OutputLabel). Sent r.label c.chosen.result) c.label.ensures
          ∙ sent_reply c.args.tables.now c.valid.ensures c.args.self.now c.args.self.now run c.args.output c.index-number.result.now l read h due c.entry-label.result.0 c.chosen.result c.entry-label.ensures.label
          (c.chosen.ensures ∙ chosen-is c.args.tables.now _ (run ++ Send c.args.output ∷ []) c.entry-label.result.0 c.valid.ensures c.entry-label.ensures.there holds);
    }
