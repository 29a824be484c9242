use Rattle.std.proofs.Common.{◌<◌, ◌≤◌, ◌-◌, ◌^◌, length, sym, ap, ◌∙◌, Some, arith}
use Rattle.std.proofs.lemmas.List.{get_or_read}
use Rattle.dc_event.specs.Outputs.{due_tick}
use Rattle.dc_oracle.proofs.Replying.{emission-idle, emission-sent}
use Rattle.dc_oracle.proofs.replies.ReplyWatch.sends.Goals as goal

pub returns-then-due-self-clause-emission : goal.returns-then-due-self-clause-emission
returns-then-due-self-clause-emission c = λ run h l.
    let there : c.args.output < length c.args.self.now.sent.items = omega (arith, c.if-output-len.false, c.len.ensures) in
    let read = get_or_read c.args.self.now.sent.items c.args.output c.index-number.result.now there c.index-number.ensures 0 in
    sym (emission-idle c.args.tables.now c.valid.ensures c.args.self.now c.args.self.now run c.args.output c.index-number.result.now l read h (omega (arith, c.if-due-self.true, c.entry-label.ensures.due)))

pub returns-clause-emission : goal.returns-clause-emission
returns-clause-emission c = λ run h l.
    let there : c.args.output < length c.args.self.now.sent.items = omega (arith, c.if-output-len.false, c.len.ensures) in
    let read = get_or_read c.args.self.now.sent.items c.args.output c.index-number.result.now there c.index-number.ensures 0 in
    let due : due_tick c.args.tables.now c.args.output c.index-number.result.now ≤ c.args.self.now.tick = omega (arith, c.if-due-self.false, c.entry-label.ensures.due, c.requires.early) in
    ap (λ x. Some x) c.entry-label.ensures.label ∙ sym (emission-sent c.args.tables.now c.valid.ensures c.args.self.now c.args.self.now run c.args.output c.index-number.result.now l read h due)
