use Rattle.std.proofs.Common.{◌≡◌, ◌<◌, ◌-◌, ◌^◌, ◌∙◌, min, length, sym, ap, arith}
use Rattle.std.proofs.lemmas.List.{get_or_read}
use Rattle.dc_event.specs.Time.{tick_after}
use Rattle.dc_event.specs.Outputs.{due_tick, sent}
use Rattle.dc_observe.proofs.Leaving.{end-early, end-due}
use Rattle.dc_observe.proofs.lates.LateGauge.greatest.Goals as goal

pub returns-then-due-tick : goal.returns-then-due-tick
returns-then-due-tick c = λ run h holds.
    let there : c.args.output < length c.args.self.now.latest.items = omega (arith, c.requires.there, c.requires.sized) in
    let read = get_or_read c.args.self.now.latest.items c.args.output c.index-latest.result.now there c.index-latest.ensures 0 in
    let clock : c.tick-tick.result ≡ tick_after run = c.tick-tick.ensures ∙ holds.clock in
    let due : c.next_due-due.result ≡ min (due_tick c.args.tables.now c.args.output (sent c.args.tables.now c.args.output run)) (2 ^ 64 - 1) =
    c.next_due-due.ensures ∙ ap (λ n. min (due_tick c.args.tables.now c.args.output n) (2 ^ 64 - 1)) (holds.counts c.args.output c.requires.there) in
    read ∙ h c.args.output c.requires.there
    ∙ sym (end-early c.args.tables.now c.valid.ensures run c.args.output c.requires.there c.next_due-due.result (2 ^ 64 - 1) c.tick-tick.result due clock (omega (arith, c.tick-tick.type_inv)) (omega (arith, c.if-due-tick.true)))

pub returns : goal.returns
returns c = λ run h holds.
    let there : c.args.output < length c.args.self.now.latest.items = omega (arith, c.requires.there, c.requires.sized) in
    let read = get_or_read c.args.self.now.latest.items c.args.output c.index-latest.result.now there c.index-latest.ensures 0 in
    let clock : c.tick-tick.result ≡ tick_after run = c.tick-tick.ensures ∙ holds.clock in
    let due : c.next_due-due.result ≡ min (due_tick c.args.tables.now c.args.output (sent c.args.tables.now c.args.output run)) (2 ^ 64 - 1) =
    c.next_due-due.ensures ∙ ap (λ n. min (due_tick c.args.tables.now c.args.output n) (2 ^ 64 - 1)) (holds.counts c.args.output c.requires.there) in
    omega (
      arith,
      c.max.ensures,
      read,
      h c.args.output c.requires.there,
      end-due c.args.tables.now c.valid.ensures run c.args.output c.requires.there c.next_due-due.result (2 ^ 64 - 1) c.tick-tick.result due clock (omega (arith, c.tick-tick.type_inv)) (omega (arith, c.if-due-tick.false)),
    )
