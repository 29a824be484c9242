use Rattle.dc_script.specs.Script.{written}
use Rattle.dc_script.proofs.Writings.{listed-more, timed-more-buses}
use Rattle.dc_script.proofs.script.Script.bench.Goals as goal

pub loop-bus-preserved : goal.loop-bus-preserved
loop-bus-preserved c = (
  listed-more (λ b. (written c.args.tables.now b c.args.ticks).words) c.loop-bus.bus c.loop-bus.words.items c.push.new.self.items c.in_ok-words_of.field-0 c.loop-bus.invariant.0 c.in_ok-words_of.ensures c.in_ok-push.ensures.items,
  timed-more-buses c.args.tables.now c.loop-bus.bus c.args.ticks c.loop-bus.words.items c.push.new.self.items c.in_ok-words_of.field-0 c.loop-bus.invariant.1 c.in_ok-words_of.ensures c.in_ok-push.ensures.items,
)
