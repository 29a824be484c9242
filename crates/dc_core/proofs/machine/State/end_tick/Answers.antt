use Rattle.std.proofs.Common.{refl, arith}
use Rattle.dc_event.specs.declared.event.Event.TheVariants.{Tick}
use Rattle.dc_core.specs.Lacking.{NoneLacks, FirstLacks}
use Rattle.dc_event.specs.lemmas.RunPush.{tick-push}
use Rattle.dc_core.proofs.Paces.{paces-other}
use Rattle.dc_core.proofs.Sending.{standing-tick}
use Rattle.dc_core.proofs.Ticking.{first_lacking, none_lacking}
use Rattle.dc_core.proofs.machine.State.end_tick.Goals as goal

pub returns-then-self-ge-LAST_TICK-clause-step : goal.returns-then-self-ge-LAST_TICK-clause-step
returns-then-self-ge-LAST_TICK-clause-step c = λ run h.
    let n = tick-push run Tick in
    ((λ m. omega (arith, m.early, n, h.0.clock, c.if-self-ge-LAST_TICK.true)), (refl, omega (arith, n, h.0.clock, c.if-self-ge-LAST_TICK.true)))

pub returns-in-Some-clause-step : goal.returns-in-Some-clause-step
returns-in-Some-clause-step c = λ run h.
    let n = tick-push run Tick in
    let f : FirstLacks c.args.tables.now c.args.self.now.routers.items c.args.self.now.outputs.items c.in-Some.actor = c.in-Some.ensures in
    let r = first_lacking _ _ _ _ _ _ run c.valid.ensures h.0 c.in-Some.actor f in
    ((λ m. r.1 m.keeps), (refl, omega (arith, n, h.0.clock, c.if-self-ge-LAST_TICK.false), r.0))

pub returns-clause-step : goal.returns-clause-step
returns-clause-step c = λ run h.
    let n = tick-push run Tick in
    let none : NoneLacks c.args.tables.now c.args.self.now.routers.items c.args.self.now.outputs.items = c.in_default.ensures in
    let k = none_lacking _ _ _ _ _ _ run c.valid.ensures h.0 none in
    let s = standing-tick _ _ _ _ c.args.self.now.routers.items c.turn_routers.new.routers.items c.args.self.now.outputs.items c.turn_outputs.new.outputs.items run c.valid.ensures k
    (λ r l. c.turn_routers.ensures.turned r (omega (arith, l, c.requires.sized.routers)))
    (λ o l. c.turn_outputs.ensures.turned o (omega (arith, l, c.requires.sized.outputs))) h.0 in
    (record { numbered = tt; early = omega (arith, n, h.0.clock, c.if-self-ge-LAST_TICK.false); keeps = k }, (s.0, paces-other c.args.tables.now c.args.self.now.paces.items run Tick (λ s. refl) h.1), s.1)
