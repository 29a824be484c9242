use Rattle.std.proofs.Common.{◌∙◌, sym, subst}
use Rattle.dc_cert.specs.Bounds.{certificate_rows}
use Rattle.dc_event.specs.Admissible.{IsNumbered}
use Rattle.dc_event.specs.declared.event.Event.{Event}
use Rattle.dc_event.specs.declared.event.Event.TheVariants.{Tick, Arrive, Route, Send}
use Rattle.dc_oracle.specs.Claims.{Seen}
use Rattle.dc_oracle.proofs.Claiming.{stands-emissions}
use Rattle.dc_oracle.proofs.claim_watch.ClaimWatch.see.Goals as goal

pub returns-in-Arrive-clause-seen : goal.returns-in-Arrive-clause-seen
returns-in-Arrive-clause-seen c = λ run h l.
    let t = c.args.tables.now in
    let ages = (certificate_rows c.args.certificate.now).ages in
    let e : Event = Arrive c.in-Arrive.word c.in-Arrive.bus in
    let N : Event → Type 0 = λ e. IsNumbered t e in
    let P : Event → Type 0 = λ e. Seen t ages c.arrive.new.self run e c.arrive.result in
    subst P (sym c.in-Arrive.is) (c.arrive.ensures.seen ages run (stands-emissions t c.args.self.now run c.is_in_time-in_time.new.self (c.is_in_time-in_time.ensures.emits run h.emissions) h) (subst N c.in-Arrive.is l)
    (c.is_in_time-in_time.ensures.in_time run e h.emissions (c.tick.ensures ∙ h.replies.clock)))

pub returns-in-Route-clause-seen : goal.returns-in-Route-clause-seen
returns-in-Route-clause-seen c = λ run h l.
    let t = c.args.tables.now in
    let ages = (certificate_rows c.args.certificate.now).ages in
    let e : Event = Route c.in-Route.router in
    let N : Event → Type 0 = λ e. IsNumbered t e in
    let P : Event → Type 0 = λ e. Seen t ages c.route.new.self run e c.route.result in
    subst P (sym c.in-Route.is) (c.route.ensures.seen ages run (stands-emissions t c.args.self.now run c.is_in_time-in_time.new.self (c.is_in_time-in_time.ensures.emits run h.emissions) h) (subst N c.in-Route.is l)
    (c.is_in_time-in_time.ensures.in_time run e h.emissions (c.tick.ensures ∙ h.replies.clock)))

pub returns-in-Send-clause-seen : goal.returns-in-Send-clause-seen
returns-in-Send-clause-seen c = λ run h l.
    let t = c.args.tables.now in
    let ages = (certificate_rows c.args.certificate.now).ages in
    let e : Event = Send c.in-Send.output in
    let N : Event → Type 0 = λ e. IsNumbered t e in
    let P : Event → Type 0 = λ e. Seen t ages c.send.new.self run e c.send.result in
    subst P (sym c.in-Send.is) (c.send.ensures.seen run (stands-emissions t c.args.self.now run c.is_in_time-in_time.new.self (c.is_in_time-in_time.ensures.emits run h.emissions) h) (subst N c.in-Send.is l)
    (c.is_in_time-in_time.ensures.in_time run e h.emissions (c.tick.ensures ∙ h.replies.clock)))

pub returns-in-Tick-clause-seen : goal.returns-in-Tick-clause-seen
returns-in-Tick-clause-seen c = λ run h l.
    let t = c.args.tables.now in
    let ages = (certificate_rows c.args.certificate.now).ages in
    let P : Event → Type 0 = λ e. Seen t ages c.turn.new.self run e c.turn.result in
    subst P (sym c.in-Tick.is) (c.turn.ensures.seen ages run (stands-emissions t c.args.self.now run c.is_in_time-in_time.new.self (c.is_in_time-in_time.ensures.emits run h.emissions) h)
    (c.is_in_time-in_time.ensures.in_time run Tick h.emissions (c.tick.ensures ∙ h.replies.clock)))
