use Rattle.std.proofs.Common.{◌+◌, [], ◌∷◌, ◌++◌, sym, refl, subst, inl, inr}
use Rattle.dc_oracle.specs.Sources.{Watches}
use Rattle.dc_event.specs.declared.event.Event.{Event}
use Rattle.dc_event.specs.declared.event.Event.TheVariants.{Route, Send}
use Rattle.dc_oracle.proofs.Sourcing.{watches-quiet, watches-tick}
use Rattle.dc_oracle.proofs.sources.SourceWatch.see.Goals as goal

pub returns-in-Route-clause-seen : goal.returns-in-Route-clause-seen
returns-in-Route-clause-seen c = λ run h.
    let P : Event → Type 0 = λ e. Watches c.args.tables.now c.args.self.now (run ++ e ∷ []) in
    elim c.in-Route.is [
      | inl (r, e) ↦ subst P (sym e) (watches-quiet c.args.tables.now c.valid.ensures run (Route r) (λ b l free. refl) c.args.self.now refl h)
      | inr (o, e) ↦ subst P (sym e) (watches-quiet c.args.tables.now c.valid.ensures run (Send o) (λ b l free. refl) c.args.self.now refl h)
    ]

pub returns-in-Tick-clause-seen : goal.returns-in-Tick-clause-seen
returns-in-Tick-clause-seen c = λ run h.
    let P : Event → Type 0 = λ e. Watches c.args.tables.now (record { tick = c.args.self.now.tick + 1; streams = c.args.self.now.streams; wires = c.args.self.now.wires }) (run ++ e ∷ []) in
    subst P (sym c.in-Tick.is) (watches-tick c.args.tables.now c.valid.ensures run c.args.self.now (record { tick = c.args.self.now.tick + 1; streams = c.args.self.now.streams; wires = c.args.self.now.wires }) refl refl refl h)
