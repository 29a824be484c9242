use Rattle.std.proofs.Common.{◌+◌, false, sym, refl, subst, inl, inr}
use Rattle.dc_event.specs.declared.event.Event.{Event}
use Rattle.dc_event.specs.declared.event.Event.TheVariants.{Route, Send}
use Rattle.dc_oracle.specs.Police.{Judges}
use Rattle.dc_oracle.proofs.Policing.{judges-step, judges-tick}
use Rattle.dc_oracle.proofs.police.Police.refuses.Goals as goal

pub returns-in-Route-clause-judges : goal.returns-in-Route-clause-judges
returns-in-Route-clause-judges c = λ run h l.
    let P : Event → Type 0 = λ e. Judges c.args.tables.now c.args.self.now run e false in
    elim c.in-Route.is [
      | inl (r, e) ↦ subst P (sym e) (judges-step c.args.tables.now c.args.self.now run (Route r) refl (λ s. refl) refl h)
      | inr (o, e) ↦ subst P (sym e) (judges-step c.args.tables.now c.args.self.now run (Send o) refl (λ s. refl) refl h)
    ]

pub returns-in-Tick-clause-judges : goal.returns-in-Tick-clause-judges
returns-in-Tick-clause-judges c = λ run h l.
    let P : Event → Type 0 = λ e. Judges c.args.tables.now c.turn.new.self run e false in
    subst P (sym c.in-Tick.is) (judges-tick c.args.tables.now c.args.self.now c.turn.new.self run c.turn.ensures.tick c.turn.ensures.paces h)
