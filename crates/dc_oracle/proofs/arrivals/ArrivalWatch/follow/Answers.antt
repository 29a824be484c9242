use Rattle.std.proofs.Common.{[], ◌∷◌, ◌++◌, refl, sym, subst, inl, inr}
use Rattle.dc_oracle.specs.Arrivals.{Follows}
use Rattle.dc_event.specs.declared.event.Event.{Event}
use Rattle.dc_event.specs.declared.event.Event.TheVariants.{Tick, Send}
use Rattle.dc_oracle.proofs.Arriving.{follows-still, still-tick, still-send}
use Rattle.dc_oracle.proofs.arrivals.ArrivalWatch.follow.Goals as goal

pub returns-in-Tick-clause-follows : goal.returns-in-Tick-clause-follows
returns-in-Tick-clause-follows c = λ run h clock holds l is.
    let P : Event → Type 0 = λ e. Follows c.args.tables.now c.args.self.now (run ++ e ∷ []) in
    elim c.in-Tick.is [
      | inl e ↦ subst P (sym e) (follows-still c.args.tables.now c.queues_grow.ensures run Tick c.args.self.now (λ a. refl) (λ a. still-tick c.args.tables.now run a) h)
      | inr (o, e) ↦ subst P (sym e) (follows-still c.args.tables.now c.queues_grow.ensures run (Send o) c.args.self.now (λ a. refl) (λ a. still-send c.args.tables.now run o a) h)
    ]
