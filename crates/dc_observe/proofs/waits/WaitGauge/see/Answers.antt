use Rattle.std.proofs.Common.{[], ◌∷◌, ◌++◌, sym, subst, inl, inr}
use Rattle.dc_event.specs.declared.event.Event.{Event}
use Rattle.dc_observe.specs.Waits.{Waits}
use Rattle.dc_observe.proofs.Visiting.{waits-tick, waits-send, waits-arrive}
use Rattle.dc_observe.proofs.waits.WaitGauge.see.Goals as goal

pub returns-in-Tick : goal.returns-in-Tick
returns-in-Tick c = record {
  sized = c.requires.sized;
  waits = λ run h clock holds l is. (
      let P : Event → Type 0 = λ e. Waits c.args.tables.now c.args.self.now (run ++ e ∷ []) in
      elim c.in-Tick.is [
        | inl e ↦ subst P (sym e) (waits-tick c.args.tables.now c.args.self.now run h)
        | inr r ↦ elim r [
          | inl (w, a, e) ↦ subst P (sym e) (waits-arrive c.args.tables.now c.args.self.now run w a h)
          | inr (o, e) ↦ subst P (sym e) (waits-send c.args.tables.now c.args.self.now run o h)
        ]
      ]);
}
