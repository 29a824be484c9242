use Rattle.std.proofs.Common.{[], ◌∷◌, ◌++◌, sym, subst, inl, inr}
use Rattle.dc_event.specs.declared.event.Event.{Event}
use Rattle.dc_observe.specs.Lates.{AreLate}
use Rattle.dc_observe.proofs.Leaving.{late-tick, late-arrive, late-route}
use Rattle.dc_observe.proofs.lates.LateGauge.see.Goals as goal

pub returns-in-Tick : goal.returns-in-Tick
returns-in-Tick c = record {
  sized = c.requires.sized;
  late = λ run h holds l. (
      let P : Event → Type 0 = λ e. AreLate c.args.tables.now c.args.self.now (run ++ e ∷ []) in
      elim c.in-Tick.is [
        | inl e ↦ subst P (sym e) (late-tick c.args.tables.now c.args.self.now run h)
        | inr r ↦ elim r [
          | inl (w, a, e) ↦ subst P (sym e) (late-arrive c.args.tables.now c.args.self.now run w a h)
          | inr (q, e) ↦ subst P (sym e) (late-route c.args.tables.now c.args.self.now run q h)
        ]
      ]);
}
