use Rattle.std.proofs.Common.{sym, subst, ◌++◌, ◌∷◌, []}
use Rattle.dc_gauge.specs.Gauges.{IsWireGauge}
use Rattle.dc_gauge.specs.declared.wire.WireGauge.{WireGauge}
use Rattle.dc_gauge.specs.lemmas.WireSteps.{wire-push}
use Rattle.dc_gauge.proofs.wire.WireGauge.take.Goals as goal

pub returns : goal.returns
returns c = λ came h later few.
    let P : WireGauge → Type 0 = λ g. IsWireGauge c.args.spacing (came ++ (c.args.time, c.args.line) ∷ []) g in
    subst P (sym c.gauged.ensures) (wire-push c.args.spacing came c.args.self.now c.args.time c.args.line c.requires h later few)
