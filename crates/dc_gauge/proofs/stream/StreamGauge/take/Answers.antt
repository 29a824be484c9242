use Rattle.std.proofs.Common.{arith, sym, subst, ◌++◌, ◌∷◌, []}
use Rattle.dc_gauge.specs.Gauges.{IsStreamGauge}
use Rattle.dc_gauge.specs.declared.stream.StreamGauge.{StreamGauge}
use Rattle.dc_gauge.specs.lemmas.StreamSteps.{stream-push}
use Rattle.dc_gauge.proofs.stream.StreamGauge.take.Goals as goal

pub returns : goal.returns
returns c = λ came h later few.
    let P : StreamGauge → Type 0 = λ g. IsStreamGauge c.args.timing (came ++ (c.args.time, c.args.line) ∷ []) g in
    subst P (sym c.gauged.ensures) (stream-push c.args.timing came c.args.self.now c.args.time c.args.line c.requires h later (omega arith) (omega arith) few)
