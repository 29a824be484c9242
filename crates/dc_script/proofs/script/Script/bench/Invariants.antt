use Rattle.std.proofs.Common.{◌≡◌}
use Rattle.std.specs.Prelude.{All}
use Rattle.dc_script.specs.Script.{AreTimed, listed, written}
use Rattle.dc_script.proofs.script.Script.bench.Given as goal

abbrev pub invariant-loop-bus : goal.invariant-loop-bus
invariant-loop-bus l = (l.words.items ≡ listed (λ b. (written l.tables b l.ticks).words) l.bus) × All (AreTimed l.ticks) l.words.items
