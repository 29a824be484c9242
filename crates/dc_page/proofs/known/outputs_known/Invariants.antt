use Rattle.std.proofs.Common.{◌≡◌, length}
use Rattle.dc_page.proofs.known.outputs_known.Given as goal

abbrev pub invariant-loop-output : goal.invariant-loop-output
invariant-loop-output l = length l.margins.items ≡ l.output
