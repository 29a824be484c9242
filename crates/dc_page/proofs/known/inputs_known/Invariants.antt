use Rattle.std.proofs.Common.{◌≡◌, length}
use Rattle.dc_page.proofs.known.inputs_known.Given as goal

abbrev pub invariant-loop-bus : goal.invariant-loop-bus
invariant-loop-bus l = length l.margins.items ≡ l.bus
