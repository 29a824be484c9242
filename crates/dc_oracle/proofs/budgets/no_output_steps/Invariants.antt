use Rattle.std.proofs.Common.{[]}
use Rattle.dc_oracle.specs.Fresh.{AllMade}
use Rattle.dc_oracle.specs.Budgets.{last_steps, output_room, no_steps}
use Rattle.dc_oracle.proofs.budgets.no_output_steps.Given as goal

abbrev pub invariant-loop-output : goal.invariant-loop-output
invariant-loop-output l = AllMade (λ k. last_steps (output_room l.tables k) []) no_steps l.output l.outputs.items
