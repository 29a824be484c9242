use Rattle.dc_oracle.specs.Fresh.{AllMade}
use Rattle.dc_oracle.specs.Pace.{no_pace}
use Rattle.dc_oracle.proofs.sources.no_paces.Given as goal

abbrev pub invariant-loop-stream : goal.invariant-loop-stream
invariant-loop-stream l = AllMade (λ _. no_pace) no_pace l._stream l.paces.items
