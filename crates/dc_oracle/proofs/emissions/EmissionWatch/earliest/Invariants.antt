use Rattle.dc_oracle.specs.Emissions.{IsLimit}
use Rattle.dc_oracle.proofs.emissions.EmissionWatch.earliest.Given as goal

abbrev pub invariant-loop-label : goal.invariant-loop-label
invariant-loop-label l = IsLimit l.tables l.self.last.items l.label l.first
