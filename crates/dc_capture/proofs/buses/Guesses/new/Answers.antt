use Rattle.std.proofs.Common.{arith, refl}
use Rattle.std.proofs.lemmas.List.Elements.{All-replicate}
use Rattle.dc_capture.specs.Guesses.{Tells}
use Rattle.dc_capture.specs.declared.buses.TheConstants.{NO_NAME, PLACES}
use Rattle.dc_capture.proofs.buses.Guesses.new.Goals as goal

pub returns : goal.returns
returns c = λ names. All-replicate (Tells names) PLACES NO_NAME (omega arith, refl, tt)
