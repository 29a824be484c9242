use Rattle.std.proofs.Common.{codes, refl, None}
use Rattle.clap.specs.Words.{found_of}
use Rattle.dc_command.proofs.Reading.{some_when_given, when_given}
use Rattle.dc_command.proofs.explained.when_in.Goals as goal

pub returns-in-Some : goal.returns-in-Some
returns-in-Some c = some_when_given (found_of c.args.matches.now) (codes "explain") c.in-Some.text.now c.when_of.result c.in-Some.ensures c.when_of.ensures

pub returns-in-None : goal.returns-in-None
returns-in-None c = when_given (found_of c.args.matches.now) (codes "explain") None _ c.in-None.ensures refl
