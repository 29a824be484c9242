use Rattle.std.proofs.Common.{sym, ◌∙◌}
use Rattle.dc_oracle.proofs.Emitting.{spaced-none}
use Rattle.dc_oracle.proofs.emissions.EmissionWatch.is_spaced.Goals as goal

pub returns-in_default : goal.returns-in_default
returns-in_default c = λ run e h clock is. spaced-none c.args.tables.now run e (sym c.in_default.is ∙ is)
