use Rattle.std.proofs.Common.{refl}
use Rattle.dc_tables.proofs.bounds.wire_of.Goals as goal

pub returns-clause-free : goal.returns-clause-free
returns-clause-free c = λ free. (c.new.result, refl, λ d. c.new.ensures.cap d)
