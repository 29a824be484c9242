use Rattle.dc_trace.specs.lemmas.Numbering.{traces-numbered}
use Rattle.dc_trace.proofs.laws.traces_are_numbered.Goals as goal

pub returns : goal.returns
returns c = traces-numbered c.args.tables.now (λ n. (c.steady_admissible.ensures n).numbers)
