use Rattle.dc_busy.proofs.Walk.{to_the_end}
use Rattle.dc_busy.proofs.numbers.NumbersWatcher.see.Goals as goal

pub returns-clause-goes : goal.returns-clause-goes
returns-clause-goes g c = λ e cap known shown. (
  to_the_end c.see.result (λ t. c.see.ensures.goes t cap known.0 shown) (λ f. c.see.ensures.ends f cap known.0 shown),
  c.see-2.ensures.goes e cap known.1 shown,
)
