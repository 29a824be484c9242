-- Steady runs are admissible.
use Rattle.std.proofs.Common.{◌≡◌, ℕ, List, Ok, Err, sym, subst}
use Rattle.std.specs.Prelude.{IfOk, Result}
use Rattle.std.specs.Global.{Vec}
use Rattle.dc_tables.specs.TableRows.{TableRows}
use Rattle.dc_event.specs.Admissible.{IsAdmissible}
use Rattle.dc_event.specs.Laws.{SteadyAdmissible}
use Rattle.dc_event.specs.Steady.{steady}
use Rattle.dc_event.specs.declared.event.Event.{Event}

pub steady-made : {E : Type 0} (t : TableRows) (n : ℕ) (r : Result (Vec Event) E) → SteadyAdmissible t → IfOk r (λ run. run.items ≡ steady t n) → IfOk r (λ run. IsAdmissible t run.items)
steady-made t n (Ok run) law h = subst (IsAdmissible t) (sym h) (law n)
steady-made t n (Err e) law h = tt
