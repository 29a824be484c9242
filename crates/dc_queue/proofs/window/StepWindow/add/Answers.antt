use Rattle.std.proofs.Common.{arith}
use Rattle.dc_queue.proofs.Windows.{sum-small}
use Rattle.dc_queue.proofs.window.StepWindow.add.Goals as goal

pub overflow_add-self-2 : goal.overflow_add-self-2
overflow_add-self-2 c =
    let v = c.self.invariant in
    omega (arith, sum-small c.self.inside.room c.self.inside.past.items v.1 v.5 (omega (arith, v.3, v.4)), v.0, v.2, v.5)
