use Rattle.std.proofs.Common.{ℕ, false, subst}
use Rattle.dc_core.specs.Fresh.{AllMade}
use Rattle.dc_core.proofs.Paces.{paces-new}
use Rattle.dc_core.proofs.Starting.{standing-new}
use Rattle.dc_core.proofs.machine.State.new.Goals as goal

pub returns-clause-stands : goal.returns-clause-stands
returns-clause-stands c =
    let P : ℕ → Type 0 = λ n. AllMade (λ _. false) false n c.in_ok-no_latches.field-0.items in
    let Q : ℕ → Type 0 = λ n. AllMade (λ _. 0) 0 n c.in_ok-no_paces.field-0.items in
    let made = subst Q c.stream_count.ensures c.in_ok-no_paces.ensures in (
      standing-new c.args.tables.now c.in_ok-fresh_queues.field-0.items c.in_ok-no_latches.field-0.items c.in_ok-new.field-0 c.in_ok-fresh_routers.field-0.items c.in_ok-fresh_outputs.field-0.items c.valid.ensures
          c.in_ok-fresh_queues.ensures (subst P c.bus_count.ensures c.in_ok-no_latches.ensures) c.in_ok-new.ensures c.in_ok-fresh_routers.ensures c.in_ok-fresh_outputs.ensures,
      paces-new c.args.tables.now c.in_ok-no_paces.field-0.items (λ s l. made.1 s l),
    )
