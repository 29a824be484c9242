use Rattle.std.proofs.Common.{ℕ, refl, subst}
use Rattle.dc_oracle.specs.Fresh.{AllMade}
use Rattle.dc_oracle.specs.Pace.{no_pace}
use Rattle.dc_oracle.specs.WireLoad.{no_load}
use Rattle.dc_oracle.proofs.Sourcing.{watches-nothing}
use Rattle.dc_oracle.proofs.sources.SourceWatch.new.Goals as goal

pub returns-clause-watches : goal.returns-clause-watches
returns-clause-watches c =
    let P : ℕ → Type 0 = λ n. AllMade (λ _. no_pace) no_pace n c.in_ok-no_paces.field-0.items in
    let Q : ℕ → Type 0 = λ n. AllMade (λ _. no_load) no_load n c.in_ok-free_wires.field-0.items in
    watches-nothing c.args.tables.now _ refl (subst P c.stream_count.ensures c.in_ok-no_paces.ensures) (subst Q c.bus_count.ensures c.in_ok-free_wires.ensures)
