use Rattle.std.proofs.Common.{ℕ, refl, subst}
use Rattle.dc_oracle.specs.Fresh.{AllMade}
use Rattle.dc_oracle.specs.Pace.{no_pace}
use Rattle.dc_oracle.proofs.Policing.{polices-new}
use Rattle.dc_oracle.proofs.police.Police.new.Goals as goal

pub returns-clause-holds : goal.returns-clause-holds
returns-clause-holds c =
    let P : ℕ → Type 0 = λ n. AllMade (λ _. no_pace) no_pace n c.in_ok-paces.paces.items in
    polices-new c.args.tables.now _ refl (subst P c.stream_count.ensures c.in_ok-paces.ensures)
