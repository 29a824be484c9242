use Rattle.std.proofs.Common.{ℕ, None, refl, subst}
use Rattle.dc_oracle.specs.Fresh.{AllMade}
use Rattle.dc_oracle.proofs.Emitting.{emits-new}
use Rattle.dc_oracle.proofs.emissions.EmissionWatch.new.Goals as goal

pub returns-clause-emits : goal.returns-clause-emits
returns-clause-emits c =
    let P : ℕ → Type 0 = λ n. AllMade (λ _. None) None n c.in_ok-all_of.field-0.items in
    emits-new c.args.tables.now _ refl (subst P c.label_count.ensures c.in_ok-all_of.ensures)
