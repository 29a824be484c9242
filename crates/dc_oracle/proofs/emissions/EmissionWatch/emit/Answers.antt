use Rattle.std.proofs.Common.{ℕ, Option, Some, ◌<◌, ◌∙◌, length, set, sym, ap, refl, subst, arith}
use Rattle.std.specs.Prelude.{IfSome}
use Rattle.dc_oracle.proofs.Emitting.{emits-other, emits-one}
use Rattle.dc_oracle.proofs.emissions.EmissionWatch.emit.Goals as goal

pub returns-in-Some-clause-emits : goal.returns-in-Some-clause-emits
returns-in-Some-clause-emits c = λ run e h clock is.
    let P : Option ℕ → Type 0 = λ o. IfSome o (λ x. x < length c.args.tables.now.labels) in
    let own : c.in-Some.label < length c.args.tables.now.labels = subst P c.in-Some.is c.requires.there in
    emits-one c.args.tables.now c.args.self.now _ run e c.in-Some.label (sym is ∙ c.in-Some.is) (omega (arith, own, c.requires.sized)) (ap (λ n. set c.args.self.now.last.items c.in-Some.label (Some n)) clock) refl own h

pub returns-in_default-clause-emits : goal.returns-in_default-clause-emits
returns-in_default-clause-emits c = λ run e h clock is. emits-other c.args.tables.now c.args.self.now run e (sym is ∙ c.in_default.is) h
