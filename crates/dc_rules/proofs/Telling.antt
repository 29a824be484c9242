-- Verdicts one after another.
use Rattle.std.proofs.Common.{◌≡◌, Option, Ok, Err, refl, subst}
use Rattle.dc_rules.specs.Rules.{Verdict, then_reported, TellsFault, Tells}
use Rattle.dc_document.specs.declared.fault.BuildError.{BuildError}
use Rattle.dc_document.specs.declared.fault.BuildError.TheVariants.{Refused, Memory}

-- where the first is well, both tell what the second does
pub tells_later : (a b : Verdict) (r : Option BuildError) → a ≡ Ok tt → TellsFault b r → TellsFault (then_reported a b) r
tells_later a b r h t = rw h t

tells_self : (r : Verdict) → Tells r r
tells_self (Ok x) = refl
tells_self (Err (Refused fault)) = refl
tells_self (Err (Memory e)) = tt

-- a verdict tells itself
pub tells_exact : (v r : Verdict) → r ≡ v → Tells v r
tells_exact v r h = let P : Verdict → Type 0 = λ w. Tells w r in subst P h (tells_self r)
