-- One more event, and where a run first breaks a rule.
use Rattle.std.proofs.Common.{◌≡◌, ℕ, suc, ◌+◌, ◌≤◌, ◌<◌, Option, Some, None, is_some, false, List, [], ◌∷◌, ◌++◌, length, take, drop, refl, sym, ap, ◌∙◌, subst, arith, append_assoc, length-append}
use Rattle.std.specs.Prelude.{IsSome}
use Rattle.std.proofs.lemmas.List.{take-append-le, take_all, length-take}
use Rattle.dc_tables.specs.TableRows.{TableRows}
use Rattle.dc_event.specs.Breaks.{BreaksFirst, IsFirstBreak, BreaksClaimsAt, FailsFirst}
use Rattle.dc_event.specs.declared.event.Event.{Event}
use Rattle.dc_event.specs.declared.event.Claim.{Claim}
use Rattle.dc_event.specs.Claims.{ClaimsHold}
use Rattle.dc_oracle.specs.Claims.{Judged}
use Rattle.dc_oracle.proofs.Places.{never-breaks, breaks-at}

pub no_place : {X : Type 0} (o : Option X) → is_some o ≡ false → o ≡ None
no_place None h = refl
no_place (Some x) h = absurd cc

front : (run : List Event) (e : Event) → take (length run) (run ++ e ∷ []) ≡ run
front run e = take-append-le (length run) run (e ∷ []) (omega arith) ∙ take_all (length run) run (omega arith)

pub longer : (run : List Event) (e : Event) → length (run ++ e ∷ []) ≡ length run + 1
longer run e = length-append run (e ∷ []) ∙ omega arith

module _ (P : List Event → Type 0) (beginning : (past rest : List Event) → P (past ++ rest) → P past) where
  pub first-later : (run : List Event) (e : Event) (n : ℕ) → IsFirstBreak P run (Some n) → IsFirstBreak P (run ++ e ∷ []) (Some n)
  first-later run e n h = record {
    place = (h.place.0, omega (arith, h.place.1, longer run e));
    broken = λ p. h.broken (subst P (take-append-le n run (e ∷ []) h.place.1) p);
    kept = λ m l. subst P (sym (take-append-le m run (e ∷ []) (omega (arith, h.place.1)))) (h.kept m l);
  }

  pub first-now : (run : List Event) (e : Event) → P run → ¬ P (run ++ e ∷ []) → IsFirstBreak P (run ++ e ∷ []) (Some (length run + 1))
  first-now run e kept broken =
      let whole : take (suc (length run)) (run ++ e ∷ []) ≡ run ++ e ∷ [] = take_all (suc (length run)) (run ++ e ∷ []) (omega (arith, longer run e)) in
      let next : take (suc (length run)) (run ++ e ∷ []) ≡ take (length run) (run ++ e ∷ []) ++ e ∷ [] = whole ∙ ap (λ r. r ++ e ∷ []) (sym (front run e)) in
      breaks-at P beginning (run ++ e ∷ []) (length run) e (omega (arith, longer run e)) next (subst P (sym (front run e)) kept) (λ p. broken (subst P (ap (λ r. r ++ e ∷ []) (front run e)) p))

  pub first-none : (run : List Event) (e : Event) → P (run ++ e ∷ []) → IsFirstBreak P (run ++ e ∷ []) None
  first-none run e kept = never-breaks P beginning (run ++ e ∷ []) kept

-- the same of the claims
pub claims-later : (t : TableRows) (ages : List ℕ) (run : List Event) (e : Event) (failure : Claim × ℕ) → BreaksClaimsAt t ages run (Some failure) → BreaksClaimsAt t ages (run ++ e ∷ []) (Some failure)
claims-later t ages run e failure (past, at, rest, is, place, fails) = (past, at, rest ++ e ∷ [], ap (λ r. r ++ e ∷ []) is ∙ append_assoc past (at ∷ rest) (e ∷ []), place, fails)

-- ---- by what is known of the place before

module _ (P : List Event → Type 0) (beginning : (past rest : List Event) → P (past ++ rest) → P past) (run : List Event) (e : Event) where
  pub stays-broken : (o : Option ℕ) → IsSome o → IsFirstBreak P run o → IsFirstBreak P (run ++ e ∷ []) o
  stays-broken None some h = absurd cc
  stays-broken (Some n) some h = first-later P beginning run e n h

pub claims-stay : (t : TableRows) (ages : List ℕ) (run : List Event) (e : Event) (o : Option (Claim × ℕ)) → IsSome o → BreaksClaimsAt t ages run o → BreaksClaimsAt t ages (run ++ e ∷ []) o
claims-stay t ages run e None some h = absurd cc
claims-stay t ages run e (Some f) some h = claims-later t ages run e f h

pub claims-now : (t : TableRows) (ages : List ℕ) (run : List Event) (e : Event) (claim : Claim) → ClaimsHold t ages run → Judged t ages run e (Some claim) → BreaksClaimsAt t ages (run ++ e ∷ []) (Some (claim, length run + 1))
claims-now t ages run e claim hold j = (run, e, [], refl, omega arith, record { before = hold; fails = j.0; least = j.1 })
