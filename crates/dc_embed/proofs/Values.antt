-- The machine values of a handle, and what an open one owns.
use Rattle.std.proofs.Common.{◌≡◌, ◌≢◌, ℕ, zero, suc, List, [], ◌∷◌, ◌++◌, refl, ◌∙◌, lit<}
use Rattle.std.specs.Prelude.{Option, Some, None}
use seplogic.Ra.Ura.{Ura}
use mir.Syntax.{ty_ptr, ty_struct, tcons, tnil}
use mir.Val.{Val, vstruct, vcons, vnil, of_list}
use base.Logic.{ent, emp}
use base.Fml.{Fml, fex, fsep, feq}
use types.Logic.{Logic, sem}
use types.Kit.{‵, ◌$◌, ◌∵◌, !, qed, fjoin, fpack, feq_i, done}
use denote.RattleType.{RattleType}
use denote.Builtin.{unit}
use denote.RawPtr.{Ptr, RawPtr, block_ptr, null_ptr, ptr_val}
use denote.Shadow.{shadow, makes_shadow}
use denote.Signature.{Slot, plain}
use denote.Struct.Struct.{Struct}
use Rattle.std.proofs.cell.Inside.{Good}
use Rattle.std.specs.Box.Ownership.{box_owns}
use Rattle.dc_embed.specs.Held.{held, chunk}

-- a struct by its fields alone: what it owns does not read its name
abbrev pub plainly : List RattleType → RattleType
plainly Rs = Struct (record { name = []; args = []; types = []; fields = Rs })

pub ptr_typed : (p : Ptr) → Good ty_ptr (ptr_val p)
ptr_typed (block_ptr b o) = (tt, tt)
ptr_typed null_ptr = (tt, record { fits = lit< tt })

abbrev pub list_val : Ptr → Val
list_val p0 = vstruct (vcons (ptr_val p0) vnil)

abbrev pub list_own : Ptr → List Val → Fml
list_own p0 = (plainly (RawPtr ∷ [])).own_val (p0, tt)

pub list_told : (p0 : Ptr) (vs : List Val) → shadow (list_own p0 vs) → (vs ≡ list_val p0 ∷ []) × Unit {0}
list_told p0 vs s = (s.1.0 ∙ (λ i. vstruct (of_list (s.1.1.0 i ++ [])) ∷ []), tt)

pub list_made : {M : Type 1} {𝓤 : Ura M} (𝓛 : Logic 𝓤) (p0 : Ptr) → Unit {0} → ent 𝓤 (emp 𝓤) (sem 𝓛 (list_own p0 (list_val p0 ∷ [])))
list_made 𝓛 p0 f = makes_shadow 𝓛 (list_own p0 (list_val p0 ∷ [])) (λ _. (tt, (tt, tt))) ((ptr_val p0 ∷ [], tt), (refl, (refl, tt)))

pub list_typed : (p0 : Ptr) → Unit {0} → Good (ty_struct [] (tcons ty_ptr tnil)) (list_val p0)
list_typed (block_ptr bp0 op0) f = (tt, (tt, tt))
list_typed null_ptr f = (tt, (record { fits = lit< tt }, tt))

abbrev pub slot_at : {n : ℕ} → ℕ → List (Slot n) → Slot n
slot_at k [] = plain (λ _. unit)
slot_at zero (s ∷ ss) = s
slot_at (suc k) (s ∷ ss) = slot_at k ss

-- what a handle owns that is open
abbrev pub inside : (R : RattleType) → Ptr → Option R.Denot → Fml
inside R p c = fex R.Denot (λ x. fsep (feq (Option R.Denot) c (Some x)) (box_owns chunk R p x))

pub opened : {M : Type 1} {𝓤 : Ura M} (𝓛 : Logic 𝓤) (R : RattleType) (p : Ptr) (c : Option R.Denot) → c ≢ None → ent 𝓤 (sem 𝓛 (held R p c)) (sem 𝓛 (inside R p c))
opened 𝓛 R p None ne = absurd (ne refl)
opened 𝓛 R p (Some x) ne = qed 𝓛 (‵ (box_owns chunk R p x) ∷ []) ∵
    feq_i ! (Option R.Denot) (Some x) (Some x) refl $ fjoin ! $ fpack ! R.Denot (λ y. fsep (feq (Option R.Denot) (Some x) (Some y)) (box_owns chunk R p y)) x $ done !
