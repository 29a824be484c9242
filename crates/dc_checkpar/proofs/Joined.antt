-- What workers report, put together.
use Rattle.std.proofs.Common.{◌≡◌, ◌≢◌, ℕ, ◌⊎◌, Option, Err, List, [], ◌∷◌, ◌++◌, refl, sym, subst, ◌∙◌, ⊎_elim}
use Rattle.std.specs.Prelude.{IfErr}
use Rattle.std.specs.declared.result.Result.{Result}
use Rattle.std.proofs.lemmas.List.Elements.{All-append, All-nil, All-cons, All-head}
use Rattle.rayon.proofs.ListFacts.{All-parts}
use Rattle.dc_check.specs.declared.fault.CheckFault.{CheckFault}
use Rattle.dc_checkpar.specs.Reports.{AreJudged, ArePromised}
use Rattle.dc_checkpar.specs.declared.worker.Halt.{Halt}
use Rattle.dc_checkpar.specs.declared.worker.Halt.TheVariants.{GateStuck}
use Rattle.dc_checkpar.specs.declared.worker.Judged.{Judged}

-- one of two ends
pub halt-of : {X : Type 0} (r a b : Result X Halt) (M : Type 0) → (r ≡ a) ⊎ (r ≡ b) → (a ≡ Err GateStuck → M) → (b ≡ Err GateStuck → M) → r ≡ Err GateStuck → M
halt-of r a b M which one other is = ⊎_elim (λ (e : r ≡ a). one (sym e ∙ is)) (λ (e : r ≡ b). other (sym e ∙ is)) which

-- an end that is no stuck gate
pub not-stuck : {X : Type 0} (r : Result X Halt) (M : Type 0) → IfErr r (λ halt. halt ≢ GateStuck) → r ≡ Err GateStuck → M
not-stuck r M other is = absurd (subst (λ o. IfErr o (λ halt. halt ≢ GateStuck)) is other refl)

-- one result more
pub judged-one : (verdict : ℕ → Option CheckFault) (judged : List Judged) (one : Judged) → AreJudged verdict judged → one.fault ≡ verdict one.job → AreJudged verdict (judged ++ one ∷ [])
judged-one verdict judged one all is =
    let P : Judged → Type 0 = λ j. j.fault ≡ verdict j.job in
    All-append P judged (one ∷ []) all (All-cons P one [] is (All-nil P))

module _ {J G H : Type 0} (handles : List H) (h : H) (jobs : J) (gate : G) (jobs_of : H → J) (gate_of : H → G) where
  abbrev Fits : H → Type 0
  Fits x = (jobs_of x ≡ jobs) × (gate_of x ≡ gate)

  -- one thread more, and one fewer
  pub promised-one : ArePromised jobs gate jobs_of gate_of handles → (jobs_of h ≡ jobs) × (gate_of h ≡ gate) → ArePromised jobs gate jobs_of gate_of (handles ++ h ∷ [])
  promised-one all is = All-append Fits handles (h ∷ []) all (All-cons Fits h [] is (All-nil Fits))

  pub promised-less : ArePromised jobs gate jobs_of gate_of (handles ++ h ∷ []) → ArePromised jobs gate jobs_of gate_of handles × ((jobs_of h ≡ jobs) × (gate_of h ≡ gate))
  promised-less all =
      let parts = All-parts Fits handles (h ∷ []) all in
      (parts.0, All-head Fits h [] parts.1)
