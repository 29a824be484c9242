-- The fault that a verdict finds is at a row that is there.
use Rattle.std.proofs.Common.{◌≡◌, ℕ, zero, suc, ◌+◌, ◌-◌, ◌<◌, Bool, true, false, Option, Some, None, List, [], ◌∷◌, length, inl, inr, refl, sym, ap, ◌∙◌, arith, subst}
use Rattle.std.specs.Option.{option_or}
use Rattle.std.proofs.lemmas.Bool.{cases_lt}
use Rattle.dc_cert.specs.Bounds.{CertificateRows, InputBound, OutputBound, input_bound, output_bound, numbers_of}
use Rattle.dc_cert.specs.NamedRows.{NamedRows}
use Rattle.dc_check.specs.lemmas.Exact.{job-input, job-output, job-label}
use Rattle.dc_check.specs.Placed.{IsPlaced, member_count}
use Rattle.dc_check.specs.Verdict.{fault_at, unless, at_window, first_of, name_rules, misnaming, range_rules, input_rules, output_rules, label_rules, job_count, job_verdict, first_job_fault, verdict_of}
use Rattle.dc_check.specs.declared.fault.CheckFault.{CheckFault}
use Rattle.dc_check.specs.declared.fault.Condition.{Condition}
use Rattle.dc_check.specs.declared.fault.Condition.TheVariants.{NamesDiffer}
use Rattle.dc_check.specs.declared.fault.CertificateList.{CertificateList}
use Rattle.dc_check.specs.declared.fault.CertificateList.TheVariants.{Inputs, Outputs, Labels}
use Rattle.dc_tables.specs.TableRows.{TableRows}

module _ (P : CheckFault → Type 0) where
  -- the fault, if there is one
  abbrev Of : Option CheckFault → Type 0
  Of None = Unit {0}
  Of (Some fault) = P fault

  abbrev OfEach : List (Option CheckFault) → Type 0
  OfEach [] = Unit {0}
  OfEach (rule ∷ rules) = Of rule × OfEach rules

  of_or : (a b : Option CheckFault) → Of a → Of b → Of (option_or a b)
  of_or None b h k = k
  of_or (Some x) b h k = h

  of_first : (rules : List (Option CheckFault)) → OfEach rules → Of (first_of rules)
  of_first [] h = tt
  of_first (rule ∷ rules) h = of_or rule (first_of rules) h.0 (of_first rules h.1)

  of_unless : (holds : Bool) (fault : CheckFault) → P fault → Of (unless holds fault)
  unfolding unless
  of_unless true fault h = tt
  of_unless false fault h = h

  of_window : (list : CertificateList) (index : ℕ) (condition : Condition) (o : Option ℕ) → ((w : ℕ) → P (fault_at list index condition w)) → Of (at_window list index condition o)
  unfolding at_window
  of_window list index condition None h = tt
  of_window list index condition (Some w) h = h w

  of_jobs : (verdict : ℕ → Option CheckFault) (n : ℕ) → ((k : ℕ) → k < n → Of (verdict k)) → Of (first_job_fault verdict n)
  unfolding first_job_fault
  of_jobs verdict zero h = tt
  of_jobs verdict (suc n) h = of_or (first_job_fault verdict n) (verdict n) (of_jobs verdict n (λ k l. h k (omega arith))) (h n (omega arith))

module _ (t : TableRows) where
  ranges_placed : (list : CertificateList) (index window delay : ℕ) → index < member_count t list → Of (IsPlaced t) (first_of (range_rules list index window delay))
  ranges_placed list index window delay there =
      of_first (IsPlaced t) (range_rules list index window delay) (of_unless (IsPlaced t) _ _ (λ other. there), (of_unless (IsPlaced t) _ _ (λ other. there), tt))

  input_placed : (b : ℕ) (c : InputBound) → b < length t.buses → Of (IsPlaced t) (first_of (input_rules t b c))
  input_placed b c there =
      of_first (IsPlaced t) (input_rules t b c) (
        of_unless (IsPlaced t) _ _ (λ other. there),
        (of_window (IsPlaced t) _ _ _ _ (λ w other. there), (of_unless (IsPlaced t) _ _ (λ other. there), (of_window (IsPlaced t) _ _ _ _ (λ w other. there), tt))),
      )

  output_placed : (o : ℕ) (c : OutputBound) → o < length t.outputs → Of (IsPlaced t) (first_of (output_rules t o c))
  output_placed o c there =
      of_first (IsPlaced t) (output_rules t o c) (of_unless (IsPlaced t) _ _ (λ other. there), (of_window (IsPlaced t) _ _ _ _ (λ w other. there), tt))

  label_placed : (x : ℕ) (c : CertificateRows) → x < length t.labels → Of (IsPlaced t) (first_of (label_rules t x c))
  label_placed x c there =
      let at : (holds : Bool) (condition : Condition) → Of (IsPlaced t) (unless holds (fault_at Labels x condition 0)) = λ holds condition. of_unless (IsPlaced t) holds (fault_at Labels x condition 0) (λ other. there) in
      of_first (IsPlaced t) (label_rules t x c) (at _ _, (at _ _, (at _ _, (at _ _, (at _ _, tt)))))

  job_placed : (c : CertificateRows) (k : ℕ) → k < job_count t → Of (IsPlaced t) (job_verdict t c k)
  job_placed c k l =
      elim (cases_lt k (length t.buses)) [
        | inl in_buses ↦
            subst (Of (IsPlaced t)) (sym (job-input t c k in_buses))
            (of_or (IsPlaced t) _ _ (ranges_placed Inputs k (input_bound c k).window (input_bound c k).delay in_buses) (input_placed k (input_bound c k) in_buses))
        | inr past_buses ↦ elim (cases_lt k (length t.buses + length t.outputs)) [
          | inl in_outputs ↦
              let there : k - length t.buses < length t.outputs = omega arith in
              let e : k ≡ length t.buses + (k - length t.buses) = omega arith in
              subst (Of (IsPlaced t)) (sym (ap (job_verdict t c) e ∙ job-output t c (k - length t.buses) there))
              (of_or (IsPlaced t) _ _ (ranges_placed Outputs (k - length t.buses) (output_bound c (k - length t.buses)).window (output_bound c (k - length t.buses)).delay there)
              (output_placed (k - length t.buses) (output_bound c (k - length t.buses)) there))
          | inr past_outputs ↦
              let there : k - (length t.buses + length t.outputs) < length t.labels = omega arith in
              let e : k ≡ length t.buses + length t.outputs + (k - (length t.buses + length t.outputs)) = omega arith in
              subst (Of (IsPlaced t)) (sym (ap (job_verdict t c) e ∙ job-label t c (k - (length t.buses + length t.outputs))))
              (label_placed (k - (length t.buses + length t.outputs)) c there)
        ]
      ]

  names_placed : (claims : NamedRows) → Of (IsPlaced t) (misnaming t claims)
  names_placed claims =
      let at : (holds : Bool) (list : CertificateList) → Of (IsPlaced t) (unless holds (fault_at list 0 NamesDiffer 0)) = λ holds list. of_unless (IsPlaced t) holds (fault_at list 0 NamesDiffer 0) (λ other. absurd (other refl)) in
      of_first (IsPlaced t) (name_rules t claims) (at _ _, (at _ _, (at _ _, tt)))

  verdict_of_placed : (claims : NamedRows) → Of (IsPlaced t) (verdict_of t claims)
  unfolding verdict_of
  verdict_of_placed claims = of_or (IsPlaced t) _ _ (names_placed claims) (of_jobs (IsPlaced t) (job_verdict t (numbers_of claims)) (job_count t) (job_placed (numbers_of claims)))

  -- the fault of a verdict is at a row that is there
  pub verdict_placed : (claims : NamedRows) (fault : CheckFault) → verdict_of t claims ≡ Some fault → IsPlaced t fault
  verdict_placed claims fault h = subst (Of (IsPlaced t)) h (verdict_of_placed claims)
