-- A run first breaks a rule at one place at most.
use Rattle.std.proofs.Common.{◌≡◌, ℕ, ◌<◌, Option, Some, None, List, [], ◌∷◌, ◌++◌, length, refl, sym, ap, inl, inr, ◌∙◌, subst, arith, length-append}
use Rattle.std.proofs.lemmas.Bool.{cases_lt}
use Rattle.std.proofs.lemmas.List.{append-nil}
use Rattle.dc_bound.specs.lemmas.QueueTimes.{split_sides}
use Rattle.dc_tables.specs.TableRows.{TableRows}
use Rattle.dc_event.specs.Admissible.{KeepsSources, KeepsBudgets}
use Rattle.dc_event.specs.Claims.{Claims, ClaimsHold}
use Rattle.dc_event.specs.ClaimNumber.{claim_number}
use Rattle.dc_event.specs.Breaks.{BreaksFirst, IsFirstBreak, ClaimAt, FailsFirst, BreaksClaimsAt}
use Rattle.dc_event.specs.Laws.{BreaksOnce}
use Rattle.dc_event.specs.declared.event.Event.{Event}
use Rattle.dc_event.specs.declared.event.Claim.{Claim}
use Rattle.dc_event.specs.declared.event.Claim.TheVariants.{NoOverrun, DataAge, LiveSource, Interval}

module _ (P : List Event → Type 0) (run : List Event) where
  same_place : (m n : ℕ) → BreaksFirst P run m → BreaksFirst P run n → m ≡ n
  same_place m n x y = elim (cases_lt m n) [
    | inl l ↦ absurd (x.broken (y.kept m l))
    | inr l ↦ elim (cases_lt n m) [ inl k ↦ absurd (y.broken (x.kept n k)) | inr k ↦ omega arith ]
  ]

  pub one_first_break : (p q : Option ℕ) → IsFirstBreak P run p → IsFirstBreak P run q → p ≡ q
  one_first_break None None x y = refl
  one_first_break None (Some n) x y = absurd (y.broken (x n y.place.1))
  one_first_break (Some m) None x y = absurd (x.broken (y m x.place.1))
  one_first_break (Some m) (Some n) x y = ap (λ k. Some k) (same_place m n x y)

-- the claims at an event hold one by one
claim-holds : (t : TableRows) (ages : List ℕ) (claim : Claim) (past : List Event) (e : Event) → Claims t ages past e → ClaimAt t ages claim past e
claim-holds t ages NoOverrun past e c = c.no_overrun
claim-holds t ages DataAge past e c = c.young
claim-holds t ages LiveSource past e c = c.live
claim-holds t ages Interval past e c = (c.in_time, c.spaced)

same_number : (c d : Claim) → claim_number c ≡ claim_number d → c ≡ d
same_number NoOverrun NoOverrun h = refl
same_number NoOverrun DataAge h = absurd (omega arith)
same_number NoOverrun LiveSource h = absurd (omega arith)
same_number NoOverrun Interval h = absurd (omega arith)
same_number DataAge NoOverrun h = absurd (omega arith)
same_number DataAge DataAge h = refl
same_number DataAge LiveSource h = absurd (omega arith)
same_number DataAge Interval h = absurd (omega arith)
same_number LiveSource NoOverrun h = absurd (omega arith)
same_number LiveSource DataAge h = absurd (omega arith)
same_number LiveSource LiveSource h = refl
same_number LiveSource Interval h = absurd (omega arith)
same_number Interval NoOverrun h = absurd (omega arith)
same_number Interval DataAge h = absurd (omega arith)
same_number Interval LiveSource h = absurd (omega arith)
same_number Interval Interval h = refl

module _ (t : TableRows) (ages : List ℕ) where
  -- where claims fail, they fail at the first place after a beginning that keeps them
  not_before : (c d : Claim) (a b ra rb : List Event) (e f : Event) → a ++ (e ∷ ra) ≡ b ++ (f ∷ rb) → FailsFirst t ages c a e → FailsFirst t ages d b f → length a < length b → ⊥
  not_before c d a b ra rb e f same x y short =
      elim (split_sides a (e ∷ ra) b (f ∷ rb) same) [
        | inl (q, g, h) ↦ omega (arith, ap length g, length-append b q)
        | inr (q, g, h) ↦ inside q g h
      ]
    where
      inside : (q : List Event) → b ≡ a ++ q → e ∷ ra ≡ q ++ (f ∷ rb) → ⊥
      inside [] g h = omega (arith, ap length g, length-append a [])
      inside (z ∷ q) g h =
          let at : b ≡ a ++ (e ∷ q) = (let first : z ≡ e = cc in g ∙ ap (λ k. a ++ (k ∷ q)) first) in
          x.fails (claim-holds t ages c a e (y.before a q e at))

  least_claim : (c d : Claim) (a b ra rb : List Event) (e f : Event) → a ++ (e ∷ ra) ≡ b ++ (f ∷ rb) → length a ≡ length b → FailsFirst t ages c a e → FailsFirst t ages d b f → claim_number d < claim_number c → ⊥
  least_claim c d a b ra rb e f same long x y less =
      elim (split_sides a (e ∷ ra) b (f ∷ rb) same) [
        | inl (q, g, h) ↦ here q (let z : length q ≡ 0 = omega (arith, ap length g, length-append b q) in z) g h
        | inr (q, g, h) ↦ there q (let z : length q ≡ 0 = omega (arith, ap length g, length-append a q) in z) g h
      ]
    where
      agree : a ≡ b → e ≡ f → ⊥
      agree i j =
          let P : List Event → Type 0 = λ z. ClaimAt t ages d z f in
          let Q : Event → Type 0 = λ z. ClaimAt t ages d a z in
          y.fails (subst P i (subst Q j (x.least d less)))

      here : (q : List Event) → length q ≡ 0 → a ≡ b ++ q → f ∷ rb ≡ q ++ (e ∷ ra) → ⊥
      here [] z g h = agree (g ∙ append-nil b) (let s : e ≡ f = cc in s)
      here (k ∷ q) z g h = omega arith

      there : (q : List Event) → length q ≡ 0 → b ≡ a ++ q → e ∷ ra ≡ q ++ (f ∷ rb) → ⊥
      there [] z g h = agree (sym (g ∙ append-nil a)) (let s : e ≡ f = cc in s)
      there (k ∷ q) z g h = omega arith

  fails_once : (run : List Event) (x y : Claim × ℕ) → BreaksClaimsAt t ages run (Some x) → BreaksClaimsAt t ages run (Some y) → x ≡ y
  fails_once run x y (a, e, ra, i, m, p) (b, f, rb, j, n, q) =
      let same : a ++ (e ∷ ra) ≡ b ++ (f ∷ rb) = sym i ∙ j in
      let places : length a ≡ length b =
      elim (cases_lt (length a) (length b)) [
        | inl l ↦ absurd (not_before x.0 y.0 a b ra rb e f same p q l)
        | inr l ↦ elim (cases_lt (length b) (length a)) [ inl k ↦ absurd (not_before y.0 x.0 b a rb ra f e (sym same) q p k) | inr k ↦ omega arith ]
      ] in
      let claims : claim_number x.0 ≡ claim_number y.0 =
      elim (cases_lt (claim_number x.0) (claim_number y.0)) [
        | inl l ↦ absurd (least_claim y.0 x.0 b a rb ra f e (sym same) (sym places) q p l)
        | inr l ↦ elim (cases_lt (claim_number y.0) (claim_number x.0)) [ inl k ↦ absurd (least_claim x.0 y.0 a b ra rb e f same places p q k) | inr k ↦ omega arith ]
      ] in
      let number : x.1 ≡ y.1 = omega arith in
      ap (λ c. (c, x.1)) (same_number x.0 y.0 claims) ∙ ap (λ n. (y.0, n)) number

  none_fails : (run : List Event) (x : Claim × ℕ) → ClaimsHold t ages run → BreaksClaimsAt t ages run (Some x) → ⊥
  none_fails run x hold (a, e, ra, i, m, p) = p.fails (claim-holds t ages x.0 a e (hold a ra e i))

  pub one_claim_breaks : (run : List Event) (p q : Option (Claim × ℕ)) → BreaksClaimsAt t ages run p → BreaksClaimsAt t ages run q → p ≡ q
  one_claim_breaks run None None x y = refl
  one_claim_breaks run None (Some n) x y = absurd (none_fails run n x y)
  one_claim_breaks run (Some m) None x y = absurd (none_fails run m y x)
  one_claim_breaks run (Some m) (Some n) x y = ap (λ k. Some k) (fails_once run m n x y)

pub breaks_once : (t : TableRows) → BreaksOnce t
breaks_once t run = record {
  of_budgets = λ p q x y. one_first_break (KeepsBudgets t) run p q x y;
  of_sources = λ p q x y. one_first_break (KeepsSources t) run p q x y;
  of_claims = λ ages p q x y. one_claim_breaks t ages run p q x y;
}
