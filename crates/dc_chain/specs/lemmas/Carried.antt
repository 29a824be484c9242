-- What a link carries keeps its rhythm, but for how much its latency varies.
use Rattle.std.proofs.Common.{◌≡◌, ℕ, zero, suc, ◌+◌, ◌-◌, ◌*◌, ◌<◌, ◌≤◌, Bool, true, false, cond, eqb, List, [], ◌∷◌, length, get_or, refl, sym, subst, arith, inl, inr}
use Rattle.std.specs.List.{AllByRecursion, Contains}
use Rattle.std.proofs.Math.Nat.{mul-le-mul_right, mul-le-mul_left}
use Rattle.std.proofs.lemmas.Bool.{eqb-true, eq-eqb}
use Rattle.std.proofs.lemmas.List.Elements.{Contains-get_or}
use Rattle.dc_bound.specs.Window.{count_in, one_in, ticks_of}
use Rattle.dc_bound.specs.Early.{jitter_cap}
use Rattle.dc_bound.specs.lemmas.Counts.{one_in_cases}
use Rattle.dc_bound.specs.lemmas.Caps.{jitter_cap-covers}
use Rattle.dc_chain.specs.Carrying.{IsCarried, Carries, of_number}
use Rattle.dc_spans.specs.lemmas.Scaling.{cap-within}

-- ---- spans where the words come, and where they were sent

one_in-carried : (least most u d : ℕ) (e a : ℕ × (ℕ × ℕ)) → IsCarried least most e a → one_in u d a.0 ≤ one_in (u - most) (d + (most - least)) e.0
one_in-carried least most u d e a is =
    let sooner = is.no_sooner in
    let later = is.no_later in
    elim (one_in_cases u d a.0) [
      | inl w ↦ elim (one_in_cases (u - most) (d + (most - least)) e.0) [
        | inl v ↦ omega arith
        | inr v ↦ elim v [ inl v ↦ absurd (omega arith) | inr v ↦ absurd (omega arith) ]
      ]
      | inr w ↦ elim w [ inl w ↦ omega arith | inr w ↦ omega arith ]
    ]

-- one more in front never lessens a count
front-one : (u d n : ℕ) (e : ℕ × (ℕ × ℕ)) (xs : List (ℕ × (ℕ × ℕ))) → count_in u d (ticks_of (of_number n xs)) ≤ count_in u d (ticks_of (of_number n (e ∷ xs)))
unfolding count_in
front-one u d n e xs = elim (eqb e.1.0 n) as (λ b. count_in u d (ticks_of (of_number n xs)) ≤ count_in u d (ticks_of (cond b (e ∷ of_number n xs) (of_number n xs)))) [ true ↦ omega arith | false ↦ omega arith ]

module _ (least most s x : ℕ) (P Q : ℕ × (ℕ × ℕ) → Type 0) (fits : (e a : ℕ × (ℕ × ℕ)) → P e → Q a → e.1.1 ≡ a.1.1 → a.1.0 ≡ s → e.1.0 ≡ x) where
  first-carried : (u d : ℕ) (e a : ℕ × (ℕ × ℕ)) (sent came : List (ℕ × (ℕ × ℕ))) → P e → Q a → IsCarried least most e a
      → count_in u d (ticks_of (of_number s came)) ≤ count_in (u - most) (d + (most - least)) (ticks_of (of_number x sent))
      → count_in u d (ticks_of (of_number s (a ∷ came))) ≤ count_in (u - most) (d + (most - least)) (ticks_of (of_number x (e ∷ sent)))
  unfolding count_in
  first-carried u d e a sent came p q is rest =
      elim (eqb a.1.0 s) as (λ b. eqb a.1.0 s ≡ b → count_in u d (ticks_of (cond b (a ∷ of_number s came) (of_number s came))) ≤ count_in (u - most) (d + (most - least)) (ticks_of (of_number x (e ∷ sent)))) [
        | true ↦ λ own.
            let mine : eqb e.1.0 x ≡ true = eq-eqb _ _ (fits e a p q is.same (eqb-true _ _ own)) in
            let R : Bool → Type 0 = λ b. one_in u d a.0 + count_in u d (ticks_of (of_number s came)) ≤ count_in (u - most) (d + (most - least)) (ticks_of (cond b (e ∷ of_number x sent) (of_number x sent))) in
            subst R (sym mine) (omega (arith, rest, one_in-carried least most u d e a is))
        | false ↦ λ other. omega (arith, rest, front-one (u - most) (d + (most - least)) x e sent)
      ] refl

  pub count-carried : (sent came : List (ℕ × (ℕ × ℕ))) → AllByRecursion P sent → AllByRecursion Q came → Carries least most sent came → (u d : ℕ)
      → count_in u d (ticks_of (of_number s came)) ≤ count_in (u - most) (d + (most - least)) (ticks_of (of_number x sent))
  unfolding count_in
  count-carried [] [] ps qs h u d = omega arith
  count-carried [] (a ∷ came) ps qs h u d = absurd h
  count-carried (e ∷ sent) [] ps qs h u d = omega arith
  count-carried (e ∷ sent) (a ∷ came) ps qs h u d =
      elim h [
        | inl both ↦ first-carried u d e a sent came ps.0 qs.0 both.0 (count-carried sent came ps.1 qs.1 both.1 u d)
        | inr later ↦ omega (arith, count-carried sent (a ∷ came) ps.1 qs later u d, front-one (u - most) (d + (most - least)) x e sent)
      ]

-- what comes was sent
carried_at : (least most : ℕ) (sent came : List (ℕ × (ℕ × ℕ))) → Carries least most sent came → (k : ℕ) (z : ℕ × (ℕ × ℕ)) → k < length came
    → (n : ℕ) × (n < length sent) × IsCarried least most (get_or sent n z) (get_or came k z)
carried_at least most [] [] h k z l = absurd (omega arith)
carried_at least most [] (a ∷ came) h k z l = absurd h
carried_at least most (e ∷ sent) [] h k z l = absurd (omega arith)
carried_at least most (e ∷ sent) (a ∷ came) (inl both) zero z l = (0, omega arith, both.0)
carried_at least most (e ∷ sent) (a ∷ came) (inl both) (suc k) z l = let r = carried_at least most sent came both.1 k z (omega arith) in (suc r.0, omega (arith, r.1), r.2)
carried_at least most (e ∷ sent) (a ∷ came) (inr later) k z l = let r = carried_at least most sent (a ∷ came) later k z l in (suc r.0, omega (arith, r.1), r.2)

pub carried-from : (least most : ℕ) (sent came : List (ℕ × (ℕ × ℕ))) → Carries least most sent came → (a : ℕ × (ℕ × ℕ)) → Contains came a
    → (e : ℕ × (ℕ × ℕ)) × Contains sent e × IsCarried least most e a
carried-from least most sent came h a (k, l, is) =
    let r = carried_at least most sent came h k a l in
    let P : ℕ × (ℕ × ℕ) → Type 0 = λ z. IsCarried least most (get_or sent r.0 a) z in
    (get_or sent r.0 a, Contains-get_or sent r.0 a r.1, subst P is r.2)

-- ---- the cap where they come

-- A label's least interval is enough for a stream, where it is no less than the stream's and what of the latency's variation the stream's jitter does not cover
pub cap-carried : (p m j v d : ℕ) → 1 ≤ m → 1 ≤ d → m + (v - j) ≤ p → jitter_cap p 0 (d + v) ≤ jitter_cap m j d
cap-carried p m j v d some have fit =
    let c : ℕ = jitter_cap m j d in
    let covers : d + j ≤ c * m = jitter_cap-covers m j d some have in
    let one : 1 ≤ c = elim c as (λ c. d + j ≤ c * m → 1 ≤ c) [ zero ↦ λ h. absurd (omega arith) | suc n ↦ λ h. omega arith ] covers in
    let times : c * (m + (v - j)) ≤ c * p = mul-le-mul_left c fit in
    let over : 1 * (v - j) ≤ c * (v - j) = mul-le-mul_right (v - j) one in
    cap-within p 0 c (d + v) (omega arith) (omega arith)
