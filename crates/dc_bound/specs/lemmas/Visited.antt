-- The steps of a table that visit one bus.
use Rattle.std.proofs.Common.{◌≡◌, ℕ, suc, ◌+◌, ◌*◌, ◌/◌, ◌%◌, ◌≤◌, ◌<◌, cond, true, false, eqb, List, [], ◌∷◌, length, get_or, refl, ap, ◌∙◌, arith, inl, inr, ◌++◌, add-zero, sym}
use Rattle.std.proofs.lemmas.Bool.{cases_lt}
use Rattle.dc_bound.specs.Window.{count_in, one_in, HoldAtLeast}
use Rattle.dc_bound.specs.lemmas.Counts.{one_in_cases}
use Rattle.dc_bound.specs.lemmas.Budget.{pace_holds}
use Rattle.dc_bound.specs.Rounds.{among, is_at, fewest_visits}
use Rattle.dc_bound.specs.lemmas.Cycle.{among_front, fewest_holds, fewest_grows, fewest_zero}
use Rattle.dc_bound.specs.Turns.{VisitsInTurn}
use Rattle.dc_bound.specs.Turns.{visited, NeverFall}

pub never_fall_tail : (t : ℕ) (ts : List ℕ) → NeverFall (t ∷ ts) → NeverFall ts
unfolding NeverFall
never_fall_tail t [] h = tt
never_fall_tail t (s ∷ ts) h = h.1

-- of the steps of two parts, the second begins where the first ends
pub visited-append : (table : List ℕ) (bus n : ℕ) (ts us : List ℕ) → visited table bus n (ts ++ us) ≡ visited table bus n ts ++ visited table bus (n + length ts) us
unfolding visited
visited-append table bus n [] us = ap (λ k. visited table bus k us) (sym (add-zero n))
visited-append table bus n (t ∷ ts) us =
    let e : suc n + length ts ≡ n + suc (length ts) = omega arith in
    let r : visited table bus (suc n) (ts ++ us) ≡ visited table bus (suc n) ts ++ visited table bus (n + suc (length ts)) us = visited-append table bus (suc n) ts us ∙ ap (λ k. visited table bus (suc n) ts ++ visited table bus k us) e in
    elim (eqb (get_or table (n % length table) 0) bus) as (λ c. cond c (t ∷ visited table bus (suc n) (ts ++ us)) (visited table bus (suc n) (ts ++ us))
    ≡ cond c (t ∷ visited table bus (suc n) ts) (visited table bus (suc n) ts) ++ visited table bus (n + suc (length ts)) us) [
      | true ↦ ap (λ z. t ∷ z) r
      | false ↦ r
    ]

outside : (u d t : ℕ) → u + d ≤ t → one_in u d t ≡ 0
outside u d t late = elim (one_in_cases u d t) [ inl w ↦ absurd (omega arith) | inr v ↦ elim v [ inl w ↦ w.1 | inr w ↦ w.1 ] ]

early : (u d t : ℕ) → t < u → one_in u d t ≡ 0
early u d t before = elim (one_in_cases u d t) [ inl w ↦ absurd (omega arith) | inr v ↦ elim v [ inl w ↦ w.1 | inr w ↦ w.1 ] ]

inside : (u d t : ℕ) → u ≤ t → t < u + d → one_in u d t ≡ 1
inside u d t from to = elim (one_in_cases u d t) [ inl w ↦ w.2 | inr v ↦ elim v [ inl w ↦ absurd (omega arith) | inr w ↦ absurd (omega arith) ] ]

module _ (table : List ℕ) (bus : ℕ) where
  count-visited : (u d n t : ℕ) (ts : List ℕ) → count_in u d (visited table bus n (t ∷ ts)) ≡ one_in u d t * is_at table bus (n % length table) + count_in u d (visited table bus (suc n) ts)
  unfolding count_in visited
  count-visited u d n t ts =
      elim (eqb (get_or table (n % length table) 0) bus) as
      (λ b. count_in u d (cond b (t ∷ visited table bus (suc n) ts) (visited table bus (suc n) ts)) ≡ one_in u d t * cond b 1 0 + count_in u d (visited table bus (suc n) ts)) [
        | true ↦ omega arith
        | false ↦ omega arith
      ]

  visited_out : (u d n t : ℕ) (ts : List ℕ) → one_in u d t ≡ 0 → (count_in u d (t ∷ ts) ≡ count_in u d ts) × (count_in u d (visited table bus n (t ∷ ts)) ≡ count_in u d (visited table bus (suc n) ts))
  unfolding count_in
  visited_out u d n t ts e = (omega (arith, e), count-visited u d n t ts ∙ ap (λ w. w * is_at table bus (n % length table) + count_in u d (visited table bus (suc n) ts)) e ∙ omega arith)

  visited_in : (u d n t : ℕ) (ts : List ℕ) → one_in u d t ≡ 1 → (count_in u d (t ∷ ts) ≡ suc (count_in u d ts)) × (count_in u d (visited table bus n (t ∷ ts)) ≡ is_at table bus (n % length table) + count_in u d (visited table bus (suc n) ts))
  unfolding count_in
  visited_in u d n t ts e = (omega (arith, e), count-visited u d n t ts ∙ ap (λ w. w * is_at table bus (n % length table) + count_in u d (visited table bus (suc n) ts)) e ∙ omega arith)

  nothing : (u d n : ℕ) → (count_in u d [] ≡ 0) × (count_in u d (visited table bus n []) ≡ 0)
  unfolding count_in visited
  nothing u d n = (refl, refl)

  -- none of the later steps lies in the window
  all_after : (u d n t : ℕ) (ts : List ℕ) → NeverFall (t ∷ ts) → u + d ≤ t → (count_in u d (t ∷ ts) ≡ 0) × (count_in u d (visited table bus n (t ∷ ts)) ≡ 0)
  unfolding NeverFall
  all_after u d n t [] h late =
      let out = outside u d t late in
      ((visited_out u d n t [] out).0 ∙ (nothing u d (suc n)).0, (visited_out u d n t [] out).1 ∙ (nothing u d (suc n)).1)
  all_after u d n t (s ∷ ts) h late =
      let out = outside u d t late in
      let rest = all_after u d (suc n) s ts h.1 (omega (arith, h.0)) in
      ((visited_out u d n t (s ∷ ts) out).0 ∙ rest.0, (visited_out u d n t (s ∷ ts) out).1 ∙ rest.1)

  -- from the window's first tick on, the steps in it follow one another
  from_first : (u d n t : ℕ) (ts : List ℕ) → NeverFall (t ∷ ts) → u ≤ t → count_in u d (visited table bus n (t ∷ ts)) ≡ among (λ i. is_at table bus i) (length table) n (count_in u d (t ∷ ts))
  unfolding NeverFall among
  from_first u d n t [] h from =
      elim (cases_lt t (u + d)) [
        | inl l ↦
            let here = visited_in u d n t [] (inside u d t from l) in
            omega (
              arith,
              here.1,
              (nothing u d (suc n)).1,
              ap (λ k. among (λ i. is_at table bus i) (length table) n k) (here.0 ∙ ap suc (nothing u d (suc n)).0),
              among_front (λ i. is_at table bus i) (length table) n 0,
            )
        | inr l ↦
            let none = all_after u d n t [] tt l in
            omega (arith, none.1, ap (λ k. among (λ i. is_at table bus i) (length table) n k) none.0)
      ]
  from_first u d n t (s ∷ ts) h from =
      elim (cases_lt t (u + d)) [
        | inl l ↦
            let here = visited_in u d n t (s ∷ ts) (inside u d t from l) in
            let rest = from_first u d (suc n) s ts h.1 (omega (arith, h.0)) in
            omega (
              arith,
              here.1,
              rest,
              ap (λ k. among (λ i. is_at table bus i) (length table) n k) here.0,
              among_front (λ i. is_at table bus i) (length table) n (count_in u d (s ∷ ts)),
            )
        | inr l ↦
            let none = all_after u d n t (s ∷ ts) h l in
            omega (arith, none.1, ap (λ k. among (λ i. is_at table bus i) (length table) n k) none.0)
      ]

  pub visited_window : 1 ≤ length table → (u d n : ℕ) (ts : List ℕ) → NeverFall ts → fewest_visits table bus (count_in u d ts) ≤ count_in u d (visited table bus n ts)
  visited_window some u d n [] h = omega (arith, ap (λ k. fewest_visits table bus k) (nothing u d n).0, fewest_zero (λ i. is_at table bus i) (length table))
  visited_window some u d n (t ∷ ts) h =
      elim (cases_lt t u) [
        | inl l ↦
            let out = visited_out u d n t ts (early u d t l) in
            omega (arith, ap (λ k. fewest_visits table bus k) out.0, out.1, visited_window some u d (suc n) ts (never_fall_tail t ts h))
        | inr l ↦ omega (arith, from_first u d n t ts h l, fewest_holds (λ i. is_at table bus i) (length table) some n (count_in u d (t ∷ ts)))
      ]

  -- the floor of a paced router's visits
  pub visited_holds : 1 ≤ length table →
      (steps per whole : ℕ) (ts : List ℕ) → NeverFall ts → HoldAtLeast steps per whole ts →
      (u d n : ℕ) → u + d ≤ whole → fewest_visits table bus (steps * (d / per)) ≤ count_in u d (visited table bus n ts)
  visited_holds some steps per whole ts h keeps u d n inside =
      omega (arith, fewest_grows table bus (steps * (d / per)) (count_in u d ts) (pace_holds steps per whole ts keeps u d inside), visited_window some u d n ts h)

pub in_turn_holds : (table : List ℕ) (bus : ℕ) → 1 ≤ length table → (steps per whole : ℕ) (ts : List ℕ) → VisitsInTurn table bus steps per whole ts →
    (u d : ℕ) → u + d ≤ whole → fewest_visits table bus (steps * (d / per)) ≤ count_in u d ts
in_turn_holds table bus some steps per whole ts turn u d inside =
    omega (arith, visited_holds table bus some steps per whole turn.all turn.in_order turn.paced u d turn.first inside, ap (λ l. count_in u d l) turn.visits)
