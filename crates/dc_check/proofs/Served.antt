-- What has been served, and what has passed, one event on.
use Rattle.std.proofs.Common.{◌≡◌, ℕ, ◌+◌, ◌-◌, ◌≤◌, ◌⊎◌, inl, inr, min, List, [], ◌∷◌, ◌++◌, length, refl, sym, ap, ◌∙◌, arith, append_assoc, length-append}
use Rattle.std.proofs.lemmas.List.{append-nil}
use Rattle.dc_bound.specs.lemmas.Least.{served_in-le, le-served_in}
use Rattle.dc_bound.specs.Moves.{Move, visits, ins, passed}
use Rattle.dc_bound.specs.Moves.Move.{Visit}
use Rattle.dc_bound.specs.Places.{served_in}
use Rattle.dc_bound.specs.lemmas.Queued.{ins-append, visits-append, passed-le, le-passed}
use Rattle.dc_bound.specs.Run.{picks}

-- two ways to cut a list: the first cut is the later one, or not
pub cut_sides : {X : Type 0} (p m x y : List X) → p ++ m ≡ x ++ y → ((q : List X) × (p ≡ x ++ q) × (y ≡ q ++ m)) ⊎ ((q : List X) × (x ≡ p ++ q) × (m ≡ q ++ y))
cut_sides p m [] y e = inl (p, refl, sym e)
cut_sides [] m (c ∷ x) y e = inr (c ∷ x, refl, e)
cut_sides (d ∷ p) m (c ∷ x) y e =
    let same : d ≡ c = cc in
    let rest : p ++ m ≡ x ++ y = cc in
    elim (cut_sides p m x y rest) [
      | inl (q, f, g) ↦ inl (q, (let r : d ∷ p ≡ c ∷ (x ++ q) = cc in r), g)
      | inr (q, f, g) ↦ inr (q, (let r : c ∷ x ≡ d ∷ (p ++ q) = cc in r), g)
    ]

nil_left : {X : Type 0} (a b : List X) → a ++ b ≡ [] → a ≡ []
nil_left [] b h = refl
nil_left (x ∷ a) b h = absurd (cc)

module _ {X : Type 0} (come turns : List X → ℕ) (rises : (a b : List X) → turns a ≤ turns (a ++ b)) where
  -- one more event: one more is served for each turn, where it has come
  pub served_in-push : (run : List X) (e : X) → served_in come turns (run ++ (e ∷ [])) ≡ min (served_in come turns run + (turns (run ++ (e ∷ [])) - turns run)) (come (run ++ (e ∷ [])))
  served_in-push run e =
      let more : List X = run ++ (e ∷ []) in
      let up : served_in come turns (run ++ (e ∷ [])) - (turns (run ++ (e ∷ [])) - turns run) ≤ served_in come turns run =
      le-served_in come turns run (served_in come turns (run ++ (e ∷ [])) - (turns (run ++ (e ∷ [])) - turns run)) (λ a b s.
      let long : run ++ (e ∷ []) ≡ a ++ (b ++ (e ∷ [])) = ap (λ z. z ++ (e ∷ [])) s ∙ append_assoc a b (e ∷ []) in
      omega (arith, served_in-le come turns a (b ++ (e ∷ [])), ap (λ z. served_in come turns z) long, ap turns long, rises a b, ap turns s, rises run (e ∷ []))) in
      let last : served_in come turns (run ++ (e ∷ [])) ≤ come (run ++ (e ∷ [])) =
      omega (arith, served_in-le come turns (run ++ (e ∷ [])) [], ap (λ z. served_in come turns z) (append-nil (run ++ (e ∷ []))), ap turns (append-nil (run ++ (e ∷ [])))) in
      let low : min (served_in come turns run + (turns (run ++ (e ∷ [])) - turns run)) (come (run ++ (e ∷ []))) ≤ served_in come turns (run ++ (e ∷ [])) =
      le-served_in come turns (run ++ (e ∷ [])) (min (served_in come turns run + (turns (run ++ (e ∷ [])) - turns run)) (come (run ++ (e ∷ [])))) (λ a b s.
      elim (cut_sides run (e ∷ []) a b s) [
        | inl (q, f, g) ↦ omega (arith, served_in-le come turns a q, ap (λ z. served_in come turns z) f, ap turns f, rises a q, rises run (e ∷ []))
        | inr ([], f, g) ↦
            let whole : a ≡ run = f ∙ append-nil run in
            omega (arith, served_in-le come turns run [], ap (λ z. served_in come turns z) (append-nil run), ap turns (append-nil run), ap come whole, ap turns whole, rises run (e ∷ []))
        | inr (c ∷ q, f, g) ↦
            let none : q ++ b ≡ [] = cc in
            let empty : q ≡ [] = nil_left q b none in
            let same : c ≡ e = cc in
            let whole : a ≡ run ++ (e ∷ []) = f ∙ ap (λ z. run ++ (c ∷ z)) empty ∙ ap (λ z. run ++ (z ∷ [])) same in
            omega (arith, ap come whole)
      ]) in
      omega (arith, up, last, low, rises run (e ∷ []))

visits_none : visits [] ≡ 0
unfolding picks
visits_none = refl

-- moves that hold no visit pass nothing on
pub passed-still : (a b : List Move) → visits b ≡ 0 → passed (a ++ b) ≡ passed a
passed-still a b h =
    let no_visits : visits [] ≡ 0 = visits_none in
    let up = le-passed a (passed (a ++ b)) (λ x y s.
    let long : a ++ b ≡ x ++ (y ++ b) = ap (λ z. z ++ b) s ∙ append_assoc x y b in
    omega (arith, passed-le x (y ++ b), ap passed long, visits-append y b)) in
    let low = le-passed (a ++ b) (passed a) (λ x y s.
    elim (cut_sides a b x y s) [
      | inl (q, f, g) ↦ omega (arith, passed-le x q, ap passed f, ap visits g, visits-append q b)
      | inr (q, f, g) ↦ omega (arith, passed-le a [], ap passed (append-nil a), ap (λ z. length (ins z)) f, ap length (ins-append a q), length-append (ins a) (ins q), no_visits)
    ]) in
    omega (arith, up, low)

visits_rise : (a b : List Move) → visits a ≤ visits (a ++ b)
visits_rise a b = omega (arith, visits-append a b)

-- a visit passes one more on, where it has come
pub passed-visit : (ms : List Move) → passed (ms ++ (Visit ∷ [])) ≡ min (passed ms + 1) (length (ins ms))
unfolding passed picks ins
passed-visit ms =
    omega (
      arith,
      served_in-push (λ past. length (ins past)) visits visits_rise ms Visit,
      visits-append ms (Visit ∷ []),
      ap length (ins-append ms (Visit ∷ [])),
      ap length (append-nil (ins ms)),
    )
