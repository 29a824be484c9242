-- A place among the moves at which nothing waits is a place of the run, or one event behind it.
use Rattle.std.proofs.Common.{◌≡◌, ℕ, ◌+◌, ◌≤◌, ◌⊎◌, List, [], ◌∷◌, ◌++◌, length, Option, refl, sym, ap, ◌∙◌, subst, arith, inl, inr, append_assoc, length-append}
use Rattle.std.proofs.lemmas.List.{append-nil}
use Rattle.dc_bound.specs.Moves.{Move, move_ends, tag_of, ticks_in, visits}
use Rattle.dc_bound.specs.Run.{ticks}
use Rattle.dc_bound.specs.lemmas.QueueTimes.{split_sides}
use Rattle.dc_bound.specs.lemmas.Queued.{visits-append}
use Rattle.dc_bound.specs.lemmas.Segments.{ticks-append}
use Rattle.dc_busy.specs.BusyWindow.{EmptiesWithin}
use Rattle.dc_busy.specs.lemmas.Empties.{IsLow, low-before, low-of}

-- what an event is to a queue: without a visit, or one move at most
abbrev pub IsMoment : List Move → Type 0
IsMoment ms = (visits ms ≡ 0) ⊎ (length ms ≤ 1)

module _ {E X : Type 0} (ends : E → ℕ) (pick : E → Option X) (move : List E → E → List Move) (moves : List E → List Move)
    (next : (past : List E) (e : E) → moves (past ++ (e ∷ [])) ≡ moves past ++ move past e)
    (moment : (past : List E) (e : E) → IsMoment (move past e))
    (as_many : (run : List E) → ticks_in (moves run) ≡ ticks ends run) where
  begin : (past rest : List E) → (more : List Move) × (moves (past ++ rest) ≡ moves past ++ more)
  begin past [] = ([], ap moves (append-nil past) ∙ sym (append-nil (moves past)))
  begin past (e ∷ rest) =
      let r = begin (past ++ (e ∷ [])) rest in
      (move past e ++ r.0, ap moves (sym (append_assoc past (e ∷ []) rest)) ∙ r.1 ∙ ap (λ z. z ++ r.0) (next past e) ∙ append_assoc (moves past) (move past e) r.0)

  -- the place before an event
  here : (past span : List E) → IsLow (moves past) → (u v : List E) × (span ≡ u ++ v) × IsLow (moves (past ++ u))
  here past span low = ([], span, refl, subst (λ z. IsLow (moves z)) (sym (append-nil past)) low)

  -- a place among one move
  one_move : (past span : List E) (e : E) (x q : List Move) → moves past ++ move past e ≡ (moves past ++ x) ++ q → IsLow (moves past ++ x) → length x + length q ≤ 1
      → (u v : List E) × ((e ∷ span) ≡ u ++ v) × IsLow (moves (past ++ u))
  one_move past span e [] q cut low few = here past (e ∷ span) (subst IsLow (append-nil (moves past)) low)
  one_move past span e (m ∷ x) [] cut low few = (e ∷ [], span, refl, subst IsLow (sym (next past e ∙ cut ∙ append-nil (moves past ++ (m ∷ x)))) low)
  one_move past span e (m ∷ x) (n ∷ q) cut low few = absurd (omega arith)

  -- a place among the moves of one event
  within : (past span : List E) (e : E) (x q : List Move) → moves past ++ move past e ≡ (moves past ++ x) ++ q → IsLow (moves past ++ x)
      → (u v : List E) × ((e ∷ span) ≡ u ++ v) × IsLow (moves (past ++ u))
  within past span e x q cut low =
      elim (moment past e) [
        | inl none ↦ here past (e ∷ span) (low-before (moves past) x (omega (arith, ap visits cut, visits-append (moves past) (move past e), visits-append (moves past ++ x) q, visits-append (moves past) x, none)) low)
        | inr one ↦ one_move past span e x q cut low (omega (arith, ap length cut, length-append (moves past) (move past e), length-append (moves past ++ x) q, length-append (moves past) x, one))
      ]

  place : (past span : List E) (x y : List Move) → moves (past ++ span) ≡ (moves past ++ x) ++ y → IsLow (moves past ++ x)
      → (u v : List E) × (span ≡ u ++ v) × IsLow (moves (past ++ u))
  place past [] x y cut low =
      here past [] (low-before (moves past) x (omega (arith, ap visits cut, ap (λ z. visits (moves z)) (append-nil past), visits-append (moves past ++ x) y, visits-append (moves past) x)) low)
  place past (e ∷ span) x y cut low =
      let r = begin (past ++ (e ∷ [])) span in
      let whole : moves (past ++ (e ∷ span)) ≡ moves ((past ++ (e ∷ [])) ++ span) = ap moves (sym (append_assoc past (e ∷ []) span)) in
      let both : (moves past ++ move past e) ++ r.0 ≡ (moves past ++ x) ++ y = sym (whole ∙ r.1 ∙ ap (λ z. z ++ r.0) (next past e)) ∙ cut in
      elim (split_sides (moves past ++ move past e) r.0 (moves past ++ x) y both) [
        | inl (q, f, g) ↦ within past span e x q f low
        | inr (q, f, g) ↦
            let there : moves ((past ++ (e ∷ [])) ++ span) ≡ (moves (past ++ (e ∷ [])) ++ q) ++ y = r.1 ∙ ap (λ z. moves (past ++ (e ∷ [])) ++ z) g ∙ sym (append_assoc (moves (past ++ (e ∷ []))) q y) in
            let rest = place (past ++ (e ∷ [])) span q y there (subst IsLow (f ∙ ap (λ z. z ++ q) (sym (next past e))) low) in
            (e ∷ rest.0, rest.1, ap (λ z. e ∷ z) rest.2, subst (λ z. IsLow (moves z)) (append_assoc past (e ∷ []) rest.0) rest.3)
      ]

  -- where the moves of a run empty within a window, so does the run
  pub run_empties : (window : ℕ) (run : List E) → EmptiesWithin window (moves run) → (past span rest : List E) → run ≡ past ++ (span ++ rest) → window ≤ ticks ends span
      → (u v : List E) × (span ≡ u ++ v) × IsLow (moves (past ++ u))
  run_empties window run empties past span rest cut long =
      let first = begin past span in
      let last = begin (past ++ span) rest in
      let whole : moves run ≡ moves past ++ (first.0 ++ last.0) =
      ap moves (cut ∙ sym (append_assoc past span rest)) ∙ last.1 ∙ ap (λ z. z ++ last.0) first.1 ∙ append_assoc (moves past) first.0 last.0 in
      let enough : window ≤ ticks_in first.0 =
      omega (arith, long, as_many (past ++ span), as_many past, ticks-append ends pick past span, ap ticks_in first.1, ticks-append move_ends tag_of (moves past) first.0) in
      let r = empties (moves past) first.0 last.0 whole enough in
      place past span r.0 r.1 (first.1 ∙ ap (λ z. moves past ++ z) r.2 ∙ sym (append_assoc (moves past) r.0 r.1)) (low-of (moves past ++ r.0) r.3)
