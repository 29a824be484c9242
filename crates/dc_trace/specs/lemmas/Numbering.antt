-- The numbers of a trace's events are in the tables.
use Rattle.std.proofs.Common.{ℕ, zero, suc, ◌<◌, ◌==◌, Bool, true, false, cond, List, [], ◌∷◌, ◌++◌, length, filter, map}
use Rattle.std.specs.List.{All}
use Rattle.std.proofs.lemmas.List.Elements.{All-append, All-cons, All-head, All-nil, All-tail}
use Rattle.dc_event.specs.Admissible.{IsNumbered, IsRun}
use Rattle.dc_event.specs.Steady.{each_below, steady, steady_tick}
use Rattle.dc_tables.specs.TableRows.{TableRows}
use Rattle.dc_trace.specs.Traces.{arrive, tick_at, traced, traced_tick, traced_ticks, words_in}

All-back : {X : Type 0} (P : X → Type 0) (xs ys : List X) → All P (xs ++ ys) → All P ys
All-back P [] ys all = all
All-back P (x ∷ xs) ys all = All-back P xs ys (All-tail P x (xs ++ ys) all)

-- the words that pass a test
words-numbered : (t : TableRows) (p : ℕ × (ℕ × ℕ) → Bool) (xs : List (ℕ × (ℕ × ℕ))) → All (λ x. x.1.0 < length t.buses) xs → All (IsNumbered t) (map arrive (filter p xs))
words-numbered t p [] all = All-nil (IsNumbered t)
words-numbered t p (x ∷ xs) all =
    let rest = words-numbered t p xs (All-tail (λ x. x.1.0 < length t.buses) x xs all) in
    elim (p x) as (λ b. All (IsNumbered t) (map arrive (cond b (x ∷ filter p xs) (filter p xs)))) [
      | true ↦ All-cons (IsNumbered t) (arrive x) (map arrive (filter p xs)) (All-head (λ x. x.1.0 < length t.buses) x xs all) rest
      | false ↦ rest
    ]

module _ (t : TableRows) (numbered : (n : ℕ) → IsRun t (steady t n)) (from : ℕ) (capture : List (ℕ × (ℕ × ℕ))) (all : All (λ x. x.1.0 < length t.buses) capture) where
  steps-numbered : (k : ℕ) → All (IsNumbered t) (steady_tick t k)
  unfolding steady
  steps-numbered k = All-back (IsNumbered t) (each_below (steady_tick t) k) (steady_tick t k) (numbered (suc k))

  below-numbered : (n : ℕ) → All (IsNumbered t) (each_below (traced_tick t from capture) n)
  below-numbered zero = All-nil (IsNumbered t)
  below-numbered (suc n) =
      All-append (IsNumbered t) (each_below (traced_tick t from capture) n) (traced_tick t from capture n) (below-numbered n)
      (All-append (IsNumbered t) (words_in from t.tick_us capture n) (steady_tick t n) (words-numbered t (λ x. tick_at from t.tick_us x.0 == n) capture all) (steps-numbered n))

  pub traces-numbered : IsRun t (traced t from capture)
  unfolding traced
  traces-numbered = below-numbered (traced_ticks from t.tick_us capture)
