-- The words that came to a bus, each with its tick, and how to find one of them.
use Rattle.std.proofs.Common.{◌≡◌, ℕ, zero, suc, ◌+◌, ◌≤◌, ◌<◌, Bool, true, false, cond, List, [], ◌∷◌, length, get_or, refl, ap, inl, inr, ◌∙◌, arith}
use Rattle.std.specs.List.{filter}
use Rattle.dc_bound.specs.lemmas.Counts.{one_in_cases, count_in-nil, count_in-cons}
use Rattle.dc_bound.specs.Moves.{Move, move_ends, came, tag_of, ticks_in, entries, ins, arrived_tick}
use Rattle.dc_bound.specs.Moves.Move.{Tick, In, Visit}
use Rattle.dc_bound.specs.lemmas.QueueTimes.{ticks_in-append, comes, comes-tick, stamped-arrived, stamped-items}
use Rattle.dc_bound.specs.Run.{stamped}
use Rattle.dc_bound.specs.Window.{count_in, ticks_of}

-- the words that came, as (tick, (number of the stream, word)), and number n of them
abbrev pub words_in : List Move → List (ℕ × (ℕ × ℕ))
words_in ms = stamped move_ends came 0 ms

abbrev pub word_at : ℕ → List Move → ℕ × (ℕ × ℕ)
word_at n ms = get_or (words_in ms) n (0, (0, 0))

-- the entries are the words by their tags
entries_from : (t : ℕ) (ms : List Move) (n : ℕ) → get_or (stamped move_ends tag_of t ms) n (0, 0) ≡ ((get_or (stamped move_ends came t ms) n (0, (0, 0))).0, (get_or (stamped move_ends came t ms) n (0, (0, 0))).1.0)
unfolding stamped
entries_from t [] n = refl
entries_from t (Tick ∷ ms) n = entries_from (t + 1) ms n
entries_from t (In x ∷ ms) zero = refl
entries_from t (In x ∷ ms) (suc n) = entries_from (t + 0) ms n
entries_from t (Visit ∷ ms) n = entries_from (t + 0) ms n

entries_count : (t : ℕ) (ms : List Move) → length (stamped move_ends tag_of t ms) ≡ length (stamped move_ends came t ms)
unfolding stamped
entries_count t [] = refl
entries_count t (Tick ∷ ms) = entries_count (t + 1) ms
entries_count t (In x ∷ ms) = ap suc (entries_count (t + 0) ms)
entries_count t (Visit ∷ ms) = entries_count (t + 0) ms

pub entries-count : (ms : List Move) → length (entries ms) ≡ length (ins ms)
entries-count ms = entries_count 0 ms ∙ stamped-items ms 0

pub entry-is : (ms : List Move) (n : ℕ) → n < length (ins ms) → get_or (entries ms) n (0, 0) ≡ (arrived_tick n ms, (get_or (ins ms) n (0, 0)).0)
entry-is ms n h = entries_from 0 ms n ∙ ap (λ z. (z.0, z.1.0)) (stamped-arrived ms n h)

-- a word came by now
pub arrived-by_now : (ms : List Move) (n : ℕ) → n < length (ins ms) → arrived_tick n ms ≤ ticks_in ms
arrived-by_now ms n h =
    let r = comes ms n h in
    omega (arith, comes-tick n ms r.0 r.1 r.2 r.3, ap (λ z. ticks_in z) r.3.cut, ticks_in-append r.0 (In r.2 ∷ r.1))

-- where a window holds any that passes, some number has one
pub found_in : {X : Type 0} (p : ℕ × X → Bool) (u d : ℕ) (xs : List (ℕ × X)) (z : ℕ × X) → 1 ≤ count_in u d (ticks_of (filter p xs))
    → (n : ℕ) × (n < length xs) × (p (get_or xs n z) ≡ true) × (u ≤ (get_or xs n z).0) × ((get_or xs n z).0 < u + d)
found_in p u d [] z h = absurd (omega (arith, count_in-nil u d))
found_in p u d (x ∷ xs) z h =
    let later : 1 ≤ count_in u d (ticks_of (filter p xs)) → (n : ℕ) × (n < suc (length xs)) × (p (get_or (x ∷ xs) n z) ≡ true) × (u ≤ (get_or (x ∷ xs) n z).0) × ((get_or (x ∷ xs) n z).0 < u + d) =
    λ g. (let r = found_in p u d xs z g in (suc r.0, omega (arith, r.1), r.2, r.3, r.4)) in
    elim (p x) as (λ b. p x ≡ b → 1 ≤ count_in u d (ticks_of (cond b (x ∷ filter p xs) (filter p xs))) → (n : ℕ) × (n < suc (length xs)) × (p (get_or (x ∷ xs) n z) ≡ true) × (u ≤ (get_or (x ∷ xs) n z).0) × ((get_or (x ∷ xs) n z).0 < u + d)) [
      | true ↦ λ is h. elim (one_in_cases u d x.0) [
        | inl w ↦ (0, omega arith, is, w.0, w.1)
        | inr v ↦ later (elim v [ inl w ↦ omega (arith, h, w.1, count_in-cons u d x.0 (ticks_of (filter p xs))) | inr w ↦ omega (arith, h, w.1, count_in-cons u d x.0 (ticks_of (filter p xs))) ])
      ]
      | false ↦ λ is h. later h
    ] refl h
