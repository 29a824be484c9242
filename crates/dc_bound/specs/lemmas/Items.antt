-- The items of a queue: their numbers, ticks and tags.
use Rattle.std.proofs.Common.{◌≡◌, ℕ, suc, ◌+◌, ◌≤◌, ◌<◌, List, [], ◌∷◌, ◌++◌, length, get_or, refl, sym, ap, ◌∙◌, arith, add-zero, add_assoc}
use Rattle.dc_bound.specs.Run.{ticks, stamped}
use Rattle.dc_bound.specs.Moves.{Move, move_ends, tag_of, ticks_in, entries, ins, arrived_tick}
use Rattle.dc_bound.specs.Moves.Move.{Tick, In, Visit}
use Rattle.dc_bound.specs.lemmas.QueueTimes.{comes, comes-tick}

-- ---- an entry with the tag within the ticks

-- the entry of this number
abbrev pub entry : List (ℕ × ℕ) → ℕ → ℕ × ℕ
entry xs n = get_or xs n (0, 0)

pub record IsWithin (s u d : ℕ) (xs : List (ℕ × ℕ)) (n : ℕ) : Type 0 where
  pub there : n < length xs
  pub tag : (entry xs n).1 ≡ s
  pub from : u ≤ (entry xs n).0
  pub to : (entry xs n).0 < u + d

-- ---- the entry of a number

got_entry : (ms : List Move) (t : ℕ) (x y : List Move) (z : ℕ × ℕ) → ms ≡ x ++ (In z ∷ y) → get_or (stamped move_ends tag_of t ms) (length (ins x)) (0, 0) ≡ (t + ticks_in x, z.0)
unfolding stamped ins ticks
got_entry ms t [] y z e = ap (λ q. get_or (stamped move_ends tag_of t q) 0 (0, 0)) e ∙ ap (λ k. (k, z.0)) (sym (add-zero t))
got_entry ms t (Tick ∷ x) y z e = ap (λ q. get_or (stamped move_ends tag_of t q) (length (ins x)) (0, 0)) e ∙ got_entry (x ++ (In z ∷ y)) (t + 1) x y z refl ∙ ap (λ k. (k, z.0)) (add_assoc t 1 (ticks_in x))
got_entry ms t (Visit ∷ x) y z e = ap (λ q. get_or (stamped move_ends tag_of t q) (length (ins x)) (0, 0)) e ∙ got_entry (x ++ (In z ∷ y)) (t + 0) x y z refl ∙ ap (λ k. (k, z.0)) (add_assoc t 0 (ticks_in x))
got_entry ms t (In w ∷ x) y z e = ap (λ q. get_or (stamped move_ends tag_of t q) (suc (length (ins x))) (0, 0)) e ∙ got_entry (x ++ (In z ∷ y)) (t + 0) x y z refl ∙ ap (λ k. (k, z.0)) (add_assoc t 0 (ticks_in x))

got_in : (x y : List Move) (z : ℕ × ℕ) → get_or (ins (x ++ (In z ∷ y))) (length (ins x)) (0, 0) ≡ z
unfolding ins
got_in [] y z = refl
got_in (Tick ∷ x) y z = got_in x y z
got_in (Visit ∷ x) y z = got_in x y z
got_in (In w ∷ x) y z = got_in x y z

entries-count : (ms : List Move) (t : ℕ) → length (stamped move_ends tag_of t ms) ≡ length (ins ms)
unfolding stamped ins
entries-count [] t = refl
entries-count (Tick ∷ ms) t = entries-count ms (t + 1)
entries-count (Visit ∷ ms) t = entries-count ms (t + 0)
entries-count (In z ∷ ms) t = ap suc (entries-count ms (t + 0))

-- the n-th entry is the n-th arrival: its tick, and the stream of the n-th item
pub entry-arrived : (ms : List Move) (n : ℕ) → n < length (ins ms) → entry (entries ms) n ≡ (arrived_tick n ms, (get_or (ins ms) n (0, 0)).0)
entry-arrived ms n h =
    let r = comes ms n h in
    let number : length (ins r.0) ≡ n = r.3.earlier in
    let item_is : get_or (ins ms) n (0, 0) ≡ r.2 = ap (λ k. get_or (ins ms) k (0, 0)) (sym number) ∙ ap (λ q. get_or (ins q) (length (ins r.0)) (0, 0)) r.3.cut ∙ got_in r.0 r.1 r.2 in
    let tick_is : arrived_tick n ms ≡ 0 + ticks_in r.0 = omega (arith, comes-tick n ms r.0 r.1 r.2 r.3) in
    ap (λ k. get_or (entries ms) k (0, 0)) (sym number) ∙ got_entry ms 0 r.0 r.1 r.2 r.3.cut
    ∙ ap (λ k. (k, r.2.0)) (sym tick_is) ∙ ap (λ (z : ℕ × ℕ). (arrived_tick n ms, z.0)) (sym item_is)

-- the item of this number is of the stream, and came within the ticks
pub record ArrivesWithin (s u d : ℕ) (ms : List Move) (n : ℕ) : Type 0 where
  pub there : n < length (ins ms)
  pub stream : (get_or (ins ms) n (0, 0)).0 ≡ s
  pub from : u ≤ arrived_tick n ms
  pub to : arrived_tick n ms < u + d
