-- No busy stretch outlasts a window that closes.
use Rattle.std.proofs.Common.{◌≡◌, ℕ, zero, suc, ◌+◌, ◌-◌, ◌<◌, ◌≤◌, List, [], ◌∷◌, ◌++◌, length, take, drop, refl, sym, ap, ◌∙◌, subst, arith, inl, inr, append_assoc, length-append, take-append-drop}
use Rattle.std.proofs.lemmas.Bool.{cases_lt}
use Rattle.std.proofs.lemmas.List.{append-nil, take_all}
use Rattle.dc_bound.specs.Moves.{Move, move_ends, tag_of, ticks_in, visits, entries, ins, passed}
use Rattle.dc_bound.specs.Moves.Move.{Tick}
use Rattle.dc_bound.specs.Places.{least, served_in}
use Rattle.dc_bound.specs.Run.{picks}
use Rattle.dc_bound.specs.Window.{count_in, ticks_of}
use Rattle.dc_bound.specs.lemmas.QueueTimes.{split_sides}
use Rattle.dc_bound.specs.lemmas.Queued.{ins-append, ins-count, visits-append, passed-le, le-passed}
use Rattle.dc_bound.specs.lemmas.Segments.{ticks-append}
use Rattle.dc_busy.specs.BusyWindow.{Closes, EmptiesWithin, QueueEmpties}
use Rattle.dc_busy.specs.lemmas.Law.{Bounded, bounded, first_part, split_at_tick}

-- how many came
came_in : List Move → ℕ
came_in ms = length (ins ms)

came_in-append : (a b : List Move) → came_in (a ++ b) ≡ came_in a + came_in b
unfolding came_in
came_in-append a b = ap length (ins-append a b) ∙ length-append (ins a) (ins b)

-- nothing waits behind these moves: from none of their places on have more come than there were visits
pub IsLow : List Move → Type 0
IsLow ms = (a b : List Move) → ms ≡ a ++ b → came_in b ≤ visits b

pub low-waits_for_none : (ms : List Move) → IsLow ms → length (ins ms) ≤ passed ms
unfolding came_in IsLow
low-waits_for_none ms h = le-passed ms (length (ins ms)) (λ a b e. omega (arith, h a b e, ap came_in e, came_in-append a b))

-- the least is one of them
least-reached : (f : ℕ → ℕ) (n : ℕ) → (j : ℕ) × (j ≤ n) × (f j ≤ least f n)
least-reached f zero = (0, omega arith, omega arith)
least-reached f (suc n) =
    let r = least-reached f n in
    elim (cases_lt (least f n) (f (suc n))) [
      | inl l ↦ (r.0, omega (arith, r.1), omega (arith, r.2, l))
      | inr l ↦ (suc n, omega arith, omega (arith, l))
    ]

-- where something waits, from some place on more have come than there were visits
waits-cut : (ms : List Move) → passed ms < length (ins ms) → (a b : List Move) × (ms ≡ a ++ b) × (visits b < came_in b)
unfolding came_in passed served_in
waits-cut ms h =
    let f : ℕ → ℕ = λ j. length (ins (take j ms)) + (visits (take (length ms) ms) - visits (take j ms)) in
    let r = least-reached (λ j. length (ins (take j ms)) + (visits (take (length ms) ms) - visits (take j ms))) (length ms) in
    let cut : ms ≡ take r.0 ms ++ drop r.0 ms = sym (take-append-drop r.0 ms) in (
      take r.0 ms,
      drop r.0 ms,
      cut,
      omega (
        arith,
        r.2,
        h,
        ap visits (take_all (length ms) ms (omega arith)),
        ap visits cut,
        visits-append (take r.0 ms) (drop r.0 ms),
        ap came_in cut,
        came_in-append (take r.0 ms) (drop r.0 ms),
      ),
    )

nothing_in : (came_in [] ≡ 0) × (visits [] ≡ 0)
unfolding came_in ins picks
nothing_in = (refl, refl)

brings-some : (x : List Move) → 0 < came_in x → 1 ≤ length x
brings-some [] h = absurd (omega (arith, nothing_in.0, h))
brings-some (m ∷ x) h = omega arith

some_moves : (x : List Move) → came_in x < visits x → 1 ≤ length x
some_moves [] h = absurd (omega (arith, nothing_in.0, nothing_in.1, h))
some_moves (m ∷ x) h = omega arith

pub low-nil : IsLow []
unfolding IsLow
low-nil [] b e = omega (arith, ap came_in e, ap visits e, nothing_in.0, nothing_in.1)
low-nil (m ∷ a) b e = absurd cc

tick_in : (came_in (Tick ∷ []) ≡ 0) × (visits (Tick ∷ []) ≡ 0)
unfolding came_in ins picks
tick_in = (refl, refl)

-- moves without visits change nothing of what waited before them
pub low-before : (p x : List Move) → visits x ≡ 0 → IsLow (p ++ x) → IsLow p
unfolding IsLow
low-before p x none h a b e =
    omega (arith, h a (b ++ x) (ap (λ z. z ++ x) e ∙ append_assoc a b x), came_in-append b x, visits-append b x, none)

-- nor does a Tick
low-tick : (p : List Move) → IsLow p → IsLow (p ++ (Tick ∷ []))
unfolding IsLow
low-tick p h a b e =
    elim (split_sides p (Tick ∷ []) a b e) [
      | inl (q, f, g) ↦ omega (arith, h a q f, ap came_in g, ap visits g, came_in-append q (Tick ∷ []), visits-append q (Tick ∷ []), tick_in.0, tick_in.1)
      | inr (q, f, g) ↦ omega (arith, ap came_in g, came_in-append q b, tick_in.0)
    ]

-- where nothing waits the place is one of those
pub low-of : (ms : List Move) → length (ins ms) ≤ passed ms → IsLow ms
unfolding came_in IsLow
low-of ms none a b e = omega (arith, none, ap passed e, passed-le a b, ap came_in e, came_in-append a b)

-- moves that bring no more than they take have a place, not their first, at which nothing waits
last_low : (n : ℕ) (p x : List Move) → length x ≤ n → IsLow p → 1 ≤ length x → came_in x ≤ visits x
    → (u v : List Move) × (x ≡ u ++ v) × (1 ≤ length u) × IsLow (p ++ u)
unfolding IsLow
last_low zero p x small low some even = absurd (omega arith)
last_low (suc n) p x small low some even =
    elim (cases_lt (passed (p ++ x)) (length (ins (p ++ x)))) [
      | inl waits ↦
          let r = waits-cut (p ++ x) waits in
          elim (split_sides p x r.0 r.1 r.2) [
            | inl (q, f, g) ↦ absurd (omega (arith, low r.0 q f, ap came_in g, ap visits g, came_in-append q x, visits-append q x, r.3, even))
            | inr (q, f, g) ↦
                let fewer : came_in q < visits q = omega (arith, ap came_in g, ap visits g, came_in-append q r.1, visits-append q r.1, r.3, even) in
                let shorter : length q ≤ n = omega (arith, ap length g, length-append q r.1, brings-some r.1 (omega (arith, r.3))) in
                let rest = last_low n p q shorter low (some_moves q fewer) (omega (arith, fewer)) in
                (let same : x ≡ rest.0 ++ (rest.1 ++ r.1) = g ∙ ap (λ z. z ++ r.1) rest.2 ∙ append_assoc rest.0 rest.1 r.1 in (rest.0, rest.1 ++ r.1, same, rest.3, rest.4))
          ]
      | inr none ↦ (x, [], sym (append-nil x), some, low-of (p ++ x) none)
    ]

module _ (a s : ℕ → ℕ) (window : ℕ) (least_one : 1 ≤ window) (most : window ≤ 100000) (closes : Closes a s window) (ms : List Move) (b : Bounded a s ms) where
  -- behind a place at which nothing waits the next one comes before the window's last Tick, or is behind the Tick that comes at once
  next_low : (p x y post : List Move) → ms ≡ p ++ ((x ++ (Tick ∷ y)) ++ post) → suc (ticks_in x) ≡ window → IsLow p
      → (u v : List Move) × (x ++ (Tick ∷ y) ≡ u ++ v) × (1 ≤ length u) × IsLow (p ++ u)
  unfolding came_in
  next_low p [] y post e h low = (Tick ∷ [], y, refl, omega arith, low-tick p low)
  next_low p (m ∷ x) y post e h low =
      let even : came_in (m ∷ x) ≤ visits (m ∷ x) = omega (arith, first_part a s window least_one most closes ms b p (m ∷ x) y post e h, ins-count (m ∷ x)) in
      let r = last_low (length (m ∷ x)) p (m ∷ x) (omega arith) low (omega arith) even in
      (r.0, r.1 ++ (Tick ∷ y), ap (λ z. z ++ (Tick ∷ y)) r.2 ∙ append_assoc r.0 r.1 (Tick ∷ y), r.3, r.4)

  -- from such a place on they come until one lies in the span
  low_from : (n : ℕ) (p way span post : List Move) → length way ≤ n → ms ≡ p ++ (way ++ (span ++ post)) → window ≤ ticks_in span → IsLow p
      → (x y : List Move) × (span ≡ x ++ y) × IsLow (p ++ (way ++ x))
  low_from n p [] span post small e long low = ([], span, refl, subst IsLow (sym (append-nil p)) low)
  low_from zero p (m ∷ way) span post small e long low = absurd (omega arith)
  low_from (suc n) p (m ∷ way) span post small e long low =
      let cut = split_at_tick ((m ∷ way) ++ span) (window - 1) (omega (arith, ticks-append move_ends tag_of (m ∷ way) span)) in
      let there : ms ≡ p ++ ((cut.0 ++ (Tick ∷ cut.1)) ++ post) = e ∙ ap (λ z. p ++ z) (sym (append_assoc (m ∷ way) span post) ∙ ap (λ z. z ++ post) cut.2) in
      let r = next_low p cut.0 cut.1 post there (omega (arith, cut.3)) low in
      elim (split_sides (m ∷ way) span r.0 r.1 (cut.2 ∙ r.2)) [
        | inl (q, f, g) ↦
            let place : ms ≡ (p ++ r.0) ++ (q ++ (span ++ post)) =
            e ∙ ap (λ z. p ++ (z ++ (span ++ post))) f ∙ ap (λ z. p ++ z) (append_assoc r.0 q (span ++ post)) ∙ sym (append_assoc p r.0 (q ++ (span ++ post))) in
            let rest = low_from n (p ++ r.0) q span post (omega (arith, ap length f, length-append r.0 q, r.3)) place long r.4 in
            let same : (p ++ r.0) ++ (q ++ rest.0) ≡ p ++ ((m ∷ way) ++ rest.0) =
            append_assoc p r.0 (q ++ rest.0) ∙ ap (λ z. p ++ z) (sym (append_assoc r.0 q rest.0)) ∙ ap (λ z. p ++ (z ++ rest.0)) (sym f) in
            (rest.0, rest.1, rest.2, subst IsLow same rest.3)
        | inr (q, f, g) ↦ (let P : List Move → Type 0 = λ z. IsLow (p ++ z) in (q, r.1, g, subst P f r.4))
      ]

  pub empties : EmptiesWithin window ms
  empties pre span post e long =
      let r = low_from (length pre) [] pre span post (omega arith) e long low-nil in
      (r.0, r.1, r.2, low-waits_for_none (pre ++ r.0) r.3)

pub queue_empties : (a s : ℕ → ℕ) (allows : List (ℕ × ℕ) → Type 0) → ((xs : List (ℕ × ℕ)) (u d : ℕ) → allows xs → count_in u d (ticks_of xs) ≤ a d)
    → (window : ℕ) → 1 ≤ window → window ≤ 100000 → QueueEmpties a allows s window
queue_empties a s allows holds window some most closes ms ok served = empties a s window some most closes ms (bounded a s ms (λ u d. holds (entries ms) u d ok) served)
