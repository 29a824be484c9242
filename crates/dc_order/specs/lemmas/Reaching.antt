-- What is reached, and how much is missing.
use Rattle.std.proofs.Common.{cond, drop, ◌≡◌, ℕ, zero, suc, ◌+◌, ◌<◌, ◌≤◌, ◌⊎◌, Bool, true, false, List, [], ◌∷◌, ◌++◌, length, get_or, set, refl, sym, ap, ◌∙◌, subst, arith, inl, inr}
use Rattle.std.proofs.lemmas.Bool.{both_ways, cases_eq, cases_lt}
use Rattle.std.proofs.lemmas.List.{length-set, get_or-set_other, get_or_past}
use Rattle.dc_order.specs.declared.hop.Hop.{Hop}
use Rattle.dc_order.specs.Rings.{hop_at, HasHop, IsWalk, Leads, IsOnRing, IsOrder, IsFirstOnRing, IsRingFault, AreReached, AreNumbered, missing, AreLed, IsTakenOn, IsMissing, IsThere, IsRingOf}
use Rattle.dc_order.specs.declared.order.OrderError.{OrderError}
use Rattle.dc_order.specs.declared.order.OrderError.TheVariants.{Ring, Memory}

-- ---- walks

pub walk-on : (hops : List Hop) (i : ℕ) (path : List ℕ) (k j : ℕ) → IsWalk hops i path k → HasHop hops k j → IsWalk hops i (path ++ k ∷ []) j
walk-on hops i [] k j w h = (w, h)
walk-on hops i (m ∷ path) k j w h = (w.0, walk-on hops m path k j w.1 h)

pub leads-on : (hops : List Hop) (i k j : ℕ) → Leads hops i k → HasHop hops k j → Leads hops i j
leads-on hops i k j (path, w) h = (path ++ k ∷ [], walk-on hops i path k j w h)

-- an order rises along a walk
pub walk-rises : (hops : List Hop) (place : ℕ → ℕ) → IsOrder hops place → (i : ℕ) (path : List ℕ) (j : ℕ) → IsWalk hops i path j → place i < place j
walk-rises hops place order i [] j h = omega (arith, order h.0 h.1, ap place h.2, ap place h.3)
walk-rises hops place order i (k ∷ path) j h = omega (arith, order h.0.0 h.0.1, ap place h.0.2, ap place h.0.3, walk-rises hops place order k path j h.1)

pub orders-exclude_rings : (hops : List Hop) (place : ℕ → ℕ) → IsOrder hops place → (i : ℕ) → IsOnRing hops i → ⊥
orders-exclude_rings hops place order i (path, w) = omega (arith, walk-rises hops place order i path i w)

-- what is closed under links has all that they lead to
pub walk-closed : (hops : List Hop) (start : ℕ) (reached : List Bool) → ((k : ℕ) → k < length hops → IsTakenOn hops start reached k)
    → (i : ℕ) (path : List ℕ) (j : ℕ) → (i ≡ start) ⊎ (get_or reached i true ≡ true) → IsWalk hops i path j → get_or reached j true ≡ true
walk-closed hops start reached closed i [] j at h =
    let from : ((hop_at hops h.0).from ≡ start) ⊎ (get_or reached (hop_at hops h.0).from true ≡ true) = elim at [ inl same ↦ inl (h.2 ∙ same) | inr is ↦ inr (ap (λ z. get_or reached z true) h.2 ∙ is) ] in
    ap (λ z. get_or reached z true) (sym h.3) ∙ closed h.0 h.1 from
walk-closed hops start reached closed i (k ∷ path) j at h =
    let from : ((hop_at hops h.0.0).from ≡ start) ⊎ (get_or reached (hop_at hops h.0.0).from true ≡ true) = elim at [ inl same ↦ inl (h.0.2 ∙ same) | inr is ↦ inr (ap (λ z. get_or reached z true) h.0.2 ∙ is) ] in
    walk-closed hops start reached closed k path j (inr (ap (λ z. get_or reached z true) (sym h.0.3) ∙ closed h.0.0 h.0.1 from)) h.1

pub reached-is : (hops : List Hop) (start : ℕ) (reached : List Bool) → AreLed hops start reached → ((k : ℕ) → k < length hops → IsTakenOn hops start reached k) → AreReached (length reached) hops start reached
reached-is hops start reached led closed = record {
  size = refl;
  is = λ j there. (led j there, λ (path, w). walk-closed hops start reached closed start path j (inl refl) w);
}

-- ---- how much is missing

pub missing-set : (xs : List Bool) (i : ℕ) → i < length xs → get_or xs i true ≡ false → missing (set xs i true) + 1 ≡ missing xs
missing-set [] i h e = absurd (omega arith)
missing-set (true ∷ xs) zero h e = absurd cc
missing-set (false ∷ xs) zero h e = omega arith
missing-set (true ∷ xs) (suc i) h e = missing-set xs i (omega arith) e
missing-set (false ∷ xs) (suc i) h e = omega (arith, missing-set xs i (omega arith) e)

pub missing-le : (xs : List Bool) → missing xs ≤ length xs
missing-le [] = omega arith
missing-le (true ∷ xs) = omega (arith, missing-le xs)
missing-le (false ∷ xs) = omega (arith, missing-le xs)

-- where all of ys is of xs, xs misses no more; and fewer, where xs has one that ys has not
pub missing-more : (xs ys : List Bool) → length xs ≡ length ys → ((j : ℕ) → j < length xs → get_or ys j true ≡ true → get_or xs j true ≡ true) → missing xs ≤ missing ys
missing-more [] [] e h = omega arith
missing-more [] (y ∷ ys) e h = absurd (omega arith)
missing-more (x ∷ xs) [] e h = absurd (omega arith)
missing-more (true ∷ xs) (true ∷ ys) e h = missing-more xs ys (omega arith) (λ j l. h (suc j) (omega arith))
missing-more (true ∷ xs) (false ∷ ys) e h = omega (arith, missing-more xs ys (omega arith) (λ j l. h (suc j) (omega arith)))
missing-more (false ∷ xs) (true ∷ ys) e h = absurd (both_ways false refl (h 0 (omega arith) refl))
missing-more (false ∷ xs) (false ∷ ys) e h = omega (arith, missing-more xs ys (omega arith) (λ j l. h (suc j) (omega arith)))

pub missing-fewer : (xs ys : List Bool) (i : ℕ) → length xs ≡ length ys → ((j : ℕ) → j < length xs → get_or ys j true ≡ true → get_or xs j true ≡ true)
    → i < length xs → get_or xs i true ≡ true → get_or ys i true ≡ false → missing xs < missing ys
missing-fewer [] ys i e h l p q = absurd (omega arith)
missing-fewer (x ∷ xs) [] i e h l p q = absurd (omega arith)
missing-fewer (true ∷ xs) (true ∷ ys) zero e h l p q = absurd cc
missing-fewer (true ∷ xs) (false ∷ ys) zero e h l p q = omega (arith, missing-more xs ys (omega arith) (λ j l. h (suc j) (omega arith)))
missing-fewer (false ∷ xs) (y ∷ ys) zero e h l p q = absurd cc
missing-fewer (true ∷ xs) (true ∷ ys) (suc i) e h l p q = missing-fewer xs ys i (omega arith) (λ j l. h (suc j) (omega arith)) (omega arith) p q
missing-fewer (true ∷ xs) (false ∷ ys) (suc i) e h l p q = omega (arith, missing-fewer xs ys i (omega arith) (λ j l. h (suc j) (omega arith)) (omega arith) p q)
missing-fewer (false ∷ xs) (true ∷ ys) (suc i) e h l p q = absurd (both_ways false refl (h 0 (omega arith) refl))
missing-fewer (false ∷ xs) (false ∷ ys) (suc i) e h l p q = omega (arith, missing-fewer xs ys i (omega arith) (λ j l. h (suc j) (omega arith)) (omega arith) p q)

-- ---- the order

-- from the link's end less is reached than from its begin
pub hop-rises : (count : ℕ) (hops : List Hop) (i j m n : ℕ) → i < count → j < count → HasHop hops i j → (IsOnRing hops j → ⊥) → IsMissing count hops i m → IsMissing count hops j n → m < n
hop-rises count hops i j m n in_i in_j hop free (xs, p, e) (ys, q, f) =
    let size : length xs ≡ length ys = omega (arith, p.size, q.size) in
    let of : (k : ℕ) → k < length xs → get_or ys k true ≡ true → get_or xs k true ≡ true =
    λ k there is. (let ok : k < count = omega (arith, there, p.size) in let l = (q.is k ok).0 is in (p.is k ok).1 (j ∷ l.0, (hop, l.1))) in
    let own : get_or xs j true ≡ true = (p.is j in_j).1 ([], hop) in
    let other : get_or ys j true ≡ false = elim (get_or ys j true) as (λ b. get_or ys j true ≡ b → get_or ys j true ≡ false) [ true ↦ λ is. absurd (free ((q.is j in_j).0 is)) | false ↦ λ is. is ] refl in
    omega (arith, missing-fewer xs ys j size of (omega (arith, in_j, p.size)) own other, e, f)

-- ---- counting what is missing

pub missing-drop : (xs : List Bool) (i : ℕ) → i < length xs → missing (drop i xs) ≡ cond (get_or xs i true) (missing (drop (i + 1) xs)) (missing (drop (i + 1) xs) + 1)
missing-drop [] i h = absurd (omega arith)
missing-drop (true ∷ xs) zero h = refl
missing-drop (false ∷ xs) zero h = omega arith
missing-drop (x ∷ xs) (suc i) h = let e : suc i + 1 ≡ suc (i + 1) = omega arith in rw e (missing-drop xs i (omega arith))

-- ---- a link is taken

pub led-set : (hops : List Hop) (start : ℕ) (xs : List Bool) (k : ℕ) → k < length hops → AreLed hops start xs → (hop_at hops k).from < length xs → (hop_at hops k).to < length xs
    → ((hop_at hops k).from ≡ start) ⊎ (get_or xs (hop_at hops k).from true ≡ true) → AreLed hops start (set xs (hop_at hops k).to true)
led-set hops start xs k there led in_from in_to begins j h is =
    elim (cases_eq j (hop_at hops k).to) [
      | inl same ↦ elim begins [
        | inl own ↦ ([], (k, there, own, sym same))
        | inr reached ↦ leads-on hops start (hop_at hops k).from j (led (hop_at hops k).from in_from reached) (k, there, refl, sym same)
      ]
      | inr other ↦ led j (omega (arith, h, length-set xs (hop_at hops k).to true)) (sym (get_or-set_other xs (hop_at hops k).to j true true other) ∙ is)
    ]

-- ---- one more

pub below-more : (P : ℕ → Type 0) (n : ℕ) → ((k : ℕ) → k < n → P k) → P n → (k : ℕ) → k < n + 1 → P k
below-more P n h last k l = elim (cases_eq k n) [ inl same ↦ subst P (sym same) last | inr other ↦ h k (omega arith) ]

-- what a round keeps, where the link led to a new one and where it did not
pub led-new : (hops : List Hop) (start k : ℕ) (xs ys : List Bool) → k < length hops → AreNumbered (length xs) hops → AreLed hops start xs → ys ≡ set xs (hop_at hops k).to true
    → ((hop_at hops k).from ≡ start) ⊎ (get_or xs (hop_at hops k).from true ≡ true) → AreLed hops start ys
led-new hops start k xs ys there numbered led is begins =
    let P : List Bool → Type 0 = λ z. AreLed hops start z in
    subst P (sym is) (led-set hops start xs k there led (numbered k there).0 (numbered k there).1 begins)

pub missing-new : (xs ys : List Bool) (i : ℕ) → i < length xs → ys ≡ set xs i true → get_or xs i true ≡ false → missing ys + 1 ≡ missing xs
missing-new xs ys i there is free = ap (λ z. missing z + 1) is ∙ missing-set xs i there free

-- the reached of one that is on no ring, and of one that is
pub placed-is : (count : ℕ) (hops : List Hop) (i n : ℕ) (xs : List Bool) → AreReached count hops i xs → i < count → missing xs ≡ n → get_or xs i true ≡ false → IsMissing count hops i n × (IsOnRing hops i → ⊥)
placed-is count hops i n xs r there m free = ((xs, r, m), λ ring. both_ways (get_or xs i true) free ((r.is i there).1 ring))

pub ring-is : (count : ℕ) (hops : List Hop) (i : ℕ) (xs : List Bool) (e : OrderError) → AreReached count hops i xs → i < count → IsThere xs i e → IsRingOf hops i e
ring-is count hops i xs (Ring j) r there h = (h.0, (r.is i there).0 h.1)
ring-is count hops i xs (Memory e) r there h = tt

-- the first that is on a ring
pub first-ring : (count : ℕ) (hops : List Hop) (i : ℕ) (e : OrderError) → i < count → ((k : ℕ) → k < i → IsOnRing hops k → ⊥) → IsRingOf hops i e → IsRingFault count hops e
first-ring count hops i (Ring j) there free h =
    let P : ℕ → Type 0 = λ j. IsFirstOnRing count hops j in
    subst P (sym h.0) (record { there = there; ring = h.1; first = free })
first-ring count hops i (Memory e) there free h = tt

-- no more are missing than there are
pub missing-few : (count : ℕ) (hops : List Hop) (places : List ℕ) → length places ≡ count → ((k : ℕ) → k < count → IsMissing count hops k (get_or places k 0)) → (i : ℕ) → get_or places i 0 ≤ count
missing-few count hops places size h i = elim (cases_lt i count) [
  | inl there ↦ (let m = h i there in omega (arith, missing-le m.0, m.1.size, m.2))
  | inr past ↦ omega (arith, get_or_past places i 0 (omega (arith, size, past)))
]
