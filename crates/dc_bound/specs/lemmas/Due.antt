-- Entries that are due at fixed offsets in each frame.
use Rattle.std.proofs.Common.{◌≡◌, ℕ, zero, suc, ◌+◌, ◌*◌, ◌/◌, ◌%◌, ◌≤◌, ◌<◌, ◌⊎◌, List, [], ◌∷◌, length, get_or, refl, sym, ap, ◌∙◌, arith, inl, inr}
use Rattle.std.proofs.Math.Nat.{div-mul-le_self, div-add-mod', mod-lt, mul-le-mul_right, mul-add-mod_self_right, mod-eq_of_lt}
use Rattle.std.proofs.lemmas.Bool.{cases_lt}
use Rattle.dc_bound.specs.Window.{count_in, ticks_of}
use Rattle.dc_bound.specs.lemmas.Counts.{one_in_cases, ceil_from, count_in-zero}
use Rattle.dc_bound.specs.lemmas.Budget.{count_in_sum}
use Rattle.dc_bound.specs.Rounds.{among, most_among}
use Rattle.dc_bound.specs.lemmas.Cycle.{most_holds}
use Rattle.dc_bound.specs.Frame.{due, IsDue, entries_at, Offsets}

pub one_some : (ts : List ℕ) (t k : ℕ) → k < length ts → get_or ts k 0 ≡ t → 1 ≤ count_in t 1 ts
unfolding count_in
one_some [] t k h e = absurd (omega arith)
one_some (x ∷ ts) t zero h e = elim (one_in_cases t 1 x) [ inl w ↦ omega arith | inr v ↦ elim v [ inl w ↦ absurd (omega arith) | inr w ↦ absurd (omega arith) ] ]
one_some (x ∷ ts) t (suc k) h e = omega (arith, one_some ts t k (omega arith) e)

pub none_or_at : (ts : List ℕ) (t : ℕ) → (count_in t 1 ts ≡ 0) ⊎ ((k : ℕ) × (k < length ts) × (get_or ts k 0 ≡ t))
unfolding count_in
none_or_at [] t = inl refl
none_or_at (x ∷ ts) t =
    elim (one_in_cases t 1 x) [
      | inl w ↦ inr (0, omega arith, omega arith)
      | inr v ↦ elim (none_or_at ts t) [
        | inl e ↦ elim v [ inl w ↦ inl (omega arith) | inr w ↦ inl (omega arith) ]
        | inr (k, h, e) ↦ inr (suc k, omega arith, e)
      ]
    ]

pub ascend_one : (ts : List ℕ) (t : ℕ) → ((i j : ℕ) → i < j → j < length ts → get_or ts i 0 < get_or ts j 0) → count_in t 1 ts ≤ 1
unfolding count_in
ascend_one [] t h = omega arith
ascend_one (x ∷ ts) t h =
    let rest = ascend_one ts t (λ i j k l. h (suc i) (suc j) (omega arith) (omega arith)) in
    elim (one_in_cases t 1 x) [
      | inl w ↦ elim (none_or_at ts t) [
        | inl e ↦ omega arith
        | inr (k, l, e) ↦ absurd (omega (arith, h 0 (suc k) (omega arith) (omega arith)))
      ]
      | inr v ↦ elim v [ inl w ↦ omega arith | inr w ↦ omega arith ]
    ]

module _ (frame : ℕ) (offsets : List ℕ) (o : Offsets frame offsets) where
  pub due_mod : (n : ℕ) → due frame offsets n % frame ≡ get_or offsets (n % length offsets) 0
  due_mod n =
      let small : n % length offsets < length offsets = mod-lt n o.some in
      mul-add-mod_self_right (n / length offsets) frame (get_or offsets (n % length offsets) 0) ∙ mod-eq_of_lt (o.below (n % length offsets) small)

  pub due_ascend : (i j : ℕ) → i < j → due frame offsets i < due frame offsets j
  due_ascend i j h =
      let a : i % length offsets < length offsets = mod-lt i o.some in
      let b : j % length offsets < length offsets = mod-lt j o.some in
      elim (cases_lt (i / length offsets) (j / length offsets)) [
        | inl l ↦
            let le : suc (i / length offsets) * frame ≤ j / length offsets * frame = mul-le-mul_right frame l in
            omega (arith, o.below (i % length offsets) a)
        | inr l ↦
            let up : i / length offsets ≤ j / length offsets = ceil_from (length offsets) (i / length offsets) j o.some (omega (arith, div-mul-le_self i (length offsets))) in
            let e : i / length offsets ≡ j / length offsets = omega arith in
            let same : i / length offsets * length offsets ≡ j / length offsets * length offsets = ap (λ q. q * length offsets) e in
            let rem : i % length offsets < j % length offsets = omega (arith, div-add-mod' i (length offsets), div-add-mod' j (length offsets)) in
            omega (arith, ap (λ q. q * frame) e, o.ascend (i % length offsets) (j % length offsets) rem b)
      ]

  pub due_each : (xs : List (ℕ × ℕ)) → IsDue frame offsets xs → (t : ℕ) → count_in t 1 (ticks_of xs) ≤ entries_at offsets (t % frame)
  due_each xs h t =
      elim (none_or_at (ticks_of xs) t) [
        | inl e ↦ omega arith
        | inr (k, l, e) ↦
            let most = ascend_one (ticks_of xs) t (λ i j p q. omega (arith, h i (omega arith), h j q, due_ascend i j p)) in
            let at : get_or offsets (k % length offsets) 0 ≡ t % frame = sym (due_mod k) ∙ ap (λ x. x % frame) (sym (h k l) ∙ e) in
            omega (arith, most, one_some offsets (t % frame) (k % length offsets) (mod-lt k o.some) at)
      ]

  pub due_window : (xs : List (ℕ × ℕ)) → IsDue frame offsets xs → (u d : ℕ) → count_in u d (ticks_of xs) ≤ among (λ i. entries_at offsets i) frame u d
  unfolding among
  due_window xs h u zero = omega (arith, count_in-zero u (ticks_of xs))
  due_window xs h u (suc d) =
      let e : d + 1 ≡ suc d = omega arith in
      omega (arith, ap (λ x. count_in u x (ticks_of xs)) e, count_in_sum u d 1 (ticks_of xs), due_window xs h u d, due_each xs h (u + d))

  pub due_most : 1 ≤ frame → (xs : List (ℕ × ℕ)) → IsDue frame offsets xs → (u d : ℕ) → count_in u d (ticks_of xs) ≤ most_among (λ i. entries_at offsets i) frame d
  due_most f xs h u d = omega (arith, due_window xs h u d, most_holds (λ i. entries_at offsets i) frame f u d)
