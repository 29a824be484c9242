-- Of the gaps round a frame: two entries that pass are at least the least gap apart, and each has a later one at most the greatest gap away.
use Rattle.std.proofs.Common.{◌≡◌, ℕ, ◌+◌, ◌-◌, ◌*◌, ◌/◌, ◌%◌, ◌<◌, ◌≤◌, zero, suc, Bool, true, false, List, [], ◌∷◌, length, get_or, drop, refl, ap, sym, ◌∙◌, arith, ◌⊎◌, inl, inr, length-drop}
use Rattle.std.proofs.Math.Nat.{mod-lt, div-add-mod', div-mul-le_self, mul-le-mul_right}
use Rattle.std.proofs.lemmas.Bool.{cases_lt}
use Rattle.std.proofs.lemmas.List.{get_or-drop}
use Rattle.dc_bound.specs.lemmas.Counts.{ceil_from, at_mod, at_div}
use Rattle.dc_bound.specs.Frame.{due_of_entry, IsFrame}
use Rattle.dc_transmit.specs.Gaps.{first_off, gaps_to, gaps, least_of, greatest_of, greatest_gap}

passes_cases : (b : Bool) → (b ≡ true) ⊎ (b ≡ false)
passes_cases true = inl refl
passes_cases false = inr refl

module _ {E : Type 0} (off : E → ℕ) (passes : E → Bool) (z : E) where
  none_front : (e : E) (es : List E) → passes e ≡ false → ((k : ℕ) → k < length es → passes (get_or es k z) ≡ false) → (k : ℕ) → k < suc (length es) → passes (get_or (e ∷ es) k z) ≡ false
  none_front e es f b zero h = f
  none_front e es f b (suc k) h = b k (omega arith)

  -- the first entry that passes, if one does
  pub first_cases : (es : List E) (d : ℕ) →
      ((first_off off passes es d ≡ d) × ((k : ℕ) → k < length es → passes (get_or es k z) ≡ false))
      ⊎ ((p : ℕ) × (p < length es) × (passes (get_or es p z) ≡ true) × (first_off off passes es d ≡ off (get_or es p z)))
  first_cases [] d = inl (refl, λ k h. absurd (omega arith))
  first_cases (e ∷ es) d =
      elim (passes_cases (passes e)) [
        | inl t ↦ inr (0, omega arith, t, rw t refl)
        | inr f ↦ elim (first_cases es d) [
          | inl (a, b) ↦ inl (rw f a, λ k h. none_front e es f b k h)
          | inr (p, l, t, a) ↦ inr (suc p, omega arith, t, rw f a)
        ]
      ]

  -- the first entry that passes is at most any that passes, where offsets ascend
  pub first_le : (es : List E) → ((i j : ℕ) → i < j → j < length es → off (get_or es i z) < off (get_or es j z)) →
      (d j : ℕ) → j < length es → passes (get_or es j z) ≡ true → first_off off passes es d ≤ off (get_or es j z)
  first_le [] up d j h t = absurd (omega arith)
  first_le (e ∷ es) up d zero h t = rw t (omega arith)
  first_le (e ∷ es) up d (suc j) h t =
      elim (passes_cases (passes e)) [
        | inl y ↦ rw y (omega (arith, up 0 (suc j) (omega arith) h))
        | inr n ↦ rw n (first_le es (λ i k a b. up (suc i) (suc k) (omega arith) (omega arith)) d j (omega arith) t)
      ]

  -- the gap after an entry lies between the least and the greatest
  pub least_le : (most d : ℕ) (es : List E) (k : ℕ) → k < length es → passes (get_or es k z) ≡ true →
      least_of most (gaps_to off passes d es) ≤ first_off off passes (drop (suc k) es) d - off (get_or es k z)
  least_le most d [] k h t = absurd (omega arith)
  least_le most d (e ∷ es) zero h t = rw t (omega arith)
  least_le most d (e ∷ es) (suc k) h t =
      let rest = least_le most d es k (omega arith) t in
      elim (passes_cases (passes e)) [ inl y ↦ rw y (omega (arith, rest)) | inr n ↦ rw n rest ]

  pub le_greatest : (d : ℕ) (es : List E) (k : ℕ) → k < length es → passes (get_or es k z) ≡ true →
      first_off off passes (drop (suc k) es) d - off (get_or es k z) ≤ greatest_of (gaps_to off passes d es)
  le_greatest d [] k h t = absurd (omega arith)
  le_greatest d (e ∷ es) zero h t = rw t (omega arith)
  le_greatest d (e ∷ es) (suc k) h t =
      let rest = le_greatest d es k (omega arith) t in
      elim (passes_cases (passes e)) [ inl y ↦ rw y (omega (arith, rest)) | inr n ↦ rw n rest ]

  -- the gap after the last one is over d less the frame
  last_gap : (frame d : ℕ) → frame ≤ d → (es : List E) → ((i : ℕ) → i < length es → off (get_or es i z) < frame) →
      (k : ℕ) → k < length es → passes (get_or es k z) ≡ true → d < greatest_of (gaps_to off passes d es) + frame
  last_gap frame d far [] low k h t = absurd (omega arith)
  last_gap frame d far (e ∷ es) low zero h t =
      elim (first_cases es d) [
        | inl (a, b) ↦ rw t (omega (arith, a, low 0 (omega arith)))
        | inr (p, l, y, a) ↦
            let rest = last_gap frame d far es (λ i q. low (suc i) (omega arith)) p l y in
            rw t (omega (arith, rest))
      ]
  last_gap frame d far (e ∷ es) low (suc k) h t =
      let rest = last_gap frame d far es (λ i q. low (suc i) (omega arith)) k (omega arith) t in
      elim (passes_cases (passes e)) [ inl y ↦ rw y (omega (arith, rest)) | inr n ↦ rw n rest ]

  module _ (frame : ℕ) (es : List E) (f : IsFrame off z frame es) where
    -- whether entry number n passes
    abbrev pub passes_at : ℕ → Bool
    passes_at n = passes (get_or es (n % length es) z)

    -- entry number q * m + r of frames of m entries
    due_at_place : (q r : ℕ) → r < length es → due_of_entry off z frame es (q * length es + r) ≡ q * frame + off (get_or es r z)
    due_at_place q r h = omega (arith, ap (λ x. x * frame) (at_div (length es) q r h), ap (λ x. off (get_or es x z)) (at_mod (length es) q r h))

    passes_at_place : (q r : ℕ) → r < length es → passes (get_or es r z) ≡ true → passes_at (q * length es + r) ≡ true
    passes_at_place q r h t = ap (λ x. passes (get_or es x z)) (at_mod (length es) q r h) ∙ t

    -- in the rest of the frame after place r
    rest_ascend : (r : ℕ) → (i j : ℕ) → i < j → j < length (drop (suc r) es) → off (get_or (drop (suc r) es) i z) < off (get_or (drop (suc r) es) j z)
    rest_ascend r i j h l =
        omega (arith, ap off (get_or-drop (suc r) es i z), ap off (get_or-drop (suc r) es j z), f.ascend (suc r + i) (suc r + j) (omega arith) (omega (arith, length-drop (suc r) es)))

    -- where the entry after place r stands: past place r, and at most a frame past the first one
    pub next_after : (r : ℕ) → r < length es → passes (get_or es r z) ≡ true →
        (off (get_or es r z) ≤ first_off off passes (drop (suc r) es) (frame + first_off off passes es 0))
        × (first_off off passes (drop (suc r) es) (frame + first_off off passes es 0) ≤ frame + first_off off passes es 0)
    next_after r h t =
        elim (first_cases (drop (suc r) es) (frame + first_off off passes es 0)) [
          | inl (a, b) ↦ (omega (arith, a, f.below r h), omega (arith, a))
          | inr (p, l, y, a) ↦
              let inside : suc r + p < length es = omega (arith, length-drop (suc r) es) in
              let there = ap off (get_or-drop (suc r) es p z) in
              (omega (arith, a, there, f.ascend r (suc r + p) (omega arith) inside), omega (arith, a, there, f.below (suc r + p) inside))
        ]

    -- two that pass are due at least the least gap apart
    pub least_apart : (most i j : ℕ) → i < j → passes_at i ≡ true → passes_at j ≡ true →
        due_of_entry off z frame es i + least_of most (gaps off passes frame es) ≤ due_of_entry off z frame es j
    unfolding gaps
    least_apart most i j h a b =
        let x : i % length es < length es = mod-lt i f.some in
        let y : j % length es < length es = mod-lt j f.some in
        let gap = least_le most (frame + first_off off passes es 0) es (i % length es) x a in
        let next = next_after (i % length es) x a in
        let front = first_le es f.ascend 0 (j % length es) y b in
        elim (cases_lt (i / length es) (j / length es)) [
          | inl l ↦
              let le : suc (i / length es) * frame ≤ j / length es * frame = mul-le-mul_right frame l in
              omega (arith, gap, next.0, next.1, front)
          | inr l ↦
              let up : i / length es ≤ j / length es = ceil_from (length es) (i / length es) j f.some (omega (arith, div-mul-le_self i (length es))) in
              let e : i / length es ≡ j / length es = omega arith in
              let same : i / length es * length es ≡ j / length es * length es = ap (λ q. q * length es) e in
              let rem : i % length es < j % length es = omega (arith, div-add-mod' i (length es), div-add-mod' j (length es)) in
              let k : ℕ = j % length es - suc (i % length es) in
              let back : suc (i % length es) + (j % length es - suc (i % length es)) ≡ j % length es = omega arith in
              let there : get_or (drop (suc (i % length es)) es) (j % length es - suc (i % length es)) z ≡ get_or es (j % length es) z =
              get_or-drop (suc (i % length es)) es (j % length es - suc (i % length es)) z ∙ ap (λ n. get_or es n z) back in
              let within = first_le (drop (suc (i % length es)) es) (rest_ascend (i % length es)) (frame + first_off off passes es 0) (j % length es - suc (i % length es))
              (omega (arith, length-drop (suc (i % length es)) es)) (ap passes there ∙ b) in
              omega (arith, gap, next.0, within, ap off there, ap (λ q. q * frame) e)
        ]

    -- one that passes is followed by another, due at most the greatest gap later
    pub greatest_apart : (i : ℕ) → passes_at i ≡ true →
        (j : ℕ) × (i < j) × (passes_at j ≡ true) × (due_of_entry off z frame es j ≤ due_of_entry off z frame es i + greatest_gap off passes frame es)
    unfolding gaps
    greatest_apart i a =
        let x : i % length es < length es = mod-lt i f.some in
        let back : i / length es * length es + i % length es ≡ i = div-add-mod' i (length es) in
        let gap = le_greatest (frame + first_off off passes es 0) es (i % length es) x a in
        elim (first_cases (drop (suc (i % length es)) es) (frame + first_off off passes es 0)) [
          | inl (e, none) ↦
              elim (first_cases es 0) [
                | inl (e', none') ↦ let no : passes (get_or es (i % length es) z) ≡ false = none' (i % length es) x in absurd (cc)
                | inr (p, l, y, g) ↦ (
                  suc (i / length es) * length es + p,
                  omega arith,
                  passes_at_place (suc (i / length es)) p l y,
                  omega (arith, due_at_place (suc (i / length es)) p l, gap, e, g),
                )
              ]
          | inr (p, l, y, e) ↦
              let inside : suc (i % length es) + p < length es = omega (arith, length-drop (suc (i % length es)) es) in
              let there : get_or (drop (suc (i % length es)) es) p z ≡ get_or es (suc (i % length es) + p) z = get_or-drop (suc (i % length es)) es p z in (
                i / length es * length es + (suc (i % length es) + p),
                omega arith,
                passes_at_place (i / length es) (suc (i % length es) + p) inside (sym (ap passes there) ∙ y),
                omega (arith, due_at_place (i / length es) (suc (i % length es) + p) inside, gap, e, ap off there),
              )
        ]

    -- the first that passes is due at the greatest gap or before it
    pub first_due : (k : ℕ) → k < length es → passes (get_or es k z) ≡ true →
        (j : ℕ) × (passes_at j ≡ true) × (due_of_entry off z frame es j ≤ greatest_gap off passes frame es)
    unfolding gaps
    first_due k h t =
        let over = last_gap frame (frame + first_off off passes es 0) (omega arith) es f.below k h t in
        elim (first_cases es 0) [
          | inl (e, none) ↦ let no : passes (get_or es k z) ≡ false = none k h in absurd (cc)
          | inr (p, l, y, g) ↦ (0 * length es + p, passes_at_place 0 p l y, omega (arith, due_at_place 0 p l, over, g))
        ]
