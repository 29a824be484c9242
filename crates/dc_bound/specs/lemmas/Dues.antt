-- How many entries of a frame that comes again and again are due by a tick.
use Rattle.std.proofs.Common.{◌≡◌, ℕ, ◌+◌, ◌*◌, ◌/◌, ◌%◌, ◌<◌, ◌≤◌, zero, suc, Bool, true, false, cond, List, [], ◌∷◌, length, get_or, refl, ap, ◌∙◌, arith, ◌⊎◌, inl, inr, ◌↔◌}
use Rattle.std.specs.Prelude.{nat_le}
use Rattle.std.specs.List.{count_by}
use Rattle.std.proofs.Math.Nat.{mod-lt, div-add-mod', div-mul-le_self, mul-le-mul_right}
use Rattle.std.proofs.lemmas.Bool.{cases_lt}
use Rattle.std.proofs.lemmas.Bool.Decides.{nat_tests}
use Rattle.std.proofs.lemmas.List.Sums.{count_by-le-length, sum_by-cons}
use Rattle.dc_bound.specs.Places.{count_below}
use Rattle.dc_bound.specs.lemmas.Counts.{ceil_from}
use Rattle.dc_bound.specs.Frame.{due_of_entry, IsFrame, due_so_far}

-- how many entries are due at a tick or before it, from the offsets: whole frames, and the part of the last
abbrev pub due_so_far_frames : {E : Type 0} → (E → ℕ) → ℕ → List E → ℕ → ℕ
due_so_far_frames off frame es tick = tick / frame * length es + count_by (λ e. nat_le (off e) (tick % frame)) es

-- `count` tells the number of entries due by each tick: entry n is among them where it is due
abbrev pub IsDueCount : (due count : ℕ → ℕ) → Type 0
IsDueCount due count = (n t : ℕ) → (n < count t) ↔ (due n ≤ t)

-- a count that tells the same of each entry is the same
pub same_count : (due a b : ℕ → ℕ) → IsDueCount due a → IsDueCount due b → (t : ℕ) → a t ≡ b t
same_count due a b f g t =
    elim (cases_lt (a t) (b t)) [
      | inl l ↦ absurd (omega (arith, (f (a t) t).1 ((g (a t) t).0 l)))
      | inr l ↦ elim (cases_lt (b t) (a t)) [
        | inl k ↦ absurd (omega (arith, (g (b t) t).1 ((f (b t) t).0 k)))
        | inr k ↦ omega arith
      ]
    ]

-- it grows
pub due_count_grows : (due count : ℕ → ℕ) → IsDueCount due count → (s t : ℕ) → s ≤ t → count s ≤ count t
due_count_grows due count f s t h =
    elim (cases_lt (count t) (count s)) [
      | inl l ↦ absurd (let here = (f (count t) s).0 l in omega (arith, (f (count t) t).1 (omega arith)))
      | inr l ↦ omega arith
    ]

le_test : (a b : ℕ) → ((nat_le a b ≡ true) × (a ≤ b)) ⊎ ((nat_le a b ≡ false) × (b < a))
le_test a b = grind (arith, nat_tests)

some_test : (b : Bool) → (b ≡ true) ⊎ (b ≡ false)
some_test true = inl refl
some_test false = inr refl

full : (p : ℕ → Bool) → ((i j : ℕ) → i < j → p j ≡ true → p i ≡ true) → (m n : ℕ) → m ≤ n → p n ≡ true → count_below p m ≡ m
full p down zero n h y = refl
full p down (suc m) n h y = rw (down m n (omega arith) y) (omega (arith, full p down m n (omega arith) y))

-- a test that holds below some number and not from it on
below_count : (p : ℕ → Bool) → ((i j : ℕ) → i < j → p j ≡ true → p i ≡ true) → (n k : ℕ) → (k < count_below p n) ↔ ((k < n) × (p k ≡ true))
below_count p down zero k = ((λ h. absurd (omega arith)), (λ h. absurd (omega (arith, h.0))))
below_count p down (suc n) k =
    let ih = below_count p down n k in
    elim (some_test (p n)) [
      | inl y ↦
          let all : count_below p n ≡ n = full p down n n (omega arith) y in
          rw y ((λ h. (omega arith, elim (cases_lt k n) [ inl l ↦ down k n l y | inr l ↦ let e : k ≡ n = omega arith in ap p e ∙ y ])), (λ h. omega (arith, h.0)))
      | inr y ↦ rw y ((λ h. let r = ih.0 (omega arith) in (omega (arith, r.0), r.1)), (λ h. elim (cases_lt k n) [ inl l ↦ omega (arith, ih.1 (l, h.1)) | inr l ↦ let e : k ≡ n = omega (arith, h.0) in let f : p k ≡ false = ap p e ∙ y in let g = h.1 in absurd (cc) ]))
    ]

-- ascending numbers are at least their places
pub ascending_ge : (due : ℕ → ℕ) → ((i j : ℕ) → i < j → due i < due j) → (n : ℕ) → n ≤ due n
ascending_ge due up zero = omega arith
ascending_ge due up (suc n) = omega (arith, ascending_ge due up n, up n (suc n) (omega arith))

-- by counting, where due ticks ascend
pub due_so_far-is : (due : ℕ → ℕ) → ((i j : ℕ) → i < j → due i < due j) → IsDueCount due (due_so_far due)
unfolding due_so_far
due_so_far-is due up n t =
    let p : ℕ → Bool = λ k. nat_le (due k) t in
    let below = below_count (λ k. nat_le (due k) t)
    (λ i j h y. elim (le_test (due i) t) [ inl w ↦ w.0 | inr w ↦ elim (le_test (due j) t) [ inl v ↦ absurd (omega (arith, up i j h)) | inr v ↦ let f = v.0 in absurd (cc) ] ]) (t + 1) n in (
      (λ h. let y = (below.0 h).1 in elim (le_test (due n) t) [ inl w ↦ w.1 | inr w ↦ let f = w.0 in absurd (cc) ]),
      (λ h. below.1 (omega (arith, ascending_ge due up n), elim (le_test (due n) t) [ inl w ↦ w.0 | inr w ↦ absurd (omega arith) ])),
    )

module _ {E : Type 0} (off : E → ℕ) (z : E) where
  count_yes : (r : ℕ) (e : E) (es : List E) → nat_le (off e) r ≡ true → count_by (λ x. nat_le (off x) r) (e ∷ es) ≡ 1 + count_by (λ x. nat_le (off x) r) es
  count_yes r e es h = sum_by-cons (λ x. cond (nat_le (off x) r) 1 0) e es ∙ ap (λ b. cond b 1 0 + count_by (λ x. nat_le (off x) r) es) h

  count_no : (r : ℕ) (e : E) (es : List E) → nat_le (off e) r ≡ false → count_by (λ x. nat_le (off x) r) (e ∷ es) ≡ 0 + count_by (λ x. nat_le (off x) r) es
  count_no r e es h = sum_by-cons (λ x. cond (nat_le (off x) r) 1 0) e es ∙ ap (λ b. cond b 1 0 + count_by (λ x. nat_le (off x) r) es) h

  -- in an ascending list as many are at most r as stand in front of the first one over it
  none_up_to : (es : List E) (r : ℕ) → ((i : ℕ) → i < length es → r < off (get_or es i z)) → count_by (λ x. nat_le (off x) r) es ≡ 0
  none_up_to [] r h = refl
  none_up_to (e ∷ es) r h =
      let rest = none_up_to es r (λ i l. h (suc i) (omega arith)) in
      elim (le_test (off e) r) [ inl w ↦ absurd (omega (arith, h 0 (omega arith))) | inr w ↦ omega (arith, rest, count_no r e es w.0) ]

  up_to : (es : List E) → ((i j : ℕ) → i < j → j < length es → off (get_or es i z) < off (get_or es j z)) →
      (r i : ℕ) → i < length es → (i < count_by (λ x. nat_le (off x) r) es) ↔ (off (get_or es i z) ≤ r)
  up_to [] up r i h = absurd (omega arith)
  up_to (e ∷ es) up r zero h =
      elim (le_test (off e) r) [
        | inl w ↦ ((λ k. w.1), (λ k. omega (arith, count_yes r e es w.0)))
        | inr w ↦
            let none = none_up_to es r (λ i l. omega (arith, up 0 (suc i) (omega arith) (omega arith))) in
            ((λ k. absurd (omega (arith, none, count_no r e es w.0))), (λ k. absurd (omega arith)))
      ]
  up_to (e ∷ es) up r (suc i) h =
      let rest = up_to es (λ a b c d. up (suc a) (suc b) (omega arith) (omega arith)) r i (omega arith) in
      elim (le_test (off e) r) [
        | inl w ↦ ((λ k. rest.0 (omega (arith, count_yes r e es w.0))), (λ k. omega (arith, rest.1 k, count_yes r e es w.0)))
        | inr w ↦
            let none = none_up_to es r (λ a l. omega (arith, up 0 (suc a) (omega arith) (omega arith))) in
            ((λ k. absurd (omega (arith, none, count_no r e es w.0))), (λ k. absurd (omega (arith, up 0 (suc i) (omega arith) h))))
      ]

  module _ (frame : ℕ) (es : List E) (f : IsFrame off z frame es) where
    -- due ticks ascend
    pub due_in_ascends : (i j : ℕ) → i < j → due_of_entry off z frame es i < due_of_entry off z frame es j
    due_in_ascends i j h =
        let a : i % length es < length es = mod-lt i f.some in
        let b : j % length es < length es = mod-lt j f.some in
        elim (cases_lt (i / length es) (j / length es)) [
          | inl l ↦
              let le : suc (i / length es) * frame ≤ j / length es * frame = mul-le-mul_right frame l in
              omega (arith, f.below (i % length es) a)
          | inr l ↦
              let up : i / length es ≤ j / length es = ceil_from (length es) (i / length es) j f.some (omega (arith, div-mul-le_self i (length es))) in
              let e : i / length es ≡ j / length es = omega arith in
              let same : i / length es * length es ≡ j / length es * length es = ap (λ q. q * length es) e in
              let rem : i % length es < j % length es = omega (arith, div-add-mod' i (length es), div-add-mod' j (length es)) in
              omega (arith, ap (λ q. q * frame) e, f.ascend (i % length es) (j % length es) rem b)
        ]

    -- by frames
    pub due_so_far_frames-is : IsDueCount (due_of_entry off z frame es) (due_so_far_frames off frame es)
    due_so_far_frames-is n t =
        let a : n % length es < length es = mod-lt n f.some in
        let few : count_by (λ e. nat_le (off e) (t % frame)) es ≤ length es = count_by-le-length (λ e. nat_le (off e) (t % frame)) es in
        let wide : 0 < frame = omega (arith, f.below 0 f.some) in
        let b : t % frame < frame = mod-lt t wide in
        let part = up_to es f.ascend (t % frame) (n % length es) a in
        let low = f.below (n % length es) a in
        let n-is : n / length es * length es + n % length es ≡ n = div-add-mod' n (length es) in
        let t-is : t / frame * frame + t % frame ≡ t = div-add-mod' t frame in
        elim (cases_lt (n / length es) (t / frame)) [
          | inl l ↦
              let le : suc (n / length es) * frame ≤ t / frame * frame = mul-le-mul_right frame l in
              let le' : suc (n / length es) * length es ≤ t / frame * length es = mul-le-mul_right (length es) l in
              ((λ h. omega arith), (λ h. omega arith))
          | inr l ↦ elim (cases_lt (t / frame) (n / length es)) [
            | inl k ↦
                let le : suc (t / frame) * frame ≤ n / length es * frame = mul-le-mul_right frame k in
                let le' : suc (t / frame) * length es ≤ n / length es * length es = mul-le-mul_right (length es) k in
                ((λ h. absurd (omega arith)), (λ h. absurd (omega arith)))
            | inr k ↦
                let e : n / length es ≡ t / frame = omega arith in
                let same : n / length es * frame ≡ t / frame * frame = ap (λ q. q * frame) e in
                let same' : n / length es * length es ≡ t / frame * length es = ap (λ q. q * length es) e in
                ((λ h. let r = part.0 (omega arith) in omega arith), (λ h. let r = part.1 (omega arith) in omega arith))
          ]
        ]

    -- both counts are one
    pub due_so_far-frames : (t : ℕ) → due_so_far (due_of_entry off z frame es) t ≡ due_so_far_frames off frame es t
    due_so_far-frames t = same_count (due_of_entry off z frame es) (due_so_far (due_of_entry off z frame es)) (due_so_far_frames off frame es) (due_so_far-is (due_of_entry off z frame es) due_in_ascends) due_so_far_frames-is t
