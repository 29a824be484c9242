-- Spans of neighbouring entries, and the greatest number of entries due in d consecutive ticks.
use Rattle.std.proofs.Common.{◌≡◌, ℕ, ◌+◌, ◌-◌, ◌*◌, ◌/◌, ◌%◌, ◌^◌, ◌<◌, ◌≤◌, zero, suc, min, cond, List, [], ◌∷◌, ◌++◌, length, get_or, refl, ap, sym, ◌∙◌, arith, inl, inr, ◌↔◌, length-append}
use Rattle.std.specs.Prelude.{nat_le}
use Rattle.std.specs.List.{count_by}
use Rattle.std.proofs.Math.Nat.{mod-lt, div-add-mod'}
use Rattle.std.proofs.lemmas.Bool.{cases_lt}
use Rattle.std.proofs.lemmas.Bool.Decides.{nat_tests}
use Rattle.std.proofs.lemmas.List.{get_or_append_left}
use Rattle.std.proofs.lemmas.List.Sums.{sum_by-cons}
use Rattle.dc_bound.specs.Window.{count_in, ticks_of, one_in}
use Rattle.dc_bound.specs.lemmas.Steps.{ticks_of-append}
use Rattle.dc_bound.specs.lemmas.Counts.{at_mod, at_div}
use Rattle.dc_bound.specs.Rounds.{among, greatest_to}
use Rattle.dc_bound.specs.lemmas.Cycle.{most_holds, most_mono}
use Rattle.dc_bound.specs.Frame.{due, IsDue, entries_at, Offsets, IsLeastSpan}
use Rattle.dc_bound.specs.lemmas.Due.{due_ascend, due_most}
use Rattle.dc_bound.specs.Frame.{IsFrame}
use Rattle.dc_bound.specs.lemmas.Dues.{IsDueCount, due_so_far_frames, due_so_far_frames-is}
use Rattle.dc_bound.specs.Frame.{cyclic_cap}

-- ---- one more tick

-- how many offsets are at most r
abbrev up_to : ℕ → List ℕ → ℕ
up_to r xs = count_by (λ x. nat_le x r) xs

up_to-cons : (r x : ℕ) (xs : List ℕ) → up_to r (x ∷ xs) ≡ cond (nat_le x r) 1 0 + up_to r xs
up_to-cons r x xs = sum_by-cons (λ y. cond (nat_le y r) 1 0) x xs

at_next : (x r : ℕ) → cond (nat_le x (suc r)) 1 0 ≡ cond (nat_le x r) 1 0 + one_in (suc r) 1 x
at_next x r = grind (arith, nat_tests)

at_zero : (x : ℕ) → cond {A = ℕ} (nat_le x 0) 1 0 ≡ one_in 0 1 x
at_zero x = grind (arith, nat_tests)

at_small : (x r : ℕ) → x ≤ r → cond {A = ℕ} (nat_le x r) 1 0 ≡ 1
at_small x r h = grind (arith, nat_tests)

up_to-next : (r : ℕ) (xs : List ℕ) → up_to (suc r) xs ≡ up_to r xs + count_in (suc r) 1 xs
unfolding count_in
up_to-next r [] = refl
up_to-next r (x ∷ xs) = omega (arith, up_to-next r xs, up_to-cons (suc r) x xs, up_to-cons r x xs, at_next x r)

up_to-zero : (xs : List ℕ) → up_to 0 xs ≡ count_in 0 1 xs
unfolding count_in
up_to-zero [] = refl
up_to-zero (x ∷ xs) = omega (arith, up_to-zero xs, up_to-cons 0 x xs, at_zero x)

up_to-all : (r : ℕ) (xs : List ℕ) → ((i : ℕ) → i < length xs → get_or xs i 0 ≤ r) → up_to r xs ≡ length xs
up_to-all r [] h = refl
up_to-all r (x ∷ xs) h = omega (arith, up_to-cons r x xs, up_to-all r xs (λ i l. h (suc i) (omega arith)), at_small x r (h 0 (omega arith)))

greatest_at : (n : ℕ) (f : ℕ → ℕ) → (j : ℕ) × (j ≤ n) × (f j ≡ greatest_to n f)
unfolding greatest_to
greatest_at zero f = (0, omega arith, refl)
greatest_at (suc n) f =
    let r = greatest_at n f in
    elim (cases_lt (greatest_to n f) (f (suc n))) [
      | inl l ↦ (suc n, omega arith, omega arith)
      | inr l ↦ (r.0, omega (arith, r.1), omega (arith, r.2))
    ]

-- k + 1 entries, one after another, are due within d ticks
abbrev pub HasSpan : (frame : ℕ) (offsets : List ℕ) (k d : ℕ) → Type 0
HasSpan frame offsets k d = (i : ℕ) × (due frame offsets (i + k) < due frame offsets i + d)

-- among the entries below j: `best` of them lie within d ticks where best is not 0, and no best + 1 of them do
pub record IsBest (frame : ℕ) (offsets : List ℕ) (d j best : ℕ) : Type 0 where
  pub within_j : best ≤ j
  pub has : (k : ℕ) → k < best → HasSpan frame offsets k d
  pub no_more : (i : ℕ) → i + best < j → due frame offsets i + d ≤ due frame offsets (i + best)

-- an entry of the first frame
pub due_early : (frame : ℕ) (offsets : List ℕ) (n : ℕ) → n < length offsets → due frame offsets n ≡ get_or offsets n 0
due_early frame offsets n h =
    let place : 0 * length offsets + n ≡ n = omega arith in
    let round : n / length offsets ≡ 0 = ap (λ x. x / length offsets) (sym place) ∙ at_div (length offsets) 0 n h in
    let here : n % length offsets ≡ n = ap (λ x. x % length offsets) (sym place) ∙ at_mod (length offsets) 0 n h in
    omega (arith, ap (λ x. x * frame) round, ap (λ x. get_or offsets x 0) here)

-- an entry of the second
pub due_late : (frame : ℕ) (offsets : List ℕ) (n : ℕ) → length offsets ≤ n → n < 2 * length offsets → due frame offsets n ≡ frame + get_or offsets (n - length offsets) 0
due_late frame offsets n h l =
    let place : 1 * length offsets + (n - length offsets) ≡ n = omega arith in
    let part : n - length offsets < length offsets = omega arith in
    let round : n / length offsets ≡ 1 = ap (λ x. x / length offsets) (sym place) ∙ at_div (length offsets) 1 (n - length offsets) part in
    let here : n % length offsets ≡ n - length offsets = ap (λ x. x % length offsets) (sym place) ∙ at_mod (length offsets) 1 (n - length offsets) part in
    omega (arith, ap (λ x. x * frame) round, ap (λ x. get_or offsets x 0) here)

module _ (frame : ℕ) (offsets : List ℕ) (o : Offsets frame offsets) where
  some : 0 < frame
  some = omega (arith, o.below 0 o.some)

  is_frame : IsFrame (λ x. x) 0 frame offsets
  is_frame = record { some = o.some; ascend = o.ascend; below = o.below }

  -- how many are due at a tick or before it
  count : ℕ → ℕ
  count t = due_so_far_frames (λ (x : ℕ). x) frame offsets t

  counted : IsDueCount (due frame offsets) count
  unfolding count
  counted = due_so_far_frames-is (λ x. x) 0 frame offsets is_frame

  count-zero : count 0 ≡ entries_at offsets (0 % frame)
  unfolding count
  count-zero =
      let place : 0 * frame + 0 ≡ 0 = omega arith in
      let none : 0 % frame ≡ 0 = ap (λ x. x % frame) (sym place) ∙ at_mod frame 0 0 some in
      let first : 0 / frame ≡ 0 = ap (λ x. x / frame) (sym place) ∙ at_div frame 0 0 some in
      omega (arith, ap (λ x. x * length offsets) first, ap (λ x. up_to x offsets) none, ap (λ x. entries_at offsets x) none, up_to-zero offsets)

  count-next : (t : ℕ) → count (suc t) ≡ count t + entries_at offsets (suc t % frame)
  unfolding count
  count-next t =
      let rest : t % frame < frame = mod-lt t some in
      let back : t / frame * frame + t % frame ≡ t = div-add-mod' t frame in
      elim (cases_lt (suc (t % frame)) frame) [
        | inl l ↦
            let place : t / frame * frame + suc (t % frame) ≡ suc t = omega arith in
            let here : suc t % frame ≡ suc (t % frame) = ap (λ x. x % frame) (sym place) ∙ at_mod frame (t / frame) (suc (t % frame)) l in
            let round : suc t / frame ≡ t / frame = ap (λ x. x / frame) (sym place) ∙ at_div frame (t / frame) (suc (t % frame)) l in
            omega (arith, ap (λ x. x * length offsets) round, ap (λ x. up_to x offsets) here, ap (λ x. entries_at offsets x) here, up_to-next (t % frame) offsets)
        | inr l ↦
            let place : suc (t / frame) * frame + 0 ≡ suc t = omega arith in
            let here : suc t % frame ≡ 0 = ap (λ x. x % frame) (sym place) ∙ at_mod frame (suc (t / frame)) 0 some in
            let round : suc t / frame ≡ suc (t / frame) = ap (λ x. x / frame) (sym place) ∙ at_div frame (suc (t / frame)) 0 some in
            let all = up_to-all (t % frame) offsets (λ i k. omega (arith, o.below i k)) in
            omega (arith, ap (λ x. x * length offsets) round, ap (λ x. up_to x offsets) here, ap (λ x. entries_at offsets x) here, up_to-zero offsets, all)
      ]

  -- how many are due before a tick
  before : ℕ → ℕ
  before zero = 0
  before (suc t) = count t

  before-next : (t : ℕ) → before (suc t) ≡ before t + entries_at offsets (t % frame)
  unfolding before
  before-next zero = omega (arith, count-zero)
  before-next (suc t) = count-next t

  among_before : (n d : ℕ) → among (λ i. entries_at offsets i) frame n d + before n ≡ before (n + d)
  unfolding among
  among_before n zero = let e : n + 0 ≡ n = omega arith in omega (arith, ap before e)
  among_before n (suc d) =
      let e : n + suc d ≡ suc (n + d) = omega arith in
      omega (arith, among_before n d, before-next (n + d), ap before e)

  before_is : (k t : ℕ) → (k < before t) ↔ (due frame offsets k < t)
  unfolding before
  before_is k zero = ((λ h. absurd (omega arith)), (λ h. absurd (omega arith)))
  before_is k (suc t) = ((λ h. omega (arith, (counted k t).0 h)), (λ h. (counted k t).1 (omega arith)))

  -- more than k entries are due in some d ticks, where some k + 1 of them lie so near
  pub cap-span : (k d : ℕ) → (k < cyclic_cap frame offsets d) ↔ HasSpan frame offsets k d
  cap-span k d = (
    (λ h.
        let at = greatest_at (frame - 1) (λ n. among (λ i. entries_at offsets i) frame n d) in
        let many : k < among (λ i. entries_at offsets i) frame at.0 d = omega (arith, at.2) in
        let last = (before_is (before at.0 + k) (at.0 + d)).0 (omega (arith, among_before at.0 d)) in
        let first : at.0 ≤ due frame offsets (before at.0) = elim (cases_lt (due frame offsets (before at.0)) at.0) [ inl l ↦ absurd (let bad = (before_is (before at.0) at.0).1 l in omega (arith, bad)) | inr l ↦ omega arith ] in
        (before at.0, omega arith)),
    (λ h.
        let n : ℕ = due frame offsets h.0 in
        let first : before (due frame offsets h.0) ≤ h.0 = elim (cases_lt h.0 (before (due frame offsets h.0))) [ inl l ↦ absurd (let bad = (before_is h.0 (due frame offsets h.0)).0 l in omega (arith, bad)) | inr l ↦ omega arith ] in
        let last = (before_is (h.0 + k) (due frame offsets h.0 + d)).1 h.1 in
        omega (arith, among_before (due frame offsets h.0) d, most_holds (λ i. entries_at offsets i) frame some (due frame offsets h.0) d)),
  )

  -- entries come again a frame later
  pub due-shift : (q n : ℕ) → due frame offsets (q * length offsets + n) ≡ q * frame + due frame offsets n
  due-shift q n =
      let small : n % length offsets < length offsets = mod-lt n o.some in
      let back : n / length offsets * length offsets + n % length offsets ≡ n = div-add-mod' n (length offsets) in
      let place : (q + n / length offsets) * length offsets + n % length offsets ≡ q * length offsets + n = omega arith in
      let here : (q * length offsets + n) % length offsets ≡ n % length offsets = ap (λ x. x % length offsets) (sym place) ∙ at_mod (length offsets) (q + n / length offsets) (n % length offsets) small in
      let round : (q * length offsets + n) / length offsets ≡ q + n / length offsets = ap (λ x. x / length offsets) (sym place) ∙ at_div (length offsets) (q + n / length offsets) (n % length offsets) small in
      omega (arith, ap (λ x. x * frame) round, ap (λ x. get_or offsets x 0) here)

  -- the first of them may stand in the first frame
  pub span_front : (k d : ℕ) → HasSpan frame offsets k d → (i : ℕ) × (i < length offsets) × (due frame offsets (i + k) < due frame offsets i + d)
  span_front k d h =
      let small : h.0 % length offsets < length offsets = mod-lt h.0 o.some in
      let back : h.0 / length offsets * length offsets + h.0 % length offsets ≡ h.0 = div-add-mod' h.0 (length offsets) in
      let back' : h.0 / length offsets * length offsets + (h.0 % length offsets + k) ≡ h.0 + k = omega arith in (
        h.0 % length offsets,
        small,
        omega (
          arith,
          h.1,
          ap (λ n. due frame offsets n) back,
          ap (λ n. due frame offsets n) back',
          due-shift (h.0 / length offsets) (h.0 % length offsets),
          due-shift (h.0 / length offsets) (h.0 % length offsets + k),
        ),
      )

  -- due ticks never fall
  pub due-grows : (i j : ℕ) → i ≤ j → due frame offsets i ≤ due frame offsets j
  due-grows i j h =
      elim (cases_lt i j) [
        | inl l ↦ omega (arith, due_ascend frame offsets o i j l)
        | inr l ↦ let e : i ≡ j = omega arith in omega (arith, ap (λ n. due frame offsets n) e)
      ]

  -- a number that tells the same of each span is the cap
  pub cap_is : (b d : ℕ) → ((k : ℕ) → (k < b) ↔ HasSpan frame offsets k d) → b ≡ cyclic_cap frame offsets d
  cap_is b d h =
      elim (cases_lt b (cyclic_cap frame offsets d)) [
        | inl l ↦ absurd (omega (arith, (h b).1 ((cap-span b d).0 l)))
        | inr l ↦ elim (cases_lt (cyclic_cap frame offsets d) b) [
          | inl m ↦ absurd (omega (arith, (cap-span (cyclic_cap frame offsets d) d).1 ((h (cyclic_cap frame offsets d)).0 m)))
          | inr m ↦ omega arith
        ]
      ]

  pub cap_grows : (d e : ℕ) → d ≤ e → cyclic_cap frame offsets d ≤ cyclic_cap frame offsets e
  cap_grows d e h = most_mono (λ i. entries_at offsets i) frame d e h

  zero_front : (k : ℕ) → 0 + k ≡ k
  zero_front k = omega arith

  -- whole frames add as many each
  pub cap_rounds : (q r : ℕ) → q * length offsets + cyclic_cap frame offsets r ≡ cyclic_cap frame offsets (q * frame + r)
  cap_rounds q r =
      cap_is (q * length offsets + cyclic_cap frame offsets r) (q * frame + r) (λ k.
      elim (cases_lt k (q * length offsets)) [
        | inl l ↦ ((λ h. let zero_due = due_ascend frame offsets o k (q * length offsets + 0) (omega arith) in (0, omega (arith, zero_due, due-shift q 0, ap (λ n. due frame offsets n) (zero_front k)))), (λ h. omega arith))
        | inr l ↦
            let rest : q * length offsets + (k - q * length offsets) ≡ k = omega arith in (
              (λ h.
                  let s = (cap-span (k - q * length offsets) r).0 (omega arith) in
                  let place : q * length offsets + (s.0 + (k - q * length offsets)) ≡ s.0 + k = omega arith in
                  (s.0, omega (arith, s.1, ap (λ n. due frame offsets n) place, due-shift q (s.0 + (k - q * length offsets))))),
              (λ h.
                  let place : q * length offsets + (h.0 + (k - q * length offsets)) ≡ h.0 + k = omega arith in
                  let less = (cap-span (k - q * length offsets) r).1 (h.0, omega (arith, h.1, ap (λ n. due frame offsets n) place, due-shift q (h.0 + (k - q * length offsets)))) in
                  omega (arith, less)),
            )
      ])

  -- ---- the search for the greatest number

  pub best_none : (d : ℕ) → IsBest frame offsets d 0 0
  best_none d = record { within_j = omega arith; has = λ k h. absurd (omega arith); no_more = λ i h. absurd (omega arith) }

  pub best_more : (d j best : ℕ) → IsBest frame offsets d j best → due frame offsets j < due frame offsets (j - best) + d → IsBest frame offsets d (j + 1) (best + 1)
  best_more d j best b h = record {
    within_j = omega (arith, b.within_j);
    has = λ k l. elim (cases_lt k best) [
      | inl m ↦ b.has k m
      | inr m ↦ let e : j - best + k ≡ j = omega (arith, b.within_j) in (j - best, omega (arith, h, ap (λ n. due frame offsets n) e))
    ];
    no_more = λ i l.
        let up = due_ascend frame offsets o (i + best) (i + (best + 1)) (omega arith) in
        omega (arith, up, b.no_more i (omega arith));
  }

  pub best_same : (d j best : ℕ) → IsBest frame offsets d j best → due frame offsets (j - best) + d ≤ due frame offsets j → IsBest frame offsets d (j + 1) best
  best_same d j best b h = record {
    within_j = omega (arith, b.within_j);
    has = b.has;
    no_more = λ i l. elim (cases_lt (i + best) j) [
      | inl m ↦ b.no_more i m
      | inr m ↦
          let e : i + best ≡ j = omega arith in
          let e' : i ≡ j - best = omega arith in
          omega (arith, h, ap (λ n. due frame offsets n) e, ap (λ n. due frame offsets n) e')
    ];
  }

  -- no more than the frame's entries lie within a frame
  pub best_small : (d j best : ℕ) → d ≤ frame → IsBest frame offsets d j best → best ≤ length offsets
  best_small d j best s b =
      elim (cases_lt (length offsets) best) [
        | inl l ↦
            let h = b.has (length offsets) l in
            let place : 1 * length offsets + h.0 ≡ h.0 + length offsets = omega arith in
            absurd (omega (arith, h.1, ap (λ n. due frame offsets n) place, due-shift 1 h.0))
        | inr l ↦ omega arith
      ]

  pub best_all : (d best : ℕ) → d ≤ frame → IsBest frame offsets d (2 * length offsets) best → best ≡ cyclic_cap frame offsets d
  best_all d best s b =
      cap_is best d (λ k. (
        b.has k,
        (λ h. elim (cases_lt k best) [
          | inl l ↦ omega arith
          | inr l ↦
              let front = span_front k d h in
              absurd (omega (arith, front.2, b.no_more front.0 (omega (arith, best_small d (2 * length offsets) best s b)), due-grows (front.0 + best) (front.0 + k) (omega arith)))
        ]),
      ))

  -- ---- the least span of k + 1 neighbours

  pub span_least : (k least : ℕ) → IsLeastSpan frame offsets k (length offsets) least → (d : ℕ) → HasSpan frame offsets k d ↔ (least < d)
  span_least k least s d = (
    (λ h. let front = span_front k d h in omega (arith, front.2, s.below front.0 front.1)),
    (λ h. (s.met.0, omega (arith, s.met.1))),
  )

  pub span_first : (k : ℕ) → IsLeastSpan frame offsets k 1 (due frame offsets k - due frame offsets 0)
  span_first k =
      let up = due-grows 0 k (omega arith) in
      let e : 0 + k ≡ k = omega arith in
      record { met = (0, omega (arith, up, ap (λ n. due frame offsets n) e)); below = λ i l. let z : i ≡ 0 = omega arith in rw z (omega (arith, up, ap (λ n. due frame offsets n) e)) }

  pub span_next : (k n least : ℕ) → IsLeastSpan frame offsets k n least → IsLeastSpan frame offsets k (n + 1) (min least (due frame offsets (n + k) - due frame offsets n))
  span_next k n least s =
      let up = due-grows n (n + k) (omega arith) in
      record {
        met = elim (cases_lt least (due frame offsets (n + k) - due frame offsets n)) [
          | inl l ↦ (s.met.0, omega (arith, s.met.1))
          | inr l ↦ (n, omega (arith, up))
        ];
        below = λ i l. elim (cases_lt i n) [
          | inl m ↦ omega (arith, s.below i m)
          | inr m ↦ let e : i ≡ n = omega arith in rw e (omega (arith, up))
        ];
      }

  -- whole frames add to each span alike
  pub span_rounds : (k q r n least : ℕ) → q * length offsets + r ≡ k → IsLeastSpan frame offsets r n least → IsLeastSpan frame offsets k n (q * frame + least)
  span_rounds k q r n least is s =
      let shifted : (i : ℕ) → due frame offsets (i + k) ≡ q * frame + due frame offsets (i + r) = λ i.
      let place : q * length offsets + (i + r) ≡ i + k = omega arith in
      omega (arith, ap (λ m. due frame offsets m) place, due-shift q (i + r)) in
      record {
        met = (s.met.0, omega (arith, s.met.1, shifted s.met.0));
        below = λ i l. omega (arith, s.below i l, shifted i);
      }

  -- a part of a frame spans less than two
  pub span_small : (k n least : ℕ) → 1 ≤ n → k < length offsets → IsLeastSpan frame offsets k n least → least ≤ 2 * frame
  span_small k n least some part s =
      let e : 0 + k ≡ k = omega arith in
      omega (arith, s.below 0 some, ap (λ m. due frame offsets m) e, due_early frame offsets k part, o.below k part)

  -- ---- the next jump

  -- from d on the cap stays up to the least span of one more entry, and then rises
  pub cap_flat : (d span : ℕ) → ((e : ℕ) → HasSpan frame offsets (cyclic_cap frame offsets d) e ↔ (span < e)) →
      (d ≤ span) × ((k : ℕ) → d ≤ k → k ≤ span → cyclic_cap frame offsets k ≡ cyclic_cap frame offsets d) × (cyclic_cap frame offsets d < cyclic_cap frame offsets (span + 1))
  cap_flat d span h =
      let far : d ≤ span = elim (cases_lt span d) [ inl l ↦ absurd (omega (arith, (cap-span (cyclic_cap frame offsets d) d).1 ((h d).1 l))) | inr l ↦ omega arith ] in (
        far,
        (λ k a b.
            elim (cases_lt (cyclic_cap frame offsets d) (cyclic_cap frame offsets k)) [
              | inl l ↦ absurd (omega (arith, (h k).0 ((cap-span (cyclic_cap frame offsets d) k).0 l)))
              | inr l ↦ omega (arith, cap_grows d k a)
            ]),
        (cap-span (cyclic_cap frame offsets d) (span + 1)).1 ((h (span + 1)).1 (omega arith)),
      )

  -- ---- laws

  pub cyclic_zero : cyclic_cap frame offsets 0 ≡ 0
  cyclic_zero = elim (cases_lt 0 (cyclic_cap frame offsets 0)) [ inl l ↦ absurd (let h = (cap-span 0 0).0 l in let e : h.0 + 0 ≡ h.0 = omega arith in omega (arith, h.1, ap (λ n. due frame offsets n) e)) | inr l ↦ omega arith ]

  due_far : (i d : ℕ) → due frame offsets i + d ≤ due frame offsets (i + d)
  due_far i zero = let e : i + 0 ≡ i = omega arith in omega (arith, ap (λ n. due frame offsets n) e)
  due_far i (suc d) = omega (arith, due_far i d, due_ascend frame offsets o (i + d) (i + suc d) (omega arith))

  -- at most one entry is due in each tick
  pub cyclic_le : (d : ℕ) → cyclic_cap frame offsets d ≤ d
  cyclic_le d =
      elim (cases_lt d (cyclic_cap frame offsets d)) [
        | inl l ↦ absurd (let h = (cap-span d d).0 l in omega (arith, h.1, due_far h.0 d))
        | inr l ↦ omega arith
      ]

  pub cyclic_bounded : (d : ℕ) → d ≤ 1000000 → cyclic_cap frame offsets d ≤ 2 ^ 40
  cyclic_bounded d h = omega (arith, cyclic_le d)

  pub cyclic_holds : (xs : List (ℕ × ℕ)) (u d : ℕ) → IsDue frame offsets xs → count_in u d (ticks_of xs) ≤ cyclic_cap frame offsets d
  cyclic_holds xs u d h = due_most frame offsets o some xs h u d

-- the first of the due ticks are due ticks
pub due_prefix : (frame : ℕ) (offsets : List ℕ) (xs ys : List (ℕ × ℕ)) → IsDue frame offsets (xs ++ ys) → IsDue frame offsets xs
due_prefix frame offsets xs ys h k l =
    let e = ticks_of-append xs ys in
    let long = ap length e ∙ length-append (ticks_of xs) (ticks_of ys) in
    sym (ap (λ z. get_or z k 0) e ∙ get_or_append_left (ticks_of xs) (ticks_of ys) 0 k l) ∙ h k (omega (arith, long))
