-- A walk along the cap of a frame's entries.
use Rattle.std.proofs.Common.{◌≡◌, ℕ, min, ◌+◌, ◌-◌, ◌*◌, ◌/◌, ◌%◌, ◌<◌, ◌≤◌, zero, suc, List, length, set, replicate, get_or, refl, ap, sym, subst, arith, inl, inr, ◌↔◌}
use Rattle.std.proofs.Math.Nat.{mod-lt, div-add-mod'}
use Rattle.std.proofs.lemmas.Bool.{cases_lt, cases_eq}
use Rattle.std.proofs.lemmas.List.{get_or-replicate, get_or-set_other, get_or_past, length-set}
use Rattle.std.proofs.lemmas.Grind.{get_or-set_at}
use Rattle.dc_bound.specs.Window.{Shown}
use Rattle.dc_bound.specs.Frame.{due, Offsets, IsLeastSpan, cyclic_cap}
use Rattle.dc_bound.specs.Splits.{IsSplit, ArePastSpans}
use Rattle.dc_bound.specs.lemmas.Due.{due_ascend}
use Rattle.dc_bound.specs.lemmas.Spans.{HasSpan, cap-span, span_least, span_rounds, span_small, span_first, span_next, due_early, due_late, cap_flat, cap_rounds, cap_grows, cyclic_zero}

-- ---- a count in whole frames and a rest

pub split_first : (frame n count : ℕ) → 1 ≤ n → IsSplit frame n count (count / n * frame) (count % n)
split_first frame n count some = record { rounds = count / n; whole_is = omega arith; count_is = div-add-mod' count n; part = mod-lt count some }

-- ---- what is known of spans

pub none_known : (frame : ℕ) (offsets : List ℕ) (n : ℕ) → length offsets ≤ n → ArePastSpans frame offsets (replicate n 0)
none_known frame offsets n few k inside some = absurd (omega (arith, get_or-replicate {A = ℕ} n k 0 0 (omega arith)))

pub known_more : (frame : ℕ) (offsets past : List ℕ) (k least : ℕ) → IsLeastSpan frame offsets k (length offsets) least → ArePastSpans frame offsets past → ArePastSpans frame offsets (set past k (least + 1))
known_more frame offsets past k least span known j inside some =
    let P : ℕ → Type 0 = λ x. IsLeastSpan frame offsets j (length offsets) x in
    elim (cases_eq j k) [
      | inl e ↦ elim (cases_lt k (length past)) [
        | inl l ↦
            let Q : ℕ → Type 0 = λ i. IsLeastSpan frame offsets i (length offsets) least in
            let at : get_or (set past k (least + 1)) j 0 ≡ least + 1 = get_or-set_at past k j (least + 1) 0 e l in
            let back : least ≡ get_or (set past k (least + 1)) j 0 - 1 = omega (arith, at) in
            subst P back (subst Q (sym e) span)
        | inr l ↦ absurd (omega (arith, get_or_past (set past k (least + 1)) j 0 (omega (arith, length-set past k (least + 1)))))
      ]
      | inr e ↦
          let same : get_or (set past k (least + 1)) j 0 ≡ get_or past j 0 = get_or-set_other past k j (least + 1) 0 e in
          let back : get_or past j 0 - 1 ≡ get_or (set past k (least + 1)) j 0 - 1 = omega (arith, same) in
          subst P back (known j inside (omega (arith, same)))
    ]

one_before : (q frame : ℕ) → frame < q * frame → (p : ℕ) × (q ≡ suc p)
one_before zero frame h = absurd (omega arith)
one_before (suc p) frame h = (p, refl)

-- ---- one step

module _ (frame : ℕ) (offsets : List ℕ) (o : Offsets frame offsets) where
  -- past the least span of one more entry, the cap is just one more
  one_more_at : (d span : ℕ) → ((e : ℕ) → HasSpan frame offsets (cyclic_cap frame offsets d) e ↔ (span < e)) → cyclic_cap frame offsets (span + 1) ≤ cyclic_cap frame offsets d + 1
  one_more_at d span h =
      elim (cases_lt (cyclic_cap frame offsets d + 1) (cyclic_cap frame offsets (span + 1))) [
        | inl l ↦
            let s = (cap-span frame offsets o (cyclic_cap frame offsets d + 1) (span + 1)).0 l in
            let up = due_ascend frame offsets o (s.0 + cyclic_cap frame offsets d) (s.0 + (cyclic_cap frame offsets d + 1)) (omega arith) in
            let near = (h span).0 (s.0, omega (arith, s.1, up)) in
            absurd (omega (arith, near))
        | inr l ↦ omega arith
      ]

  -- what one look at the least span of a count's rest tells
  pub step : (ticks count whole rest past jump : ℕ) → count ≡ cyclic_cap frame offsets ticks → IsSplit frame (length offsets) count whole rest → 1 ≤ past →
      IsLeastSpan frame offsets rest (length offsets) (past - 1) → jump ≡ whole + past →
      (ticks < jump) × Shown (cyclic_cap frame offsets) ticks jump count × (count + 1 ≡ cyclic_cap frame offsets jump)
  step ticks count whole rest past jump here split some least is =
      let P : ℕ → Type 0 = λ k. (e : ℕ) → HasSpan frame offsets k e ↔ (split.rounds * frame + (past - 1) < e) in
      let all = span_rounds frame offsets o count split.rounds rest (length offsets) (past - 1) split.count_is least in
      let spans : P count = span_least frame offsets o count (split.rounds * frame + (past - 1)) all in
      let spans' : P (cyclic_cap frame offsets ticks) = subst P here spans in
      let flat = cap_flat frame offsets o ticks (split.rounds * frame + (past - 1)) spans' in
      let more = one_more_at ticks (split.rounds * frame + (past - 1)) spans' in
      let at : split.rounds * frame + (past - 1) + 1 ≡ jump = omega (arith, split.whole_is) in (
        omega (arith, flat.0),
        (λ k from to. omega (arith, flat.1 k from (omega arith))),
        omega (arith, flat.2, more, ap (λ n. cyclic_cap frame offsets n) at),
      )

  -- the whole frames of a cap end no more than a frame after its ticks
  pub whole_near : (ticks count whole rest : ℕ) → count ≡ cyclic_cap frame offsets ticks → IsSplit frame (length offsets) count whole rest → whole ≤ ticks + frame
  whole_near ticks count whole rest here split =
      elim (cases_lt (ticks + frame) whole) [
        | inl l ↦
            let p = one_before split.rounds frame (omega (arith, split.whole_is)) in
            let before = cap_rounds frame offsets o p.0 0 in
            let frames : split.rounds * frame ≡ p.0 * frame + frame = omega (arith, ap (λ x. x * frame) p.1) in
            let entries : split.rounds * length offsets ≡ p.0 * length offsets + length offsets = omega (arith, ap (λ x. x * length offsets) p.1) in
            let up = cap_grows frame offsets o ticks (p.0 * frame + 0) (omega (arith, split.whole_is)) in
            absurd (omega (arith, before, up, cyclic_zero frame offsets o, o.some, split.count_is))
        | inr l ↦ l
      ]

  -- one past a least span of a part of a frame
  pub past_small : (k past : ℕ) → k < length offsets → IsLeastSpan frame offsets k (length offsets) (past - 1) → past ≤ 2 * frame + 1
  past_small k past inside span = omega (arith, span_small frame offsets o k (length offsets) (past - 1) o.some inside span)

  -- ---- the least span by the offsets themselves

  -- an offset that is not before another
  pub offset_order : (i j : ℕ) → i ≤ j → j < length offsets → get_or offsets i 0 ≤ get_or offsets j 0
  offset_order i j order inside =
      elim (cases_lt i j) [
        | inl l ↦ omega (arith, o.ascend i j l inside)
        | inr l ↦ let e : i ≡ j = omega arith in omega (arith, ap (λ n. get_or offsets n 0) e)
      ]

  order_over : (i k : ℕ) → k < length offsets → i < length offsets → get_or offsets (i + k - length offsets) 0 ≤ get_or offsets i 0
  order_over i k part inside = offset_order (i + k - length offsets) i (omega arith) inside

  pub span_from_first : (k : ℕ) → k < length offsets → IsLeastSpan frame offsets k 1 (get_or offsets k 0 - get_or offsets 0 0)
  span_from_first k part =
      let P : ℕ → Type 0 = λ x. IsLeastSpan frame offsets k 1 x in
      let e : due frame offsets k - due frame offsets 0 ≡ get_or offsets k 0 - get_or offsets 0 0 = omega (arith, due_early frame offsets k part, due_early frame offsets 0 o.some) in
      subst P e (span_first frame offsets o k)

  pub span_in_frame : (k i least next : ℕ) → i + k < length offsets → IsLeastSpan frame offsets k i least → next ≡ min least (get_or offsets (i + k) 0 - get_or offsets i 0) → IsLeastSpan frame offsets k (i + 1) next
  span_in_frame k i least next inside span is =
      let P : ℕ → Type 0 = λ x. IsLeastSpan frame offsets k (i + 1) x in
      let e : min least (due frame offsets (i + k) - due frame offsets i) ≡ next = omega (arith, is, due_early frame offsets (i + k) inside, due_early frame offsets i (omega arith)) in
      subst P e (span_next frame offsets o k i least span)

  pub span_over : (k i least next : ℕ) → k < length offsets → length offsets ≤ i + k → i < length offsets → IsLeastSpan frame offsets k i least →
      next ≡ min least (frame - (get_or offsets i 0 - get_or offsets (i + k - length offsets) 0)) → IsLeastSpan frame offsets k (i + 1) next
  span_over k i least next part over inside span is =
      let P : ℕ → Type 0 = λ x. IsLeastSpan frame offsets k (i + 1) x in
      let late = due_late frame offsets (i + k) over (omega arith) in
      let early = due_early frame offsets i inside in
      let order = order_over i k part inside in
      let e : min least (due frame offsets (i + k) - due frame offsets i) ≡ next = omega (arith, is, late, early, order, o.below i inside) in
      subst P e (span_next frame offsets o k i least span)
