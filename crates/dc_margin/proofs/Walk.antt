-- A walk along the jumps of a cap, and the greatest height so far.
use Rattle.std.proofs.Common.{◌≡◌, ℕ, zero, suc, ◌+◌, ◌-◌, ◌^◌, ◌≤◌, ◌<◌, Bool, true, false, refl, sym, ap, subst, arith, inl, inr, ◌∙◌}
use Rattle.std.specs.Prelude.{nat_lt, nat_le, if◌then◌else◌}
use Rattle.std.proofs.lemmas.Bool.{cases_lt, lt-ltb, le-ltb, lt-leb, le-leb, leb-true}
use Rattle.dc_bound.specs.Window.{Shown}
use Rattle.dc_margin.specs.Peaks.{waiting, least_below, needed}
use Rattle.dc_margin.specs.Rising.{IsPeakSoFar}
use Rattle.dc_margin.specs.declared.peaks.Peak.{Peak}
use Rattle.dc_margin.specs.lemmas.Heights.{above-failing, below-count, below-least}

module _ (f : ℕ → ℕ) (window : ℕ) where
  -- where nothing is higher from here up to the next one
  pub peak-kept : (end next w h : ℕ) → ((v : ℕ) → end ≤ v → v < next → f v ≤ h) → IsPeakSoFar f window end w h → IsPeakSoFar f window next w h
  peak-kept end next w h low-enough p = record {
    some = p.some;
    at = p.at;
    greatest = λ v low high near. elim (cases_lt v end) [
      | inl below ↦ p.greatest v low below near
      | inr past ↦ low-enough v past high
    ];
    first = p.first;
  }

  -- one more that is higher, or not, up to the next one at which f may be higher
  module _ (end next : ℕ) (some : 1 ≤ end) (inside : end ≤ window) (flat : (v : ℕ) → end ≤ v → v < next → f v ≤ f end) where
    higher-peak : (w h : ℕ) → h < f end → IsPeakSoFar f window end w h → IsPeakSoFar f window next end (f end)
    higher-peak w h l p = record {
      some = some;
      at = inl (inside, refl);
      greatest = λ v low high near. elim (cases_lt v end) [
        | inl below ↦ omega (arith, p.greatest v low below near, l)
        | inr past ↦ flat v past high
      ];
      first = λ v low high. omega (arith, p.greatest v low high, l);
    }

    same-peak : (w h : ℕ) → f end ≤ h → IsPeakSoFar f window end w h → IsPeakSoFar f window next w h
    same-peak w h g p = peak-kept end next w h (λ v past high. omega (arith, flat v past high, g)) p

    pub peak-more : (p q : Peak) (height : ℕ) → height ≡ f end → q ≡ (if nat_lt p.height height then record { ticks = end; height = height } else p) → IsPeakSoFar f window end p.ticks p.height
        → IsPeakSoFar f window next q.ticks q.height
    peak-more p q height at is known =
        elim (cases_lt p.height height) [
          | inl l ↦
              let here : q ≡ record { ticks = end; height = f end } = is ∙ ap (λ b. if b then record { ticks = end; height = height } else p) (lt-ltb p.height height l) ∙ ap (λ h. record { ticks = end; height = h }) at in
              subst (λ r. IsPeakSoFar f window next r.ticks r.height) (sym here) (higher-peak p.ticks p.height (omega (arith, l, at)) known)
          | inr g ↦
              let there : q ≡ p = is ∙ ap (λ b. if b then record { ticks = end; height = height } else p) (le-ltb p.height height g) in
              subst (λ r. IsPeakSoFar f window next r.ticks r.height) (sym there) (same-peak p.ticks p.height (omega (arith, g, at)) known)
        ]

-- ---- the least number that passes

least-at : (n : ℕ) (test : ℕ → Bool) (h : ℕ) → h ≤ n → ((e : ℕ) → e < h → test e ≡ false) → (h < n → test h ≡ true) → h ≡ least_below n test
least-at n test h l fails passes =
    let above = above-failing n test h l fails in
    elim (cases_lt h n) [
      | inl inside ↦ omega (arith, above, below-least n test h inside (passes inside))
      | inr outside ↦ omega (arith, above, outside, below-count n test)
    ]

-- the least below n passes
first-passes : (n : ℕ) (test : ℕ → Bool) (b : Bool) → test 0 ≡ b → (least_below n (λ d. test (suc d)) < n → test (suc (least_below n (λ d. test (suc d)))) ≡ true)
    → (if b then 0 else suc (least_below n (λ d. test (suc d)))) < suc n → test (if b then 0 else suc (least_below n (λ d. test (suc d)))) ≡ true
first-passes n test true h later l = h
first-passes n test false h later l = later (omega (arith, l))

least-passes : (n : ℕ) (test : ℕ → Bool) → least_below n test < n → test (least_below n test) ≡ true
unfolding least_below
least-passes zero test l = absurd (omega (arith, l))
least-passes (suc n) test l = first-passes n test (test 0) refl (λ below. least-passes n (λ d. test (suc d)) below) l

-- where each number that passes one test passes another, the least of that is no greater
above-passing : (n : ℕ) (test other : ℕ → Bool) → ((d : ℕ) → test d ≡ true → other d ≡ true) → least_below n other ≤ least_below n test
above-passing n test other implies =
    elim (cases_lt (least_below n test) n) [
      | inl inside ↦ below-least n other (least_below n test) inside (implies (least_below n test) (least-passes n test inside))
      | inr outside ↦ omega (arith, outside, below-count n other)
    ]

module _ (floor : ℕ → ℕ) (grows : (d e : ℕ) → d ≤ e → floor d ≤ floor e) where
  -- where each delay below this one is too short, and it is enough unless it is over 100,000, it is the one that is needed
  pub needed-at : (most ticks high : ℕ) → high ≤ 100001 → ((e : ℕ) → e < high → floor (ticks - 1 + e) < most) → (high < 100001 → most ≤ floor (ticks - 1 + high)) → high ≡ needed (λ _. most) floor ticks
  needed-at most ticks high end fails passes =
      least-at 100001 (λ d. nat_le most (floor (ticks - 1 + d))) high end (λ e below. lt-leb _ _ (fails e below)) (λ inside. le-leb _ _ (passes inside))

  -- each delay up to one that is too short is too short
  all-short : (most before delay : ℕ) → floor (before + delay) < most → (e : ℕ) → e < delay + 1 → floor (before + e) < most
  all-short most before delay fails e below = omega (arith, fails, grows (before + e) (before + delay) (omega arith))

  -- no delay above 100,001 is needed
  pub needs-most : (most ticks : ℕ) → needed (λ _. most) floor ticks ≤ 100001
  needs-most most ticks = below-count 100001 (λ d. nat_le most (floor (ticks - 1 + d)))

  -- none above one that is enough
  needs-less : (most ticks delay : ℕ) → delay ≤ 100000 → most ≤ floor (ticks - 1 + delay) → needed (λ _. most) floor ticks ≤ delay
  needs-less most ticks delay short enough = below-least 100001 (λ d. nat_le most (floor (ticks - 1 + d))) delay (omega arith) (le-leb _ _ enough)

  -- none above one that is enough unless it is over 100,000
  pub needs-within : (most ticks height : ℕ) → (height ≤ 100000 → most ≤ floor (ticks - 1 + height)) → needed (λ _. most) floor ticks ≤ height
  needs-within most ticks height enough =
      elim (cases_lt height 100001) [
        | inl l ↦ needs-less most ticks height (omega (arith, l)) (enough (omega (arith, l)))
        | inr g ↦ omega (arith, needs-most most ticks, g)
      ]

  -- the one that is needed is enough unless it is over 100,000
  pub needs-enough : (most ticks height : ℕ) → height ≡ needed (λ _. most) floor ticks → height ≤ 100000 → most ≤ floor (ticks - 1 + height)
  needs-enough most ticks height is short =
      subst (λ d. most ≤ floor (ticks - 1 + d)) (sym is)
      (leb-true _ _ (least-passes 100001 (λ d. nat_le most (floor (ticks - 1 + d))) (omega (arith, is, short))))

  -- more than one that is too short
  pub needs-more : (most ticks delay : ℕ) → delay ≤ 100000 → floor (ticks - 1 + delay) < most → delay < needed (λ _. most) floor ticks
  needs-more most ticks delay short fails =
      omega (arith, above-failing 100001 (λ d. nat_le most (floor (ticks - 1 + d))) (delay + 1) (omega arith) (λ e below. lt-leb _ _ (all-short most (ticks - 1) delay fails e below)))

  -- in more ticks no longer one
  pub needs-fewer : (most ticks later : ℕ) → ticks ≤ later → needed (λ _. most) floor later ≤ needed (λ _. most) floor ticks
  needs-fewer most ticks later after =
      above-passing 100001 (λ d. nat_le most (floor (ticks - 1 + d))) (λ d. nat_le most (floor (later - 1 + d)))
      (λ d passes. le-leb _ _ (omega (arith, leb-true most (floor (ticks - 1 + d)) passes, grows (ticks - 1 + d) (later - 1 + d) (omega arith))))

-- ---- a stretch of one cap

module _ (cap floor : ℕ → ℕ) (grows : (d e : ℕ) → d ≤ e → floor d ≤ floor e) (ticks next most : ℕ) (ahead : ticks < next) (shown : Shown cap ticks next most) where
  flat : (v : ℕ) → ticks ≤ v → v < next → cap v ≡ cap ticks
  flat v low high = shown v low high ∙ sym (shown ticks (omega arith) ahead)

  -- so no more waits, and no longer delay is needed
  pub waiting-flat : (v : ℕ) → ticks ≤ v → v < next → waiting cap floor v ≤ waiting cap floor ticks
  waiting-flat v low high = omega (arith, flat v low high, grows (ticks - 2) (v - 2) (omega (arith, low)))

  pub needed-flat : (v : ℕ) → ticks ≤ v → v < next → needed cap floor v ≤ needed cap floor ticks
  needed-flat v low high =
      omega (arith, ap (λ n. needed (λ _. n) floor v) (flat v low high), needs-fewer floor grows (cap ticks) ticks v low)

-- ---- no more than passes

module _ (cap floor : ℕ → ℕ) (rises : (d e : ℕ) → d ≤ e → cap d ≤ cap e) (grows : (d e : ℕ) → d ≤ e → floor d ≤ floor e) (ticks until passes height : ℕ) (few : cap until ≤ passes) where
  pub waiting-kept : passes ≤ height + floor (ticks - 2) → (v : ℕ) → ticks ≤ v → v < until + 1 → waiting cap floor v ≤ height
  waiting-kept held v low high = omega (arith, few, held, rises v until (omega (arith, high)), grows (ticks - 2) (v - 2) (omega (arith, low)))

  pub needed-kept : (height ≤ 100000 → passes ≤ floor (ticks - 1 + height)) → (v : ℕ) → ticks ≤ v → v < until + 1 → needed cap floor v ≤ height
  needed-kept taken v low high =
      needs-within floor grows (cap v) v height
      (λ short. omega (arith, few, taken short, rises v until (omega (arith, high)), grows (ticks - 1 + height) (v - 1 + height) (omega (arith, low))))

-- ---- the longer delay

-- a height at which not all pass is 100,000 at most, where above that all do
pub still-short : (height most passes : ℕ) → (100000 < height → (n : ℕ) → n < 2 ^ 64 → n ≤ passes) → most < 2 ^ 64 → passes < most → height ≤ 100000
still-short height most passes all fits fails =
    elim (cases_lt height 100001) [
      | inl l ↦ omega (arith, l)
      | inr past ↦ absurd (omega (arith, fails, all (omega (arith, past)) most fits))
    ]

module _ (floor : ℕ → ℕ) (grows : (d e : ℕ) → d ≤ e → floor d ≤ floor e) (most ticks : ℕ) (peak : Peak) where
  -- none is longer than the one at hand
  pub stays-late : needed (λ _. most) floor ticks ≤ peak.height → peak ≡ (if nat_lt peak.height (needed (λ _. most) floor ticks) then record { ticks = ticks; height = needed (λ _. most) floor ticks } else peak)
  stays-late g = sym (ap (λ b. if b then record { ticks = ticks; height = needed (λ _. most) floor ticks } else peak) (le-ltb peak.height (needed (λ _. most) floor ticks) g))

  -- this one is
  pub grows-late : (height : ℕ) → height ≡ needed (λ _. most) floor ticks → peak.height < needed (λ _. most) floor ticks
      → record { ticks = ticks; height = height } ≡ (if nat_lt peak.height (needed (λ _. most) floor ticks) then record { ticks = ticks; height = needed (λ _. most) floor ticks } else peak)
  grows-late height is l =
      ap (λ h. record { ticks = ticks; height = h }) is
      ∙ sym (ap (λ b. if b then record { ticks = ticks; height = needed (λ _. most) floor ticks } else peak) (lt-ltb peak.height (needed (λ _. most) floor ticks) l))
