-- How many entries are due before a tick.
use Rattle.std.proofs.Common.{◌≡◌, ℕ, zero, suc, ◌+◌, ◌*◌, ◌/◌, ◌%◌, ◌≤◌, ◌<◌, Bool, true, false, cond, ltb, List, length, get_or, refl, sym, ap, inl, inr, ◌∙◌, arith}
use Rattle.std.proofs.lemmas.Bool.{cases_lt, ltb-true, ltb-false, lt-ltb}
use Rattle.std.proofs.Math.Nat.{mod-lt, div-add-mod'}
use Rattle.dc_bound.specs.Places.{count_below}
use Rattle.dc_bound.specs.lemmas.Counts.{at_mod, at_div}
use Rattle.dc_bound.specs.Frame.{due, Offsets, entries_at}
use Rattle.dc_bound.specs.lemmas.Due.{due_ascend, due_mod, one_some, none_or_at, ascend_one}

-- ---- counting what is closed downwards

count_below-all : (p : ℕ → Bool) (n : ℕ) → ((k : ℕ) → k < n → p k ≡ true) → count_below p n ≡ n
count_below-all p zero h = refl
count_below-all p (suc n) h = let rec = count_below-all p n (λ k l. h k (omega arith)) in let here : p n ≡ true = h n (omega arith) in rw here (omega arith)

-- a number is below the count where it passes
pub record Counts (p : ℕ → Bool) (n c : ℕ) : Type 0 where
  pub passes : (k : ℕ) → k < c → p k ≡ true
  pub fails : (k : ℕ) → c ≤ k → k < n → p k ≡ false

counts : (p : ℕ → Bool) → ((i j : ℕ) → i < j → p j ≡ true → p i ≡ true) → (n : ℕ) → Counts p n (count_below p n)
counts p closed zero = record { passes = λ k h. absurd (omega arith); fails = λ k h l. absurd (omega arith) }
counts p closed (suc n) =
    let rec = counts p closed n in
    elim (p n) as (λ b. p n ≡ b → Counts p (suc n) (count_below p n + cond b 1 0)) [
      | true ↦ λ e.
          let all : count_below p n ≡ n = count_below-all p n (λ k l. closed k n l e) in
          record {
            passes = λ k h. elim (cases_lt k n) [ inl l ↦ closed k n l e | inr l ↦ (let z : k ≡ n = omega (arith, all, h) in rw z e) ];
            fails = λ k h l. absurd (omega (arith, all));
          }
      | false ↦ λ e. record {
        passes = λ k h. rec.passes k (omega arith);
        fails = λ k h l. elim (cases_lt k n) [ inl m ↦ rec.fails k (omega arith) m | inr m ↦ (let z : k ≡ n = omega arith in rw z e) ];
      }
    ] refl

-- ---- ticks that ascend

module _ (D : ℕ → ℕ) (ascend : (i j : ℕ) → i < j → D i < D j) where
  pub at_least : (n : ℕ) → n ≤ D n
  at_least zero = omega arith
  at_least (suc n) = omega (arith, at_least n, ascend n (suc n) (omega arith))

  -- how many are before tick k
  unfoldable pub before_tick : ℕ → ℕ
  before_tick k = count_below (λ n. ltb (D n) k) k

  before_counts : (k : ℕ) → Counts (λ n. ltb (D n) k) k (before_tick k)
  unfolding before_tick
  before_counts k = counts (λ n. ltb (D n) k) (λ i j l h. lt-ltb (D i) k (omega (arith, ascend i j l, ltb-true (D j) k h))) k

  pub below_before : (k n : ℕ) → n < before_tick k → D n < k
  below_before k n h = ltb-true (D n) k ((before_counts k).passes n h)

  pub from_before : (k n : ℕ) → before_tick k ≤ n → k ≤ D n
  from_before k n h = elim (cases_lt n k) [ inl l ↦ ltb-false (D n) k ((before_counts k).fails n h l) | inr l ↦ omega (arith, at_least n) ]

  -- the number before a tick is known by these two
  pub before-is : (k c : ℕ) → ((n : ℕ) → n < c → D n < k) → ((n : ℕ) → c ≤ n → k ≤ D n) → before_tick k ≡ c
  before-is k c low high =
      elim (cases_lt (before_tick k) c) [
        | inl l ↦ absurd (omega (arith, low (before_tick k) l, from_before k (before_tick k) (omega arith)))
        | inr l ↦ elim (cases_lt c (before_tick k)) [
          | inl m ↦ absurd (omega (arith, high c (omega arith), below_before k c m))
          | inr m ↦ omega arith
        ]
      ]

  -- one more tick: one more where the next number is of it
  pub before-hit : (k : ℕ) → D (before_tick k) ≡ k → before_tick (suc k) ≡ suc (before_tick k)
  before-hit k e = before-is (suc k) (suc (before_tick k))
      (λ n h. elim (cases_lt n (before_tick k)) [ inl l ↦ omega (arith, below_before k n l) | inr l ↦ (let z : n ≡ before_tick k = omega arith in rw z (omega (arith, e))) ])
      (λ n h. omega (arith, e, ascend (before_tick k) n (omega arith)))

  pub before-miss : (k : ℕ) → k < D (before_tick k) → before_tick (suc k) ≡ before_tick k
  before-miss k h = before-is (suc k) (before_tick k)
      (λ n l. omega (arith, below_before k n l))
      (λ n l. elim (cases_lt (before_tick k) n) [ inl m ↦ omega (arith, ascend (before_tick k) n m) | inr m ↦ (let z : n ≡ before_tick k = omega arith in rw z (omega arith)) ])

-- ---- entries of a frame

module _ (frame : ℕ) (offsets : List ℕ) (o : Offsets frame offsets) (some : 1 ≤ frame) where
  -- an offset's entry in the frame of a tick
  due_there : (k i : ℕ) → i < length offsets → get_or offsets i 0 ≡ k % frame → due frame offsets (k / frame * length offsets + i) ≡ k
  due_there k i l e =
      let a : (k / frame * length offsets + i) / length offsets ≡ k / frame = at_div (length offsets) (k / frame) i l in
      let b : (k / frame * length offsets + i) % length offsets ≡ i = at_mod (length offsets) (k / frame) i l in
      ap (λ n. n * frame + get_or offsets ((k / frame * length offsets + i) % length offsets) 0) a ∙ ap (λ n. k / frame * frame + get_or offsets n 0) b ∙ ap (λ n. k / frame * frame + n) e ∙ div-add-mod' k frame

  -- how many are due before a tick, one tick more
  pub due_step : (k : ℕ) → before_tick (due frame offsets) (due_ascend frame offsets o) (suc k) ≡ before_tick (due frame offsets) (due_ascend frame offsets o) k + entries_at offsets (k % frame)
  due_step k =
      let D : ℕ → ℕ = due frame offsets in
      let up : (i j : ℕ) → i < j → due frame offsets i < due frame offsets j = due_ascend frame offsets o in
      let n : ℕ = before_tick (due frame offsets) (due_ascend frame offsets o) k in
      let low : k ≤ due frame offsets (before_tick (due frame offsets) (due_ascend frame offsets o) k) = from_before (due frame offsets) (due_ascend frame offsets o) k (before_tick (due frame offsets) (due_ascend frame offsets o) k) (omega arith) in
      elim (cases_lt k (due frame offsets (before_tick (due frame offsets) (due_ascend frame offsets o) k))) [
        | inr l ↦
            let e : due frame offsets (before_tick (due frame offsets) (due_ascend frame offsets o) k) ≡ k = omega arith in
            let at : get_or offsets (before_tick (due frame offsets) (due_ascend frame offsets o) k % length offsets) 0 ≡ k % frame = sym (due_mod frame offsets o (before_tick (due frame offsets) (due_ascend frame offsets o) k)) ∙ ap (λ x. x % frame) e in
            omega (
              arith,
              before-hit (due frame offsets) (due_ascend frame offsets o) k e,
              one_some offsets (k % frame) (before_tick (due frame offsets) (due_ascend frame offsets o) k % length offsets) (mod-lt (before_tick (due frame offsets) (due_ascend frame offsets o) k) o.some) at,
              ascend_one offsets (k % frame) o.ascend,
            )
        | inl l ↦ elim (none_or_at offsets (k % frame)) [
          | inl z ↦ omega (arith, before-miss (due frame offsets) (due_ascend frame offsets o) k l)
          | inr (i, m, e) ↦
              let hit : due frame offsets (k / frame * length offsets + i) ≡ k = due_there k i m e in
              elim (cases_lt (k / frame * length offsets + i) (before_tick (due frame offsets) (due_ascend frame offsets o) k)) [
                | inl r ↦ absurd (omega (arith, hit, below_before (due frame offsets) (due_ascend frame offsets o) k (k / frame * length offsets + i) r))
                | inr r ↦ elim (cases_lt (before_tick (due frame offsets) (due_ascend frame offsets o) k) (k / frame * length offsets + i)) [
                  | inl v ↦ absurd (omega (arith, hit, due_ascend frame offsets o (before_tick (due frame offsets) (due_ascend frame offsets o) k) (k / frame * length offsets + i) v))
                  | inr v ↦ (let same : k / frame * length offsets + i ≡ before_tick (due frame offsets) (due_ascend frame offsets o) k = omega arith in absurd (omega (arith, hit, ap (due frame offsets) same)))
                ]
              ]
        ]
      ]
