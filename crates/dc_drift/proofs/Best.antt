-- The intervals of a drift fit, and none that fit are better.
use Rattle.std.proofs.Common.{◌≡◌, ℕ, zero, suc, ◌+◌, ◌-◌, ◌*◌, ◌<◌, ◌≤◌, length, refl, ap, arith, inl, inr}
use Rattle.std.proofs.Math.Nat.{mul-le-mul_right, div-mul-le_self}
use Rattle.std.proofs.lemmas.Bool.{cases_lt}
use Rattle.std.proofs.lemmas.Grind.{div_ceil_times}
use Rattle.dc_build.specs.RowsOf.{AreRows}
use Rattle.dc_document.specs.Document.{Document}
use Rattle.dc_drift.specs.Drift.{longest_of, shortest_of, Fits, rounded_up, rounded_down, drifting_intervals, AreNoBetter}
use Rattle.dc_drift.specs.Laws.{NoneAreBetter, AgesAre}
use Rattle.dc_in_time.specs.InTime.{DocumentsRound}
use Rattle.dc_rules.specs.Obeys.{Obeys}
use Rattle.dc_spans.specs.Spans.{Clock}
use Rattle.dc_tables.specs.TableRows.{TableRows, AreValid, bus_row, stream_row, label_row}
use Rattle.dc_time.specs.Intervals.{Intervals}

-- ---- millionths in whole ones

up-covers : (n : ℕ) → n ≤ rounded_up n * 1000000
up-covers n = (div_ceil_times n 1000000 (omega arith)).0

up-least : (n k : ℕ) → n ≤ k * 1000000 → rounded_up n ≤ k
up-least n k covers = omega (arith, (div_ceil_times n 1000000 (omega arith)).1, covers)

up-no_fewer : (n k : ℕ) → k < rounded_up n → k * 1000000 < n
up-no_fewer n k fewer = omega (arith, (div_ceil_times n 1000000 (omega arith)).1, fewer)

down-within : (n : ℕ) → rounded_down n * 1000000 ≤ n
down-within n = div-mul-le_self n 1000000

down-most : (n k : ℕ) → k * 1000000 ≤ n → k ≤ rounded_down n
down-most n k within = omega (arith, within)

divided : (a b n : ℕ) → 1 ≤ n → a * n ≤ b * n → a ≤ b
divided a b n some le =
    elim (cases_lt b a) [
      | inl l ↦ (let up : suc b * n ≤ a * n = mul-le-mul_right n l in absurd (omega (arith, up, le, some)))
      | inr g ↦ g
    ]

-- a factor that is one or more, less one
without_one : (m n : ℕ) → 1 ≤ m → (m - 1) * n + n ≡ m * n
without_one zero n some = absurd (omega arith)
without_one (suc m) n some = let e : suc m - 1 ≡ m = omega arith in rw e (omega arith)

some_of : (m n k : ℕ) → 1 ≤ n → k + n ≤ m * n → 1 ≤ m
some_of zero n k some le = absurd (omega arith)
some_of (suc m) n k some le = omega arith

-- ---- the intervals

module _ (t : TableRows) (valid : AreValid t) (labels_wait : (x : ℕ) → x < length t.labels → 1 ≤ (label_row t x).minimum) (ppm : ℕ) where
  fits : Fits t ppm (drifting_intervals t ppm)
  fits clock drifts =
      let by_longest : (n : ℕ) → n * clock.longest ≡ n * longest_of t.tick_us ppm = λ n. ap (λ k. n * k) drifts.longest in
      let by_shortest : (n : ℕ) → n * clock.shortest ≡ n * shortest_of t.tick_us ppm = λ n. ap (λ k. n * k) drifts.shortest in
      record {
        spacings = λ b l.
            let up : (bus_row t b).spacing * (1000000 + ppm) * t.tick_us ≤ rounded_up ((bus_row t b).spacing * (1000000 + ppm)) * 1000000 * t.tick_us = mul-le-mul_right t.tick_us (up-covers ((bus_row t b).spacing * (1000000 + ppm))) in
            omega (arith, up, by_longest (bus_row t b).spacing);
        spacings_some = λ b l. omega (arith, up-covers ((bus_row t b).spacing * (1000000 + ppm)), valid.spacings b l);
        stream_minimums = λ s l. omega (arith, up-covers ((stream_row t s).minimum * longest_of t.tick_us ppm), by_longest (stream_row t s).minimum);
        stream_maximums = λ s l. omega (arith, down-within ((stream_row t s).maximum * shortest_of t.tick_us ppm), by_shortest (stream_row t s).maximum);
        stream_jitters = λ s l. omega (arith, down-within ((stream_row t s).jitter * longest_of t.tick_us ppm), by_longest (stream_row t s).jitter);
        label_minimums = λ x l.
            omega (arith, down-within (((label_row t x).minimum - 1) * shortest_of t.tick_us ppm), by_shortest ((label_row t x).minimum - 1), without_one (label_row t x).minimum clock.shortest (labels_wait x l));
        label_maximums = λ x l. omega (arith, up-covers (((label_row t x).maximum + 1) * longest_of t.tick_us ppm), by_longest ((label_row t x).maximum + 1));
      }

  -- a clock of this drift
  abbrev drifting : Clock
  drifting = record { begins = λ _. 0; shortest = shortest_of t.tick_us ppm; longest = longest_of t.tick_us ppm }

  no_better : (others : Intervals) → Fits t ppm others → AreNoBetter t (drifting_intervals t ppm) others
  no_better others fit =
      let f = fit drifting (record { shortest = refl; longest = refl }) in
      record {
        spacings = λ b l.
            up-least ((bus_row t b).spacing * (1000000 + ppm)) (others.spacing b)
            (divided ((bus_row t b).spacing * (1000000 + ppm)) (others.spacing b * 1000000) t.tick_us (omega (arith, valid.ticks_some)) (omega (arith, f.spacings b l)));
        stream_leasts = λ s l. up-least ((stream_row t s).minimum * longest_of t.tick_us ppm) (others.stream_least s) (f.stream_minimums s l);
        stream_mosts = λ s l. down-most ((stream_row t s).maximum * shortest_of t.tick_us ppm) (others.stream_most s) (f.stream_maximums s l);
        stream_jitters = λ s l. down-most ((stream_row t s).jitter * longest_of t.tick_us ppm) (others.stream_jitter s) (f.stream_jitters s l);
        label_leasts = λ x l.
            down-most (((label_row t x).minimum - 1) * shortest_of t.tick_us ppm) (others.label_least x)
            (omega (arith, f.label_minimums x l, without_one (label_row t x).minimum (shortest_of t.tick_us ppm) (labels_wait x l)));
        label_mosts = λ x l. up-least (((label_row t x).maximum + 1) * longest_of t.tick_us ppm) (others.label_most x) (omega (arith, f.label_maximums x l));
      }

-- each label of a document's tables has an interval of a tick or more
waiting : (d : Document) (t : TableRows) → Obeys d → AreRows d t → DocumentsRound t → AreValid t → (x : ℕ) → x < length t.labels → 1 ≤ (label_row t x).minimum
waiting d t obeys rows round valid x l = some_of (label_row t x).minimum t.tick_us _ (omega (arith, valid.ticks_some)) ((round d obeys rows 0).label_minimums x l)

pub none_better : (d : Document) (t : TableRows) → Obeys d → AreRows d t → DocumentsRound t → AreValid t → NoneAreBetter t
none_better d t obeys rows round valid ppm =
    let wait = waiting d t obeys rows round valid in
    record { fit = fits t valid wait ppm; best = no_better t valid wait ppm }

pub ages_are : AgesAre
ages_are t ppm age = record { covers = up-covers ((age + 1) * longest_of t.tick_us ppm); least = up-no_fewer ((age + 1) * longest_of t.tick_us ppm) }
