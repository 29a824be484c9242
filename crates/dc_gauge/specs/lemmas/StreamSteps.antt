-- One more word keeps what a gauge stands for.
use Rattle.std.proofs.Common.{◌≡◌, ℕ, suc, ◌+◌, ◌-◌, ◌*◌, ◌≤◌, ◌<◌, ◌^◌, not, is_some, ltb, ◌&&◌, Option, Some, None, List, [], ◌∷◌, ◌++◌, length, refl, sym, ap, ◌∙◌, arith, inl, inr}
use Rattle.std.specs.Prelude.{if◌then◌else◌}
use Rattle.std.proofs.lemmas.Bool.{cases_lt, lt-ltb, le-ltb}
use Rattle.std.proofs.lemmas.List.Sums.{count_by-le-length}
use Rattle.std.proofs.Math.Nat.{mul-le-mul_right}
use Rattle.dc_bound.specs.Window.{ticks_of}
use Rattle.dc_bound.specs.Turns.{NeverFall}
use Rattle.dc_bound.specs.Early.{pace_of}
use Rattle.dc_bound.specs.lemmas.Counts.{count_in-nil}
use Rattle.dc_bound.specs.lemmas.Recent.{NoneLater}
use Rattle.dc_bound.specs.lemmas.Earliness.{none_later-rise}
use Rattle.dc_bound.specs.lemmas.Pacing.{pace_of-nil, pace_of-push, in_order-push}
use Rattle.dc_gauge.specs.Times.{IsLeastJitter, intervals_of, IsLeastOf, IsGreatestOf, count_over, BreaksAt, last_time}
use Rattle.dc_gauge.specs.Gauges.{KeepsTiming, IsStreamGauge}
use Rattle.dc_gauge.specs.Steps.{no_stream_words, one_more, stream_gauged}
use Rattle.dc_gauge.specs.declared.stream.StreamGauge.{StreamGauge}
use Rattle.dc_gauge.specs.declared.timing.StreamTiming.{StreamTiming}
use Rattle.dc_gauge.specs.lemmas.LeastJitter.{least_jitter-nil, least_jitter-push, holds_cap-push}
use Rattle.dc_gauge.specs.lemmas.OneMore.{times-push, last_time-push, intervals_of-one, intervals_of-push, least_of-push, greatest_of-push, count_over-push, breaks-later, breaks-now, breaks-not, last_none_later, pace_of-bound, length-push}

pub no_intervals : intervals_of [] ≡ []
unfolding intervals_of
no_intervals = refl

pub stream-new : (timing : StreamTiming) → IsStreamGauge timing [] no_stream_words
unfolding NeverFall
stream-new timing = record {
  order = tt;
  words = refl;
  last = refl;
  least = no_intervals;
  greatest = no_intervals;
  over = rw no_intervals refl;
  pace = sym (pace_of-nil timing.min_us);
  jitter = least_jitter-nil timing.min_us;
  early = λ d u. omega (arith, count_in-nil u d);
}

pub times-length : (xs : List (ℕ × ℕ)) → length (ticks_of xs) ≡ length xs
times-length [] = refl
times-length (x ∷ xs) = ap suc (times-length xs)

intervals_of-length : (ts : List ℕ) → length (intervals_of ts) ≤ length ts
unfolding intervals_of
intervals_of-length [] = omega arith
intervals_of-length (a ∷ []) = omega arith
intervals_of-length (a ∷ b ∷ ts) = omega (arith, intervals_of-length (b ∷ ts))

-- what is said of the intervals, with one word more
pub empty_times : (ts : List ℕ) → length ts ≡ 0 → ts ≡ []
empty_times [] h = refl
empty_times (t ∷ ts) h = absurd (omega arith)

pub first_intervals : (ts : List ℕ) (time : ℕ) → length ts ≡ 0 → intervals_of (ts ++ time ∷ []) ≡ intervals_of ts
first_intervals ts time z = (let e : ts ≡ [] = empty_times ts z in rw e (intervals_of-one time ∙ sym no_intervals))

pub more_intervals : (ts : List ℕ) (time : ℕ) → 1 ≤ length ts → intervals_of (ts ++ time ∷ []) ≡ intervals_of ts ++ (time - last_time ts) ∷ []
more_intervals ts time some = intervals_of-push ts time some

module _ (timing : StreamTiming) (came : List (ℕ × ℕ)) (g : StreamGauge) (time line : ℕ) (some : 1 ≤ timing.min_us) (h : IsStreamGauge timing came g) (later : last_time (ticks_of came) ≤ time) where
  ts : List ℕ
  ts = ticks_of came

  none : NoneLater time (ticks_of came)
  none = none_later-rise (last_time (ticks_of came)) time (ticks_of came) later (last_none_later (ticks_of came) h.order)

  counted : length (ticks_of came) ≡ length came
  counted = times-length came

  first : g.words ≡ 0 → intervals_of (ticks_of came ++ time ∷ []) ≡ intervals_of (ticks_of came)
  first z = first_intervals (ticks_of came) time (omega (arith, counted, h.words))

  more : 0 < g.words → intervals_of (ticks_of came ++ time ∷ []) ≡ intervals_of (ticks_of came) ++ (time - g.last) ∷ []
  more some = rw h.last (more_intervals (ticks_of came) time (omega (arith, counted, h.words)))

  least : IsLeastOf (intervals_of (ticks_of came ++ time ∷ [])) (stream_gauged timing time line g).least
  least =
      elim (cases_lt 0 g.words) [
        | inl l ↦ rw (lt-ltb 0 g.words l, more l) (least_of-push (intervals_of (ticks_of came)) g.least (time - g.last) h.least)
        | inr l ↦ rw (le-ltb 0 g.words l, first (omega arith)) h.least
      ]

  greatest : IsGreatestOf (intervals_of (ticks_of came ++ time ∷ [])) (stream_gauged timing time line g).greatest
  greatest =
      elim (cases_lt 0 g.words) [
        | inl l ↦ rw (lt-ltb 0 g.words l, more l) (greatest_of-push (intervals_of (ticks_of came)) g.greatest (time - g.last) h.greatest)
        | inr l ↦ rw (le-ltb 0 g.words l, first (omega arith)) h.greatest
      ]

  over : length came < 2 ^ 64 - 1 → (stream_gauged timing time line g).over ≡ count_over timing.max_us (intervals_of (ticks_of came ++ time ∷ []))
  over few =
      let bound : count_over timing.max_us (intervals_of (ticks_of came)) ≤ length (intervals_of (ticks_of came)) = count_by-le-length (ltb timing.max_us) (intervals_of (ticks_of came)) in
      let small : g.over < 2 ^ 64 - 1 = omega (arith, intervals_of-length (ticks_of came), counted, h.over) in
      let one : one_more g.over ≡ g.over + 1 = omega arith in
      elim (cases_lt 0 g.words) [
        | inl l ↦ elim (cases_lt timing.max_us (time - g.last)) [
          | inl m ↦ rw (lt-ltb 0 g.words l, lt-ltb timing.max_us (time - g.last) m, more l, count_over-push timing.max_us (intervals_of (ticks_of came)) (time - g.last), lt-ltb timing.max_us (time - g.last) m) (omega (arith, one, h.over))
          | inr m ↦ rw (lt-ltb 0 g.words l, le-ltb timing.max_us (time - g.last) m, more l, count_over-push timing.max_us (intervals_of (ticks_of came)) (time - g.last), le-ltb timing.max_us (time - g.last) m) (omega (arith, h.over))
        ]
        | inr l ↦ rw (le-ltb 0 g.words l, first (omega arith)) h.over
      ]

  pace : timing.min_us < 2 ^ 32 → time < 2 ^ 64 → length came < 2 ^ 64 - 1 → (stream_gauged timing time line g).pace ≡ pace_of timing.min_us (ticks_of came ++ time ∷ [])
  pace narrow early few =
      let bound = pace_of-bound timing.min_us (ticks_of came) h.order in
      let part : length (ticks_of came) * timing.min_us ≤ 18446744073709551616 * timing.min_us = mul-le-mul_right timing.min_us (let l : length (ticks_of came) ≤ 18446744073709551616 = omega (arith, counted) in l) in
      omega (arith, pace_of-push timing.min_us (ticks_of came) time, h.pace, bound, part)

  jitter : IsLeastJitter timing.min_us (ticks_of came ++ time ∷ []) (stream_gauged timing time line g).jitter
  jitter = rw h.pace (least_jitter-push timing.min_us some (ticks_of came) time g.jitter h.order none h.jitter)

  kept : KeepsTiming timing (ticks_of came) → g.pace - time ≤ timing.jitter_us → KeepsTiming timing (ticks_of came ++ time ∷ [])
  kept k le = (holds_cap-push timing.min_us some (ticks_of came) time h.order none timing.jitter_us).1 (k, omega (arith, h.pace))

  broken : timing.jitter_us < g.pace - time → ¬ KeepsTiming timing (ticks_of came ++ time ∷ [])
  broken lt k = (let parts = (holds_cap-push timing.min_us some (ticks_of came) time h.order none timing.jitter_us).0 k in omega (arith, parts.1, h.pace))

  early_from : (o : Option ℕ) → BreaksAt (KeepsTiming timing) came o → BreaksAt (KeepsTiming timing) (came ++ (time, line) ∷ []) (if not (is_some o) && ltb timing.jitter_us (g.pace - time) then Some line else o)
  early_from (Some p) b = breaks-later (KeepsTiming timing) came (time, line) p b
  early_from None b =
      elim (cases_lt timing.jitter_us (g.pace - time)) [
        | inl l ↦ rw (lt-ltb timing.jitter_us (g.pace - time) l) (breaks-now (KeepsTiming timing) came (time, line) b (broken l))
        | inr l ↦ rw (le-ltb timing.jitter_us (g.pace - time) l) (breaks-not (KeepsTiming timing) came (time, line) (kept b l))
      ]

  pub stream-push : timing.min_us < 2 ^ 32 → time < 2 ^ 64 → length came < 2 ^ 64 - 1 → IsStreamGauge timing (came ++ (time, line) ∷ []) (stream_gauged timing time line g)
  stream-push narrow early few =
      let e : ticks_of (came ++ (time, line) ∷ []) ≡ ticks_of came ++ time ∷ [] = times-push came (time, line) in
      record {
        order = rw e (in_order-push (ticks_of came) time h.order none);
        words = omega (arith, h.words, length-push came (time, line));
        last = rw e (sym (last_time-push (ticks_of came) time));
        least = rw e least;
        greatest = rw e greatest;
        over = rw e (over few);
        pace = rw e (pace narrow early few);
        jitter = rw e jitter;
        early = early_from g.early h.early;
      }
