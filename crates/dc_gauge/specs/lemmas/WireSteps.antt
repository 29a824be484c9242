-- One more word keeps what a wire's gauge stands for.
use Rattle.std.proofs.Common.{◌≡◌, ℕ, suc, ◌+◌, ◌-◌, ◌≤◌, ◌<◌, ◌^◌, not, is_some, ltb, ◌&&◌, Option, Some, None, List, [], ◌∷◌, ◌++◌, length, refl, sym, arith, inl, inr}
use Rattle.std.specs.Prelude.{if◌then◌else◌}
use Rattle.std.proofs.lemmas.Bool.{cases_lt, lt-ltb, le-ltb}
use Rattle.dc_bound.specs.Window.{ticks_of, HoldAtMost}
use Rattle.dc_bound.specs.Turns.{NeverFall}
use Rattle.dc_bound.specs.lemmas.Counts.{count_in-nil, one_in_cases}
use Rattle.dc_bound.specs.lemmas.FirstPlaces.{snoc_induction}
use Rattle.dc_bound.specs.lemmas.Steps.{count_in-push}
use Rattle.dc_bound.specs.lemmas.Recent.{NoneLater, most_push, recent}
use Rattle.dc_bound.specs.lemmas.Earliness.{none_later-rise}
use Rattle.dc_bound.specs.lemmas.Pacing.{in_order-push}
use Rattle.dc_gauge.specs.Times.{intervals_of, IsLeastOf, BreaksAt, last_time}
use Rattle.dc_gauge.specs.Gauges.{IsWireGauge}
use Rattle.dc_gauge.specs.Steps.{no_wire_words, wire_gauged}
use Rattle.dc_gauge.specs.declared.wire.WireGauge.{WireGauge}
use Rattle.dc_gauge.specs.lemmas.OneMore.{times-push, last_time-push, least_of-push, breaks-later, breaks-now, breaks-not, last_none_later, length-push}
use Rattle.dc_gauge.specs.lemmas.StreamSteps.{no_intervals, times-length, first_intervals, more_intervals, empty_times}

pub wire-new : (spacing : ℕ) → IsWireGauge spacing [] no_wire_words
unfolding NeverFall
wire-new spacing = record { order = tt; words = refl; last = refl; least = no_intervals; broken = λ u. omega (arith, count_in-nil u spacing) }

-- where the last word came at least so long ago, the last ticks hold none, else they hold one
far : (w : ℕ) (ts : List ℕ) (t : ℕ) → 1 ≤ w → NeverFall ts → NoneLater t ts → last_time ts + w ≤ t → recent w t ts ≡ 0
far w ts t some order none le = last_none_later ts order (suc t - w) w (omega arith)

near_at : (w : ℕ) (ts : List ℕ) (k t : ℕ) → k ≤ t → t < k + w → 1 ≤ recent w t (ts ++ k ∷ [])
near_at w ts k t le lt =
    elim (one_in_cases (suc t - w) w k) [
      | inl a ↦ omega (arith, count_in-push (suc t - w) w ts k, a.2)
      | inr v ↦ elim v [ inl a ↦ absurd (omega (arith, a.0)) | inr a ↦ absurd (omega (arith, a.0)) ]
    ]

near : (w : ℕ) (ts : List ℕ) → 1 ≤ length ts → (t : ℕ) → last_time ts ≤ t → t < last_time ts + w → 1 ≤ recent w t ts
near w ts =
    snoc_induction (λ ts. 1 ≤ length ts → (t : ℕ) → last_time ts ≤ t → t < last_time ts + w → 1 ≤ recent w t ts) (λ some. absurd (omega arith)) (λ ts k h some t le lt.
    near_at w ts k t (omega (arith, last_time-push ts k)) (omega (arith, last_time-push ts k))) ts

module _ (w : ℕ) (came : List (ℕ × ℕ)) (g : WireGauge) (time line : ℕ) (some : 1 ≤ w) (h : IsWireGauge w came g) (later : last_time (ticks_of came) ≤ time) where
  none : NoneLater time (ticks_of came)
  none = none_later-rise (last_time (ticks_of came)) time (ticks_of came) later (last_none_later (ticks_of came) h.order)

  counted : length (ticks_of came) ≡ length came
  counted = times-length came

  least : IsLeastOf (intervals_of (ticks_of came ++ time ∷ [])) (wire_gauged w time line g).least
  least =
      elim (cases_lt 0 g.words) [
        | inl l ↦ rw (lt-ltb 0 g.words l, h.last, more_intervals (ticks_of came) time (omega (arith, counted, h.words))) (least_of-push (intervals_of (ticks_of came)) g.least (time - last_time (ticks_of came)) h.least)
        | inr l ↦ rw (le-ltb 0 g.words l, first_intervals (ticks_of came) time (omega (arith, counted, h.words))) h.least
      ]

  kept : HoldAtMost 1 w (ticks_of came) → recent w time (ticks_of came) ≡ 0 → HoldAtMost 1 w (ticks_of came ++ time ∷ [])
  kept k z = (most_push 1 w time (ticks_of came) some none).1 (k, omega arith)

  broken_by : 1 ≤ recent w time (ticks_of came) → ¬ HoldAtMost 1 w (ticks_of came ++ time ∷ [])
  broken_by one k = (let parts = (most_push 1 w time (ticks_of came) some none).0 k in omega (arith, parts.1))

  first_none : g.words ≡ 0 → recent w time (ticks_of came) ≡ 0
  first_none z =
      let e : ticks_of came ≡ [] = empty_times (ticks_of came) (omega (arith, counted, h.words)) in
      rw e (count_in-nil (suc time - w) w)

  broken_from : (o : Option ℕ) → BreaksAt (HoldAtMost 1 w) came o → BreaksAt (HoldAtMost 1 w) (came ++ (time, line) ∷ []) (if ltb 0 g.words && (ltb (time - g.last) w && not (is_some o)) then Some line else o)
  broken_from (Some p) b =
      elim (cases_lt 0 g.words) [
        | inl l ↦ elim (cases_lt (time - g.last) w) [
          | inl m ↦ rw (lt-ltb 0 g.words l, lt-ltb (time - g.last) w m) (breaks-later (HoldAtMost 1 w) came (time, line) p b)
          | inr m ↦ rw (lt-ltb 0 g.words l, le-ltb (time - g.last) w m) (breaks-later (HoldAtMost 1 w) came (time, line) p b)
        ]
        | inr l ↦ rw (le-ltb 0 g.words l) (breaks-later (HoldAtMost 1 w) came (time, line) p b)
      ]
  broken_from None b =
      elim (cases_lt 0 g.words) [
        | inl l ↦ elim (cases_lt (time - g.last) w) [
          | inl m ↦ rw (lt-ltb 0 g.words l, lt-ltb (time - g.last) w m) (breaks-now (HoldAtMost 1 w) came (time, line) b (broken_by (near w (ticks_of came) (omega (arith, counted, h.words)) time later (omega (arith, h.last)))))
          | inr m ↦ rw (lt-ltb 0 g.words l, le-ltb (time - g.last) w m) (breaks-not (HoldAtMost 1 w) came (time, line) (kept b (far w (ticks_of came) time some h.order none (omega (arith, h.last)))))
        ]
        | inr l ↦ rw (le-ltb 0 g.words l) (breaks-not (HoldAtMost 1 w) came (time, line) (kept b (first_none (omega arith))))
      ]

  pub wire-push : length came < 2 ^ 64 - 1 → IsWireGauge w (came ++ (time, line) ∷ []) (wire_gauged w time line g)
  wire-push few =
      let e : ticks_of (came ++ (time, line) ∷ []) ≡ ticks_of came ++ time ∷ [] = times-push came (time, line) in
      record {
        order = rw e (in_order-push (ticks_of came) time h.order none);
        words = omega (arith, h.words, length-push came (time, line));
        last = rw e (sym (last_time-push (ticks_of came) time));
        least = rw e least;
        broken = broken_from g.broken h.broken;
      }
