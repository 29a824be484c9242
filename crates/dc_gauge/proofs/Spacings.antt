-- Windows of a spacing, and intervals between neighbours.
use Rattle.std.proofs.Common.{◌≡◌, ℕ, ◌-◌, ◌≤◌, ◌↔◌, List, [], ◌∷◌, map, refl, sym, ap, subst, arith}
use Rattle.std.specs.List.{All}
use Rattle.std.proofs.lemmas.List.Elements.{All-cons, All-head, All-nil, All-tail}
use Rattle.dc_bound.specs.Turns.{NeverFall}
use Rattle.dc_bound.specs.Window.{HoldAtMost, Spaced, ticks_of}
use Rattle.dc_bound.specs.lemmas.Spacing.{spaced_iff_holds}
use Rattle.dc_gauge.specs.Laws.{SpacingsAreIntervals}
use Rattle.dc_gauge.specs.Times.{intervals_of}

abbrev untagged : ℕ → ℕ × ℕ
untagged t = (t, 0)

untagged-ticks : (ts : List ℕ) → ticks_of (map untagged ts) ≡ ts
untagged-ticks [] = refl
untagged-ticks (t ∷ ts) = ap (λ l. t ∷ l) (untagged-ticks ts)

spaced-intervals : (m : ℕ) (ts : List ℕ) → NeverFall ts → Spaced m (map untagged ts) ↔ All (λ i. m ≤ i) (intervals_of ts)
unfolding Spaced NeverFall intervals_of
spaced-intervals m [] order = ((λ h. All-nil (λ i. m ≤ i)), (λ all. tt))
spaced-intervals m (t ∷ []) order = ((λ h. All-nil (λ i. m ≤ i)), (λ all. tt))
spaced-intervals m (t ∷ u ∷ ts) order =
    let rest = spaced-intervals m (u ∷ ts) order.1 in (
      (λ h. All-cons (λ i. m ≤ i) (u - t) (intervals_of (u ∷ ts)) (omega (arith, h.0)) (rest.0 h.1)),
      (λ all. (omega (arith, order.0, All-head (λ i. m ≤ i) (u - t) (intervals_of (u ∷ ts)) all), rest.1 (All-tail (λ i. m ≤ i) (u - t) (intervals_of (u ∷ ts)) all))),
    )

pub spacings : SpacingsAreIntervals
spacings m ts some order =
    let e : ticks_of (map untagged ts) ≡ ts = untagged-ticks ts in
    let P : List ℕ → Type 0 = λ l. HoldAtMost 1 m l in
    let by_windows = spaced_iff_holds m some (map untagged ts) (subst NeverFall (sym e) order) in
    let by_intervals = spaced-intervals m ts order in (
      (λ h. by_intervals.0 (by_windows.0 (subst P (sym e) h))),
      (λ all. subst P e (by_windows.1 (by_intervals.1 all))),
    )
