-- The least jitter, and one more word.
use Rattle.std.proofs.Common.{ℕ, ◌+◌, ◌-◌, ◌≤◌, ◌↔◌, max, List, [], ◌∷◌, ◌++◌, sym, ◌∙◌, arith}
use Rattle.std.proofs.lemmas.Bool.{le-ltb, ltb-false}
use Rattle.dc_bound.specs.Turns.{NeverFall}
use Rattle.dc_bound.specs.Early.{HoldsCap, jitter_cap, pace_of}
use Rattle.dc_bound.specs.lemmas.Counts.{count_in-nil}
use Rattle.dc_bound.specs.lemmas.Caps.{jitter_cap-mono}
use Rattle.dc_bound.specs.lemmas.Recent.{NoneLater}
use Rattle.dc_bound.specs.lemmas.Steps.{count_in-push}
use Rattle.dc_bound.specs.lemmas.Earliness.{early_iff}
use Rattle.dc_bound.specs.lemmas.Pacing.{rule_is}
use Rattle.dc_gauge.specs.Times.{IsLeastJitter}

-- with any jitter no word keeps the cap
pub least_jitter-nil : (m : ℕ) → IsLeastJitter m [] 0
least_jitter-nil m k = ((λ h. omega arith), (λ h d u. omega (arith, count_in-nil u d)))

-- one more word keeps the cap exactly where the words before keep it, and the number of the pace is no more than the jitter after its time
pub holds_cap-push : (m : ℕ) → 1 ≤ m → (ts : List ℕ) (t : ℕ) → NeverFall ts → NoneLater t ts → (k : ℕ) → HoldsCap (jitter_cap m k) (ts ++ t ∷ []) ↔ (HoldsCap (jitter_cap m k) ts × (pace_of m ts ≤ t + k))
holds_cap-push m some ts t order none k =
    let grows : (d e : ℕ) → d ≤ e → jitter_cap m k d ≤ jitter_cap m k e = λ d e le. jitter_cap-mono m k d e some le in
    let front : HoldsCap (jitter_cap m k) (ts ++ t ∷ []) → HoldsCap (jitter_cap m k) ts = λ h d u. omega (arith, h d u, count_in-push u d ts t) in (
      (λ h. (front h, ltb-false (t + k) (pace_of m ts) (sym (rule_is m k some ts order t none) ∙ (early_iff (jitter_cap m k) grows ts t none (front h)).1 h))),
      (λ h. (early_iff (jitter_cap m k) grows ts t none h.0).0 (rule_is m k some ts order t none ∙ le-ltb (t + k) (pace_of m ts) h.1)),
    )

pub least_jitter-push : (m : ℕ) → 1 ≤ m → (ts : List ℕ) (t j : ℕ) → NeverFall ts → NoneLater t ts → IsLeastJitter m ts j → IsLeastJitter m (ts ++ t ∷ []) (max j (pace_of m ts - t))
least_jitter-push m some ts t j order none h k =
    let step = holds_cap-push m some ts t order none k in (
      (λ held. (let parts = step.0 held in omega (arith, parts.1, (h k).0 parts.0))),
      (λ le. step.1 ((h k).1 (omega arith), omega arith)),
    )
