-- Windows and last steps along a run.
use Rattle.std.proofs.Common.{◌≡◌, ℕ, suc, ◌<◌, false, true, Option, Some, None, List, [], ◌∷◌, ◌++◌, sym, subst, arith}
use Rattle.dc_bound.specs.Window.{HoldAtLeast, ticks_of}
use Rattle.dc_bound.specs.Run.{stamped}
use Rattle.dc_bound.specs.lemmas.Steps.{pace_tick}
use Rattle.dc_queue.specs.WindowData.{WindowData, added, turned, lacks}
use Rattle.dc_event.specs.Time.{ends, tick_after}
use Rattle.dc_event.specs.lemmas.RunPush.{tick-push, ticks-other, ticks-step, steps-none_later}
use Rattle.dc_event.specs.lemmas.BudgetsPush.{calm}
use Rattle.dc_event.specs.declared.event.Event.{Event}
use Rattle.dc_bound.specs.Window.{IsLast}
use Rattle.dc_core.specs.Windows.{HoldsSteps}
use Rattle.dc_core.proofs.Holds.{lacks-true, lacks-false, holds-add, holds-turn}

-- the window's test of a lack is the rule
pub works-if : (n d most whole : ℕ) (ts : List ℕ) (w : WindowData) → 0 < d → HoldsSteps d most whole ts w → HoldAtLeast n d whole ts → lacks w n ≡ false → HoldAtLeast n d (suc whole) ts
works-if n d most whole ts w pos h old no_lack = (pace_tick n d whole ts).1 (old, lacks-false d most whole n ts w pos h no_lack)

pub works-not : (n d most whole : ℕ) (ts : List ℕ) (w : WindowData) → 0 < d → HoldsSteps d most whole ts w → lacks w n ≡ true → HoldAtLeast n d (suc whole) ts → ⊥
works-not n d most whole ts w pos h lack works =
    let r = lacks-true d most whole n ts w pos h lack in
    let p = (pace_tick n d whole ts).0 works in
    omega (arith, r.1, p.1 r.0)

-- ---- windows and last steps along a run

pub holds-same : (d most w v : ℕ) (ts us : List ℕ) (s : WindowData) → v ≡ w → us ≡ ts → HoldsSteps d most w ts s → HoldsSteps d most v us s
holds-same d most w v ts us s e f h =
    let P : ℕ → Type 0 = λ w. HoldsSteps d most w us s in
    let Q : List ℕ → Type 0 = λ ts. HoldsSteps d most w ts s in
    subst P (sym e) (subst Q (sym f) h)

pub last-same : (o : Option ℕ) (w v : ℕ) (ts us : List ℕ) → v ≡ w → us ≡ ts → IsLast o w ts → IsLast o v us
last-same o w v ts us e f h =
    let P : ℕ → Type 0 = λ w. IsLast o w us in
    let Q : List ℕ → Type 0 = λ ts. IsLast o w ts in
    subst P (sym e) (subst Q (sym f) h)

module _ (pick : Event → Option ℕ) (d most : ℕ) (run : List Event) (e : Event) (w : WindowData) where
  abbrev pub Here : WindowData → List Event → Type 0
  Here w run = HoldsSteps d most (tick_after run) (ticks_of (stamped ends pick 0 run)) w

  pub window-other : ends e ≡ 0 → pick e ≡ None → Here w run → Here w (run ++ e ∷ [])
  window-other c p h = holds-same d most _ _ _ _ w (calm run e c) (ticks-other pick run e p) h

  pub window-step : (x : ℕ) → ends e ≡ 0 → pick e ≡ Some x → Here w run → Here (added w) (run ++ e ∷ [])
  window-step x c p h = holds-same d most _ _ _ _ (added w) (calm run e c) (ticks-step pick run e x p) (holds-add d most (tick_after run) (ticks_of (stamped ends pick 0 run)) w h)

  pub window-tick : 0 < d → ends e ≡ 1 → pick e ≡ None → Here w run → Here (turned w) (run ++ e ∷ [])
  window-tick pos c p h =
      let n : tick_after (run ++ e ∷ []) ≡ suc (tick_after run) = omega (arith, tick-push run e) in
      holds-same d most _ _ _ _ (turned w) n (ticks-other pick run e p) (holds-turn d most (tick_after run) (ticks_of (stamped ends pick 0 run)) w pos (steps-none_later pick run) h)
