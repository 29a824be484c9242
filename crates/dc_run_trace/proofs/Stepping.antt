-- Ticks that are written one after another, and then a word.
use Rattle.std.proofs.Common.{◌≡◌, ℕ, suc, ◌+◌, ◌-◌, ◌≤◌, ◌<◌, List, [], ◌∷◌, ◌++◌, Option, refl, sym, ◌∙◌, ap, subst, arith, inl, inr}
use Rattle.std.proofs.lemmas.Bool.{cases_lt}
use Rattle.dc_device.specs.Bytes.{AppendsFront}
use Rattle.dc_device.specs.Lines.{spelled}
use Rattle.dc_event.specs.Steady.{each_below, steady_tick}
use Rattle.dc_event.specs.declared.event.Event.{Event}
use Rattle.dc_run_trace.proofs.Spelling.{lines-append}
use Rattle.dc_run_trace.proofs.Told.{front_lines}
use Rattle.dc_run_trace.proofs.Tracing.{parts}
use Rattle.dc_run_trace.specs.Lines.{run_text}
use Rattle.dc_run_trace.specs.Steps.{steady_from, up_to_word}
use Rattle.dc_run_trace.specs.declared.clock.Clock.{Clock}
use Rattle.dc_tables.specs.TableRows.{TableRows}
use Rattle.dc_trace.specs.Traces.{arrive, tick_at}

-- the ticks that were written, where a loop over them has ended
pub all_ticks : (k tick next : ℕ) → tick ≤ k → next ≤ k → (tick ≤ next → k ≤ next) → (next ≤ tick → k ≡ tick) → k - tick ≡ next - tick
all_ticks k tick next after end near far =
    elim (cases_lt tick next) [
      | inl lt ↦ omega (arith, near (omega (arith, lt)), end)
      | inr ge ↦ omega (arith, far ge, ge)
    ]

-- one tick more
pub ticks_more : (t : TableRows) (tick k : ℕ) → tick ≤ k → run_text t (steady_from t tick (k - tick)) ++ run_text t (steady_tick t k) ≡ run_text t (steady_from t tick (k + 1 - tick))
ticks_more t tick k after =
    let next : k + 1 - tick ≡ suc (k - tick) = omega (arith, after) in
    let here : k ≡ tick + (k - tick) = omega (arith, after) in
    sym (ap (λ n. run_text t (steady_from t tick n)) next ∙ lines-append t (steady_from t tick (k - tick)) (steady_tick t (tick + (k - tick))) ∙ ap (λ n. run_text t (steady_from t tick (k - tick)) ++ run_text t (steady_tick t n)) (sym here))

-- a front of some ticks is one of more
pub ticks_front : (a b : Option (List ℕ)) (w : List ℕ) (t : TableRows) (tick k next : ℕ) → tick ≤ k → k < next → AppendsFront a b (w ++ spelled (run_text t (steady_from t tick (k + 1 - tick))))
    → AppendsFront a b (w ++ spelled (run_text t (steady_from t tick (next - tick))))
ticks_front a b w t tick k next after more front =
    let n = k + 1 - tick in
    let m = next - (k + 1) in
    let all : next - tick ≡ n + m = omega (arith, after, more) in
    let f : ℕ → List Event = λ i. steady_tick t (tick + i) in
    let whole : run_text t (steady_from t tick (next - tick)) ≡ run_text t (steady_from t tick n) ++ run_text t (each_below (λ i. f (n + i)) m) =
    ap (λ j. run_text t (steady_from t tick j)) all ∙ ap (run_text t) (parts f n m) ∙ lines-append t (each_below f n) (each_below (λ i. f (n + i)) m) in
    subst (λ lines. AppendsFront a b (w ++ spelled lines)) (sym whole) (front_lines a b w (run_text t (steady_from t tick n)) (run_text t (each_below (λ i. f (n + i)) m)) front)

-- the ticks up to a word, and the word
pub up_text : (t : TableRows) (clock : Clock) (x : ℕ × (ℕ × ℕ)) (n : ℕ) → n ≡ tick_at clock.from t.tick_us x.0
    → run_text t (steady_from t clock.tick (n - clock.tick)) ++ run_text t (arrive x ∷ []) ≡ run_text t (up_to_word t clock x)
up_text t clock x n is =
    ap (λ n. run_text t (steady_from t clock.tick (n - clock.tick)) ++ run_text t (arrive x ∷ [])) is
    ∙ sym (lines-append t (steady_from t clock.tick (tick_at clock.from t.tick_us x.0 - clock.tick)) (arrive x ∷ []))
