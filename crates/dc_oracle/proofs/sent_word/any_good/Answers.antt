use Rattle.std.proofs.Common.{ℕ, ◌≡◌, ◌<◌, ◌∙◌, Bool, List, length, get_or, sym, ap, subst, inl, inr, arith}
use Rattle.std.specs.Prelude.{MatchBool}
use Rattle.std.proofs.lemmas.Bool.{cases_lt}
use Rattle.dc_tables.specs.declared.rows.OutputLabel.{OutputLabel}
use Rattle.dc_event.specs.Alive.{IsAlive, AreUsable}
use Rattle.dc_oracle.proofs.sent_word.any_good.Goals as goal

pub loop-source-preserved : goal.loop-source-preserved
loop-source-preserved c = λ now f clock k l. elim (cases_lt k c.loop-source.source-index) [
  | inl less ↦ c.loop-source.invariant now f clock k less
  | inr le ↦
      let P : ℕ → Type 0 = λ k. IsAlive c.args.tables.now c.args.label (get_or c.as_slice-source-items.result.now k 0) now → AreUsable c.args.tables.now c.args.label (get_or c.as_slice-source-items.result.now k 0) now → ⊥ in
      let Q : Bool → Type 0 = λ b. MatchBool b (IsAlive c.args.tables.now c.args.label (get_or c.as_slice-source-items.result.now c.loop-source.source-index 0) now × AreUsable c.args.tables.now c.args.label (get_or c.as_slice-source-items.result.now c.loop-source.source-index 0) now) (P c.loop-source.source-index) in
      let here : P c.loop-source.source-index = subst Q c.if-is_good.false (c.is_good.ensures now f clock) in
      let same : c.loop-source.source-index ≡ k = omega arith in
      subst P same here
]

pub returns : goal.returns
returns c = λ now f clock.
    let P : List ℕ → Type 0 = λ xs. (k : ℕ) → k < length xs → IsAlive c.args.tables.now c.args.label (get_or xs k 0) now → AreUsable c.args.tables.now c.args.label (get_or xs k 0) now → ⊥ in
    let all : P c.as_slice-source-items.result.now = λ k l. c.loop-source.invariant now f clock k (omega (arith, c.loop-source-test.false)) in
    subst P (c.as_slice-source-items.ensures ∙ ap (λ (r : OutputLabel). r.sources) c.label-row.ensures) all
