use Rattle.std.proofs.Common.{ℕ, ◌≡◌, ◌∙◌, Bool, get_or, sym, ap, subst}
use Rattle.std.specs.Prelude.{MatchBool}
use Rattle.dc_tables.specs.declared.rows.OutputLabel.{OutputLabel}
use Rattle.dc_event.specs.Alive.{IsAlive, AreUsable}
use Rattle.dc_oracle.proofs.Judging.{first-reported}
use Rattle.dc_oracle.proofs.sent_word.uses_first.Goals as goal

pub returns-in-Some : goal.returns-in-Some
returns-in-Some c = λ now f clock is.
    let s : ℕ = get_or c.as_slice-sources.result.now 0 0 in
    let Q : Bool → Type 0 = λ b. MatchBool b (IsAlive c.args.tables.now c.args.label (get_or c.as_slice-sources.result.now 0 0) now × AreUsable c.args.tables.now c.args.label (get_or c.as_slice-sources.result.now 0 0) now)
    (IsAlive c.args.tables.now c.args.label (get_or c.as_slice-sources.result.now 0 0) now → AreUsable c.args.tables.now c.args.label (get_or c.as_slice-sources.result.now 0 0) now → ⊥) in
    first-reported c.args.tables.now c.args.label (get_or c.as_slice-sources.result.now 0 0) now (c.in-Some.stream, c.in-Some.field-0-1)
    (ap (λ xs. get_or xs 0 0) c.as_slice-sources.ensures ∙ ap (λ (r : OutputLabel). get_or r.sources 0 0) c.label-row.ensures)
    (sym c.in-Some.is ∙ is) (subst Q c.if-not-is_good.false (c.is_good.ensures now f clock))
