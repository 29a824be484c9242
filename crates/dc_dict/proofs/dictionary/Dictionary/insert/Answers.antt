use Rattle.std.proofs.Common.{◌≡◌, true, false, ◌∷◌, [], ◌++◌, List, ap, sym, subst, refl, ◌∙◌}
use Rattle.indexmap.proofs.CallerLemmas.{insert_entry-new}
use Rattle.std.specs.Map.{values_of}
use Rattle.dc_dict.specs.declared.parameter.Parameter.{Parameter}
use Rattle.dc_dict.specs.Rows.{AreKeyed, AreUnique}
use Rattle.dc_dict.proofs.Entries.{same_key, lookup-row_of, keyed_push, values_of-push, unique_push, refusal_by_map, none_from_is_some, on_ok_from_is_err}
use Rattle.dc_dict.proofs.dictionary.Dictionary.insert.Goals as goal

pub returns-then-contains_key-clause-refusal : goal.returns-then-contains_key-clause-refusal
returns-then-contains_key-clause-refusal c =
    rw (refusal_by_map c.self.inside.rows.entries c.args.self.now c.args.row true c.self.invariant.0 c.self.view_is
    (sym c.if-contains_key.true ∙ c.contains_key.ensures) c.if-row-eq0.false c.if-row-eq0-2.false c.if-row.false)
    refl

pub returns-then-is_err-clause-refusal : goal.returns-then-is_err-clause-refusal
returns-then-is_err-clause-refusal c =
    rw (refusal_by_map c.self.inside.rows.entries c.args.self.now c.args.row false c.self.invariant.0 c.self.view_is
    (sym c.if-contains_key.false ∙ c.contains_key.ensures) c.if-row-eq0.false c.if-row-eq0-2.false c.if-row.false)
    refl

pub returns-clause-refusal : goal.returns-clause-refusal
returns-clause-refusal c =
    rw (refusal_by_map c.self.inside.rows.entries c.args.self.now c.args.row false c.self.invariant.0 c.self.view_is
    (sym c.if-contains_key.false ∙ c.contains_key.ensures) c.if-row-eq0.false c.if-row-eq0-2.false c.if-row.false)
    tt

-- the entries after the insert are those before, and the row under its key
entries_after : (c : goal.Else-is_err) → c.insert.new.self.entries ≡ c.self.inside.rows.entries ++ ((c.args.row.label, c.args.row.equipment), c.args.row) ∷ []
entries_after c =
    let ok = sym c.is_err.ensures.value ∙ c.if-is_err.false in
    let absent = none_from_is_some _ (sym c.contains_key.ensures ∙ c.if-contains_key.false) in
    on_ok_from_is_err c.insert.result _ ok c.insert.ensures.entries
    ∙ insert_entry-new same_key c.self.inside.rows (c.args.row.label, c.args.row.equipment) c.args.row absent

rows_after : (c : goal.Else-is_err) → values_of c.insert.new.self.entries ≡ values_of c.self.inside.rows.entries ++ c.args.row ∷ []
rows_after c = ap values_of (entries_after c) ∙ values_of-push c.self.inside.rows.entries (c.args.row.label, c.args.row.equipment) c.args.row

pub invariant_of-self-2 : goal.invariant_of-self-2
invariant_of-self-2 c =
    let absent = none_from_is_some _ (sym c.contains_key.ensures ∙ c.if-contains_key.false) in
    let new = sym (lookup-row_of c.self.inside.rows.entries c.args.row.label c.args.row.equipment c.self.invariant.0) ∙ absent in (
      subst AreKeyed (sym (entries_after c)) (keyed_push c.self.inside.rows.entries c.args.row c.self.invariant.0),
      subst AreUnique (sym (rows_after c)) (unique_push (values_of c.self.inside.rows.entries) c.args.row c.self.invariant.1 new),
    )

pub returns-clause-ok : goal.returns-clause-ok
returns-clause-ok c = rows_after c ∙ ap (λ (rows : List Parameter). rows ++ c.args.row ∷ []) c.self.view_is
