-- The map's entries, and the rows.
use Rattle.std.proofs.Common.{◌≡◌, ◌⊎◌, ℕ, zero, suc, ◌≤◌, Bool, true, false, cond, ◌&&◌, ◌≢◌, nat_eq, List, [], ◌∷◌, ◌++◌, length, Option, Some, None, is_some, Result, Ok, Err, is_err, OnOk, if◌then◌else◌, slice_get, find, refl, sym, ap, ◌∙◌, inl, inr, arith}
use Rattle.std.proofs.lemmas.Bool.{eq-eqb, ne_eqb, le-ltb}
use Rattle.std.proofs.lemmas.List.Elements.{All-head, All-tail, All-push}
use Rattle.std.specs.Map.{lookup, values_of}
use Rattle.dc_dict.specs.declared.fault.DictFault.TheVariants.{Doubled}
use Rattle.dc_dict.specs.declared.parameter.Parameter.{Parameter}
use Rattle.dc_dict.specs.Rows.{is_row_of, row_of, refusal_of, AreKeyed, AreUnique}

abbrev IsKeyed : (ℕ × ℕ) × Parameter → Type 0
IsKeyed e = (e.0.0 ≡ e.1.label) × (e.0.1 ≡ e.1.equipment)

-- how the map compares keys
abbrev pub same_key : ℕ × ℕ → ℕ × ℕ → Bool
same_key a b = nat_eq a.0 b.0 && nat_eq a.1 b.1

-- a look-up by the keys finds the row
pub lookup-row_of : (es : List ((ℕ × ℕ) × Parameter)) (label equipment : ℕ) → AreKeyed es
    → lookup (same_key (label, equipment)) es ≡ row_of (values_of es) label equipment
lookup-row_of [] label equipment keyed = refl
lookup-row_of (e ∷ es) label equipment keyed =
    let head = All-head IsKeyed e es keyed in
    ap (λ (k : ℕ × ℕ). cond (same_key (label, equipment) k) (Some e.1) (lookup (same_key (label, equipment)) es)) (λ i. (head.0 i, head.1 i))
    ∙ ap (λ (r : Option Parameter). cond (is_row_of label equipment e.1) (Some e.1) r) (lookup-row_of es label equipment (All-tail IsKeyed e es keyed))

pub keyed_push : (es : List ((ℕ × ℕ) × Parameter)) (row : Parameter) → AreKeyed es → AreKeyed (es ++ ((row.label, row.equipment), row) ∷ [])
keyed_push es row keyed = All-push IsKeyed es ((row.label, row.equipment), row) keyed (refl, refl)

pub values_of-push : (es : List ((ℕ × ℕ) × Parameter)) (k : ℕ × ℕ) (row : Parameter) → values_of (es ++ (k, row) ∷ []) ≡ values_of es ++ row ∷ []
values_of-push [] k row = refl
values_of-push (e ∷ es) k row = ap (λ rows. e.1 ∷ rows) (values_of-push es k row)

-- a row after one more is one of those before, or the new one
place : (rows : List Parameter) (row : Parameter) (i : ℕ) (a : Parameter) → slice_get (rows ++ row ∷ []) i ≡ Some a
    → (slice_get rows i ≡ Some a) ⊎ ((i ≡ length rows) × (row ≡ a))
place [] row zero a at = inr (refl, (cc))
place [] row (suc i) a at = absurd (cc)
place (r ∷ rows) row zero a at = inl at
place (r ∷ rows) row (suc i) a at =
    elim (place rows row i a at) [ inl h ↦ inl h | inr h ↦ inr (omega (arith, h.0), h.1) ]

-- where no row passes, none does
none_step : (test : Parameter → Bool) (r : Parameter) (rest : List Parameter) (a : Parameter) (i : ℕ) (b : Bool) → test r ≡ b
    → cond b (Some r) (find test rest) ≡ None → slice_get (r ∷ rest) i ≡ Some a
    → ((j : ℕ) → find test rest ≡ None → slice_get rest j ≡ Some a → test a ≡ false) → test a ≡ false
none_step test r rest a i true e none at later = absurd (cc)
none_step test r rest a zero false e none at later = let same : r ≡ a = (cc) in sym (ap test same) ∙ e
none_step test r rest a (suc i) false e none at later = later i none at

none_passes : (test : Parameter → Bool) (rows : List Parameter) (i : ℕ) (a : Parameter) → find test rows ≡ None → slice_get rows i ≡ Some a → test a ≡ false
none_passes test [] i a none at = absurd (cc)
none_passes test (r ∷ rest) i a none at = none_step test r rest a i (test r) refl none at (λ j. none_passes test rest j a)

-- a row of this label and equipment code passes the test of them
passes : (a b : Parameter) → a.label ≡ b.label → a.equipment ≡ b.equipment → is_row_of a.label a.equipment b ≡ true
passes a b labels equipments =
    let first = eq-eqb a.label b.label labels in
    let second = eq-eqb a.equipment b.equipment equipments in
    rw (first, second) refl

-- so a row whose label and equipment code are not there is another one
other : (rows : List Parameter) (row : Parameter) (i : ℕ) (a : Parameter) → row_of rows row.label row.equipment ≡ None → slice_get rows i ≡ Some a
    → row.label ≡ a.label → row.equipment ≡ a.equipment → ⊥
other rows row i a none at labels equipments =
    let no = none_passes (is_row_of row.label row.equipment) rows i a none at in
    let yes = passes row a labels equipments in
    cc

pub unique_push : (rows : List Parameter) (row : Parameter) → AreUnique rows → row_of rows row.label row.equipment ≡ None → AreUnique (rows ++ row ∷ [])
unique_push rows row unique none i j a b at_i at_j labels equipments =
    elim (place rows row i a at_i) [
      | inl here ↦ elim (place rows row j b at_j) [
        | inl there ↦ unique i j a b here there labels equipments
        | inr last ↦ absurd (other rows row i a none here (ap (λ (r : Parameter). r.label) last.1 ∙ sym labels) (ap (λ (r : Parameter). r.equipment) last.1 ∙ sym equipments))
      ]
      | inr last ↦ elim (place rows row j b at_j) [
        | inl there ↦ absurd (other rows row j b none there (ap (λ (r : Parameter). r.label) last.1 ∙ labels) (ap (λ (r : Parameter). r.equipment) last.1 ∙ equipments))
        | inr too ↦ last.0 ∙ sym too.0
      ]
    ]

-- the refusal of a row whose intervals are in order, by a look-up in the map: doubled, or none
pub refusal_by_map : (es : List ((ℕ × ℕ) × Parameter)) (rows : List Parameter) (row : Parameter) (there : Bool) → AreKeyed es → values_of es ≡ rows
    → there ≡ is_some (lookup (same_key (row.label, row.equipment)) es) → row.min_us ≢ 0 → row.max_us ≢ 0 → row.min_us ≤ row.max_us
    → refusal_of rows row ≡ (if there then Some Doubled else None)
unfolding refusal_of
refusal_by_map es rows row there keyed view found some_min some_max ordered =
    let by_rows : is_some (row_of rows row.label row.equipment) ≡ there =
    sym (found ∙ ap is_some (lookup-row_of es row.label row.equipment keyed) ∙ ap (λ (rs : List Parameter). is_some (row_of rs row.label row.equipment)) view) in
    let min_test = ne_eqb row.min_us 0 some_min in
    let max_test = ne_eqb row.max_us 0 some_max in
    let order_test = le-ltb row.max_us row.min_us ordered in
    rw (min_test, max_test, order_test, by_rows) refl

pub none_from_is_some : {X : Type 0} (o : Option X) → is_some o ≡ false → o ≡ None
none_from_is_some None h = refl
none_from_is_some (Some x) h = absurd (cc)

pub on_ok_from_is_err : {X E : Type 0} (r : Result X E) (P : Type 0) → is_err r ≡ false → OnOk r P → P
on_ok_from_is_err (Ok x) P h held = held
on_ok_from_is_err (Err e) P h held = absurd (cc)
