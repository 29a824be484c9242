-- The entries of tables that break no rule.
use Rattle.std.proofs.Common.{◌≡◌, ℕ, zero, suc, ◌+◌, ◌<◌, ◌≤◌, inl, inr, Bool, true, false, ◌&&◌, ◌==◌, List, [], ◌∷◌, length, get_or, map, refl, sym, ap, ◌∙◌, arith, subst}
use Rattle.std.specs.List.{All, Contains, count_by}
use Rattle.std.proofs.lemmas.List.{length-map, get_or-map}
use Rattle.std.proofs.lemmas.List.Elements.{All-nil, All-cons, All-append, All-map, Contains-append_left, Contains-append_right}
use Rattle.std.proofs.lemmas.Bool.Decides.{nat_tests}
use Rattle.dc_rules.specs.Rules.{label_entries, entries_from}
use Rattle.dc_build.specs.RowsOf.{entry_of, own_entries}
use Rattle.dc_tables.specs.declared.rows.Entry.{Entry}
use Rattle.dc_rules.specs.declared.keys.PlacedEntry.{PlacedEntry}
use Rattle.dc_document.specs.declared.parts.LabelPart.{LabelPart}
use Rattle.dc_rules.specs.lemmas.Owners.{one, counted, one_true, one_false, bool_cases}

pub is_same : (a b : ℕ) → (a == b) ≡ true → a ≡ b
is_same a b h = grind (arith, nat_tests)

pub same_is : (a b : ℕ) → a ≡ b → (a == b) ≡ true
same_is a b h = grind (arith, nat_tests)

pub both_true : (a b : Bool) → a ≡ true → b ≡ true → (a && b) ≡ true
both_true true b h k = k
both_true false b h k = absurd (cc h)

-- ---- all entries, in the order of the text

-- what holds of each entry of each label holds of each entry
pub all_entries : (P : PlacedEntry → Type 0) (i : ℕ) (xs : List LabelPart) → ((k : ℕ) (x : LabelPart) → k < length xs → All (λ t. P (record { output = (get_or xs k x).output; offset = t; label = i + k })) (get_or xs k x).offsets.items) → All P (entries_from i xs)
all_entries P i [] h = All-nil P
all_entries P i (x ∷ xs) h =
    let z : i + 0 ≡ i = omega arith in
    let Q : ℕ → Type 0 = λ n. All (λ t. P (record { output = x.output; offset = t; label = n })) x.offsets.items in
    All-append P (label_entries i x) (entries_from (suc i) xs)
    (All-map P (λ t. record { output = x.output; offset = t; label = i }) x.offsets.items (subst Q z (h 0 x (omega arith))))
    (all_entries P (suc i) xs (λ k y l.
    let s : i + suc k ≡ suc i + k = omega arith in
    let R : ℕ → Type 0 = λ n. All (λ t. P (record { output = (get_or xs k y).output; offset = t; label = n })) (get_or xs k y).offsets.items in
    subst R s (h (suc k) y (omega arith))))

-- the first entry of a label is there
pub entry_there : (i : ℕ) (xs : List LabelPart) (k : ℕ) (x : LabelPart) → k < length xs → 1 ≤ length (get_or xs k x).offsets.items → Contains (entries_from i xs) (record { output = (get_or xs k x).output; offset = get_or (get_or xs k x).offsets.items 0 0; label = i + k })
entry_there i [] k x l s = absurd (omega arith)
entry_there i (y ∷ xs) zero x l s =
    let z : i + 0 ≡ i = omega arith in
    let P : ℕ → Type 0 = λ n. Contains (entries_from i (y ∷ xs)) (record { output = y.output; offset = get_or y.offsets.items 0 0; label = n }) in
    let e : PlacedEntry = record { output = y.output; offset = get_or y.offsets.items 0 0; label = i } in
    let len : length (label_entries i y) ≡ length y.offsets.items = length-map y.offsets.items (λ t. record { output = y.output; offset = t; label = i }) in
    subst P (sym z) (Contains-append_left (label_entries i y) (entries_from (suc i) xs) e
    (0, omega (arith, len), get_or-map (λ t. record { output = y.output; offset = t; label = i }) y.offsets.items 0 0 e s))
entry_there i (y ∷ xs) (suc k) x l s =
    let t : i + suc k ≡ suc i + k = omega arith in
    let P : ℕ → Type 0 = λ n. Contains (entries_from i (y ∷ xs)) (record { output = (get_or xs k x).output; offset = get_or (get_or xs k x).offsets.items 0 0; label = n }) in
    subst P (sym t) (Contains-append_right (label_entries i y) (entries_from (suc i) xs) (record { output = (get_or xs k x).output; offset = get_or (get_or xs k x).offsets.items 0 0; label = suc i + k }) (entry_there (suc i) xs k x (omega arith) s))

-- ---- the entries of one output

pub own_true : (o : ℕ) (e : PlacedEntry) (es : List PlacedEntry) → (e.output == o) ≡ true → own_entries (e ∷ es) o ≡ entry_of e ∷ own_entries es o
own_true o e es h = rw h refl

pub own_false : (o : ℕ) (e : PlacedEntry) (es : List PlacedEntry) → (e.output == o) ≡ false → own_entries (e ∷ es) o ≡ own_entries es o
own_false o e es h = rw h refl

cons_each : (P : PlacedEntry → Type 0) (e : PlacedEntry) (es : List PlacedEntry) → All P (e ∷ es) → P e × All P es
cons_each P e es h = (h 0 e (omega arith), λ k d l. h (suc k) d (omega arith))

pub own_all : (P : ℕ → Entry → Type 0) (all : List PlacedEntry) (o : ℕ) → All (λ e. P e.output (entry_of e)) all → All (P o) (own_entries all o)
own_all P [] o h = All-nil (P o)
own_all P (e ∷ es) o h =
    let w = cons_each (λ e. P e.output (entry_of e)) e es h in
    let Q : List Entry → Type 0 = λ l. All (P o) l in
    elim (bool_cases (e.output == o)) [
      | inl s ↦
          let R : ℕ → Type 0 = λ n. P n (entry_of e) in
          subst Q (sym (own_true o e es s)) (All-cons (P o) (entry_of e) (own_entries es o) (subst R (is_same e.output o s) w.0) (own_all P es o w.1))
      | inr s ↦ subst Q (sym (own_false o e es s)) (own_all P es o w.1)
    ]

pub own_length : (all : List PlacedEntry) (o : ℕ) → length (own_entries all o) ≡ count_by (λ w. w == o) (map (λ e. e.output) all)
own_length [] o = refl
own_length (e ∷ es) o =
    let c = counted (λ w. w == o) e.output (map (λ e. e.output) es) in
    elim (bool_cases (e.output == o)) [
      | inl s ↦ omega (arith, ap (λ (l : List Entry). length l) (own_true o e es s), own_length es o, c, one_true (e.output == o) s)
      | inr s ↦ omega (arith, ap (λ (l : List Entry). length l) (own_false o e es s), own_length es o, c, one_false (e.output == o) s)
    ]

-- the entries of an output at one offset
pub own_count : (all : List PlacedEntry) (o v : ℕ) → count_by (λ (e : Entry). e.offset == v) (own_entries all o) ≡ count_by (λ (e : PlacedEntry). (e.output == o) && (e.offset == v)) all
own_count [] o v = refl
own_count (e ∷ es) o v =
    let c = counted (λ (e : PlacedEntry). (e.output == o) && (e.offset == v)) e es in
    elim (bool_cases (e.output == o)) [
      | inl s ↦
          let p : ((e.output == o) && (e.offset == v)) ≡ (e.offset == v) = rw s refl in
          omega (arith, ap (λ (l : List Entry). count_by (λ (e : Entry). e.offset == v) l) (own_true o e es s), counted (λ (e : Entry). e.offset == v) (entry_of e) (own_entries es o), own_count es o v, c, ap one p)
      | inr s ↦
          let p : ((e.output == o) && (e.offset == v)) ≡ false = rw s refl in
          omega (arith, ap (λ (l : List Entry). count_by (λ (e : Entry). e.offset == v) l) (own_false o e es s), own_count es o v, c, one_false ((e.output == o) && (e.offset == v)) p)
    ]

pub own_contains : (all : List PlacedEntry) (o : ℕ) (e : PlacedEntry) → Contains all e → e.output ≡ o → Contains (own_entries all o) (entry_of e)
own_contains [] o e h s = absurd (omega (arith, h.1))
own_contains (x ∷ es) o e (zero, l, at) s =
    let t : (x.output == o) ≡ true = same_is x.output o (ap (λ (y : PlacedEntry). y.output) at ∙ s) in
    let P : List Entry → Type 0 = λ w. Contains w (entry_of e) in
    subst P (sym (own_true o x es t)) (0, omega arith, ap entry_of at)
own_contains (x ∷ es) o e (suc k, l, at) s =
    let r = own_contains es o e (k, omega arith, at) s in
    let P : List Entry → Type 0 = λ w. Contains w (entry_of e) in
    elim (bool_cases (x.output == o)) [
      | inl t ↦ subst P (sym (own_true o x es t)) (suc r.0, omega (arith, r.1), r.2)
      | inr t ↦ subst P (sym (own_false o x es t)) r
    ]
