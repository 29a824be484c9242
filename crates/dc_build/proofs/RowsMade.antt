-- One more row.
use Rattle.std.proofs.Common.{◌≡◌, ℕ, zero, suc, ◌+◌, ◌<◌, ◌≤◌, inl, inr, arith, subst, List, [], ◌∷◌, ◌++◌, length, get_or, drop, true, false, nat_lt, ◌==◌, refl, sym, ap, ◌∙◌, add-one, append_assoc}
use Rattle.std.proofs.Math.Seq.{drop-cons}
use Rattle.dc_build.specs.RowsOf.{bus_row_with, bus_row_of, bus_rows_from}
use Rattle.dc_tables.specs.declared.rows.Bus.{Bus}
use Rattle.dc_document.specs.declared.parts.BusPart.{BusPart}
use Rattle.dc_document.specs.declared.parts.RouterPart.{RouterPart}
use Rattle.dc_document.specs.declared.parts.OutputPart.{OutputPart}
use Rattle.dc_tables.specs.declared.rows.Output.{Output}
use Rattle.dc_tables.specs.declared.rows.OutputLabel.{OutputLabel}
use Rattle.dc_rules.specs.declared.keys.PlacedEntry.{PlacedEntry}
use Rattle.dc_rules.specs.Rules.{counts, visits_bus}
use Rattle.dc_rules.specs.Visits.{visiting_routers}
use Rattle.std.specs.Prelude.{unwrap_or}
use Rattle.std.specs.List.{position}
use Rattle.std.proofs.lemmas.Grind.{get_or_default_zero}
use Rattle.dc_rules.specs.lemmas.Apart.{counts_length, counts_at}
use Rattle.dc_build.specs.RowsOf.{IsOutputRow, AreOutputs}
use Rattle.std.specs.List.{All}
use Rattle.std.proofs.lemmas.List.Elements.{All-push}
use Rattle.std.proofs.lemmas.List.{get_or_append_left, get_or-map, length-append, length-map}
use Rattle.std.proofs.Math.Seq.{get_or-append_seam}
use Rattle.std.specs.List.{count_by}
use Rattle.std.proofs.lemmas.Bool.{cases_lt}
use Rattle.std.proofs.lemmas.Bool.Decides.{nat_tests}
use Rattle.dc_rules.specs.lemmas.Owners.{one, counted, one_false, owners_fit}

-- one more row of a bus
pub bus_rows_step : (owners : List ℕ) (routers : List RouterPart) (past : List Bus) (xs : List BusPart) (b : ℕ) (x : BusPart) (row : Bus) → b < length xs → x ≡ get_or xs b x → row ≡ bus_row_of owners routers b x
    → (past ++ (row ∷ [])) ++ bus_rows_from owners routers (b + 1) (drop (b + 1) xs) ≡ past ++ bus_rows_from owners routers b (drop b xs)
bus_rows_step owners routers past xs b x row h e same =
    let d : drop b xs ≡ x ∷ drop (suc b) xs = drop-cons xs b x h ∙ ap (λ y. y ∷ drop (suc b) xs) (sym e) in
    rw (same, add-one, d) (append_assoc past (bus_row_of owners routers b x ∷ []) (bus_rows_from owners routers (suc b) (drop (suc b) xs)))

abbrev pub below : ℕ → List ℕ → ℕ
below b xs = count_by (λ o. nat_lt o b) xs

abbrev pub at : ℕ → List ℕ → ℕ
at b xs = count_by (λ o. o == b) xs

next_one : (x b : ℕ) → one (nat_lt x (b + 1)) ≡ one (nat_lt x b) + one (x == b)
next_one x b =
    elim (cases_lt x b) [
      | inl l ↦
          let s : nat_lt x (b + 1) ≡ true = grind (arith, nat_tests) in
          let t : nat_lt x b ≡ true = grind (arith, nat_tests) in
          let u : (x == b) ≡ false = grind (arith, nat_tests) in
          rw (s, t, u) refl
      | inr g ↦ elim (cases_lt b x) [
        | inl l ↦
            let s : nat_lt x (b + 1) ≡ false = grind (arith, nat_tests) in
            let t : nat_lt x b ≡ false = grind (arith, nat_tests) in
            let u : (x == b) ≡ false = grind (arith, nat_tests) in
            rw (s, t, u) refl
        | inr k ↦
            let s : nat_lt x (b + 1) ≡ true = grind (arith, nat_tests) in
            let t : nat_lt x b ≡ false = grind (arith, nat_tests) in
            let u : (x == b) ≡ true = grind (arith, nat_tests) in
            rw (s, t, u) refl
      ]
    ]

-- the members of the owners up to this one
pub below_next : (b : ℕ) (xs : List ℕ) → below (b + 1) xs ≡ below b xs + at b xs
below_next b [] = refl
below_next b (x ∷ xs) =
    omega (arith, counted (λ o. nat_lt o (b + 1)) x xs, counted (λ o. nat_lt o b) x xs, counted (λ o. o == b) x xs, next_one x b, below_next b xs)

pub below_none : (xs : List ℕ) → below 0 xs ≡ 0
below_none [] = refl
below_none (x ∷ xs) =
    let f : nat_lt x 0 ≡ false = grind (arith, nat_tests) in
    omega (arith, counted (λ o. nat_lt o 0) x xs, one_false (nat_lt x 0) f, below_none xs)

-- how many members a bus has, read from those of all
pub own_count : (owners all : List ℕ) (n b v : ℕ) → all ≡ counts owners n → b < n → v ≡ get_or all b v → v ≡ at b owners
own_count owners all n b v h l e =
    omega (arith, e, get_or_default_zero all b v (omega (arith, l, ap length h, counts_length owners n)), ap (λ xs. get_or xs b 0) h, counts_at owners n b l)

-- the router that visits a bus, read from those of all
pub own_router : (routers : List RouterPart) (parts : List BusPart) (all : List ℕ) (b v : ℕ) (x : BusPart) → all ≡ visiting_routers routers parts → b < length parts → x ≡ get_or parts b x → v ≡ get_or all b v
    → v ≡ unwrap_or (position (visits_bus x.name) routers) 0
own_router routers parts all b v x h l at e =
    let f : BusPart → ℕ = λ y. unwrap_or (position (visits_bus y.name) routers) 0 in
    omega (arith, e, get_or_default_zero all b v (omega (arith, l, ap length h, length-map parts f)), ap (λ xs. get_or xs b 0) h, get_or-map f parts b x 0 l, ap f at)

-- the row of a bus, made of its streams and its router
pub bus_row_is : (owners : List ℕ) (routers : List RouterPart) (b : ℕ) (x : BusPart) (first streams router : ℕ) (row : Bus) → row ≡ bus_row_with first streams router x
    → first ≡ below b owners → streams ≡ at b owners → router ≡ unwrap_or (position (visits_bus x.name) routers) 0 → row ≡ bus_row_of owners routers b x
bus_row_is owners routers b x first streams router row h f s v =
    h ∙ ap (λ k. bus_row_with k streams router x) f ∙ ap (λ k. bus_row_with (below b owners) k router x) s
    ∙ ap (λ k. bus_row_with (below b owners) (at b owners) k x) v

-- the streams of the buses so far are no more than all
pub first_fits : (owners : List ℕ) (b first streams : ℕ) → first ≡ below b owners → streams ≡ at b owners → first + streams ≤ length owners
first_fits owners b first streams f s = omega (arith, f, s, owners_fit b owners)

pub all_push : (xs : List OutputLabel) (x : OutputLabel) → All (λ (r : OutputLabel). (r.label < 256) × (r.sdi < 4)) xs → (x.label < 256) × (x.sdi < 4) → All (λ (r : OutputLabel). (r.label < 256) × (r.sdi < 4)) (xs ++ (x ∷ []))
all_push xs x h k = All-push (λ (r : OutputLabel). (r.label < 256) × (r.sdi < 4)) xs x h k

same_at : (xs : List OutputPart) (i : ℕ) (d e : OutputPart) → i < length xs → get_or xs i d ≡ get_or xs i e
same_at [] i d e h = absurd (omega arith)
same_at (x ∷ xs) zero d e h = refl
same_at (x ∷ xs) (suc i) d e h = same_at xs i d e (omega arith)

-- one more row of an output
pub outputs_more : (tick : ℕ) (all : List PlacedEntry) (parts : List OutputPart) (n : ℕ) (rows : List Output) (part : OutputPart) (row : Output)
    → n < length parts → part ≡ get_or parts n part → AreOutputs tick all parts n rows → IsOutputRow tick all n part row → AreOutputs tick all parts (n + 1) (rows ++ (row ∷ []))
outputs_more tick all parts n rows part row h at past here = record {
  there = omega (arith, length-append rows (row ∷ []), past.there);
  each = λ o e l. elim (cases_lt o n) [
    | inl less ↦
        let none : Output = record { steps = 0; within = 0; gap = 0; frame = 0; entries = [] } in
        let same : get_or (rows ++ (row ∷ [])) o none ≡ get_or rows o none = get_or_append_left rows (row ∷ []) none o (omega (arith, past.there)) in
        let P : Output → Type 0 = λ r. IsOutputRow tick all o (get_or parts o e) r in
        subst P (sym same) (past.each o e less)
    | inr more ↦
        let none : Output = record { steps = 0; within = 0; gap = 0; frame = 0; entries = [] } in
        let eq : n ≡ o = omega arith in
        let seam : get_or (rows ++ (row ∷ [])) (length rows) none ≡ row = get_or-append_seam rows row [] none in
        let same_row : get_or (rows ++ (row ∷ [])) o none ≡ row = ap (λ k. get_or (rows ++ (row ∷ [])) k none) (sym (past.there ∙ eq)) ∙ seam in
        let same_part : get_or parts o e ≡ part = ap (λ k. get_or parts k e) (sym eq) ∙ same_at parts n e part h ∙ sym at in
        let P : Output → Type 0 = λ r. IsOutputRow tick all o (get_or parts o e) r in
        let Q : OutputPart → Type 0 = λ p. IsOutputRow tick all o p row in
        let R : ℕ → Type 0 = λ k. IsOutputRow tick all k part row in
        subst P (sym same_row) (subst Q (sym same_part) (subst R eq here))
  ];
}
