-- Entries in the order of their outputs, split output by output.
use Rattle.std.proofs.Common.{◌≡◌, ℕ, suc, ◌+◌, ◌<◌, ◌≤◌, inl, inr, true, false, ◌==◌, List, [], ◌∷◌, ◌++◌, length, get_or, map, take, drop, refl, sym, ap, ◌∙◌, arith, subst}
use Rattle.std.specs.List.{prefix_len}
use Rattle.std.proofs.lemmas.Bool.Decides.{nat_tests}
use Rattle.std.specs.List.Sorted.{IsPermutation}
use Rattle.std.proofs.lemmas.List.{length-map, drop-drop}
use Rattle.std.proofs.lemmas.List.Folds.{length-prefix_len}
use Rattle.dc_document.specs.Document.{Document, IsInOrder}
use Rattle.dc_rules.specs.Rules.{entries_from}
use Rattle.dc_build.specs.RowsOf.{entry_of, own_entries, IsOutputRow, AreOutputs}
use Rattle.dc_build.specs.Placed.{AreFrom}
use Rattle.dc_document.specs.declared.parts.OutputPart.{OutputPart}
use Rattle.dc_tables.specs.declared.rows.Output.{Output}
use Rattle.dc_rules.specs.lemmas.Owners.{Ascends, bool_cases}
use Rattle.dc_build.proofs.ValidEntries.{is_same, own_true, own_false}
use Rattle.dc_build.proofs.RowsMade.{outputs_more}
use Rattle.dc_tables.specs.declared.rows.Entry.{Entry}
use Rattle.dc_rules.specs.declared.keys.PlacedEntry.{PlacedEntry}
use Rattle.dc_document.specs.declared.parts.LabelPart.{LabelPart}

not_same : (a b : ℕ) → b < a → (a == b) ≡ false
not_same a b h = grind (arith, nat_tests)

less_not : (a b : ℕ) → a < b → (a == b) ≡ false
less_not a b h = grind (arith, nat_tests)

past_same : (a b : ℕ) → b ≤ a → (a == b) ≡ false → b + 1 ≤ a
past_same a b h k = grind (arith, nat_tests)

weaken : (m n : ℕ) (xs : List PlacedEntry) → m ≤ n → AreFrom n xs → AreFrom m xs
weaken m n [] h f = f
weaken m n (x ∷ xs) h f = (omega (arith, h, f.0), f.1)

none_own : (m o : ℕ) (xs : List PlacedEntry) → o < m → AreFrom m xs → own_entries xs o ≡ []
none_own m o [] h f = refl
none_own m o (x ∷ xs) h f = own_false o x xs (not_same x.output o (omega (arith, h, f.0))) ∙ none_own x.output o xs (omega (arith, h, f.0)) f.1

-- how many entries of this output come first
abbrev pub leading : ℕ → List PlacedEntry → ℕ
leading o xs = prefix_len (λ e. e.output == o) xs

leading_true : (o : ℕ) (x : PlacedEntry) (xs : List PlacedEntry) → (x.output == o) ≡ true → leading o (x ∷ xs) ≡ suc (leading o xs)
leading_true o x xs h = let z : 1 + leading o xs ≡ suc (leading o xs) = omega arith in rw h z

leading_false : (o : ℕ) (x : PlacedEntry) (xs : List PlacedEntry) → (x.output == o) ≡ false → leading o (x ∷ xs) ≡ 0
leading_false o x xs h = rw h refl

-- these are all of the output's
pub own_lead : (o : ℕ) (xs : List PlacedEntry) → AreFrom o xs → own_entries (take (leading o xs) xs) o ≡ own_entries xs o
own_lead o [] f = refl
own_lead o (x ∷ xs) f =
    elim (bool_cases (x.output == o)) [
      | inl s ↦
          let f2 : AreFrom o xs = weaken o x.output xs (omega (arith, is_same x.output o s)) f.1 in
          ap (λ n. own_entries (take n (x ∷ xs)) o) (leading_true o x xs s) ∙ own_true o x (take (leading o xs) xs) s ∙ ap (λ (l : List Entry). entry_of x ∷ l) (own_lead o xs f2) ∙ sym (own_true o x xs s)
      | inr s ↦
          ap (λ n. own_entries (take n (x ∷ xs)) o) (leading_false o x xs s) ∙ sym (own_false o x xs s ∙ none_own x.output o xs (omega (arith, past_same x.output o f.0 s)) f.1)
    ]

-- the rest is of later outputs
pub rest_from : (o : ℕ) (xs : List PlacedEntry) → AreFrom o xs → AreFrom (o + 1) (drop (leading o xs) xs)
rest_from o [] f = tt
rest_from o (x ∷ xs) f =
    let P : ℕ → Type 0 = λ n. AreFrom (o + 1) (drop n (x ∷ xs)) in
    elim (bool_cases (x.output == o)) [
      | inl s ↦ subst P (sym (leading_true o x xs s)) (rest_from o xs (weaken o x.output xs (omega (arith, is_same x.output o s)) f.1))
      | inr s ↦ subst P (sym (leading_false o x xs s)) (past_same x.output o f.0 s, f.1)
    ]

-- and has all of theirs
pub rest_own : (o k : ℕ) (xs : List PlacedEntry) → AreFrom o xs → o < k → own_entries (drop (leading o xs) xs) k ≡ own_entries xs k
rest_own o k [] f h = refl
rest_own o k (x ∷ xs) f h =
    elim (bool_cases (x.output == o)) [
      | inl s ↦
          let e : x.output ≡ o = is_same x.output o s in
          ap (λ n. own_entries (drop n (x ∷ xs)) k) (leading_true o x xs s) ∙ rest_own o k xs (weaken o x.output xs (omega (arith, e)) f.1) h ∙ sym (own_false k x xs (less_not x.output k (omega (arith, e, h))))
      | inr s ↦ ap (λ n. own_entries (drop n (x ∷ xs)) k) (leading_false o x xs s)
    ]

-- ---- all entries are so

own_first : (m o i : ℕ) (ts : List ℕ) (rest : List PlacedEntry) → m ≤ o → AreFrom o rest → AreFrom m (map (λ t. record { output = o; offset = t; label = i }) ts ++ rest)
own_first m o i [] rest h f = weaken m o rest h f
own_first m o i (t ∷ ts) rest h f = (h, own_first o o i ts rest (omega arith) f)

pub entries_ascend : (m i : ℕ) (xs : List LabelPart) → ((k : ℕ) → k < length xs → m ≤ get_or (map (λ x. x.output) xs) k 0) → Ascends (map (λ x. x.output) xs) → length (map (λ (x : LabelPart). x.output) xs) ≡ length xs → AreFrom m (entries_from i xs)
entries_ascend m i [] h a n = tt
entries_ascend m i (x ∷ xs) h a n =
    let n2 : length (map (λ (y : LabelPart). y.output) xs) ≡ length xs = omega (arith, n) in
    own_first m x.output i x.offsets.items (entries_from (suc i) xs) (h 0 (omega arith))
    (entries_ascend x.output (suc i) xs (λ k l. a 0 (suc k) (omega arith) (omega (arith, n2, l))) (λ j k l q. a (suc j) (suc k) (omega arith) (omega (arith, q))) n2)

pub entries_in_order : (d : Document) → IsInOrder d → AreFrom 0 (entries_from 0 d.labels)
entries_in_order d h = entries_ascend 0 0 d.labels (λ k l. omega arith) h.labels.ascend (length-map d.labels (λ x. x.output))

-- ---- the rows of the outputs, one after another

-- the first n rows are made, and the rest has the entries of the later outputs
pub record AreSplit (tick : ℕ) (all : List PlacedEntry) (parts : List OutputPart) (n : ℕ) (rows : List Output) (rest : List PlacedEntry) : Type 0 where
  pub made : AreOutputs tick all parts n rows
  pub later : AreFrom n rest
  pub same : (k : ℕ) → n ≤ k → own_entries rest k ≡ own_entries all k

row_among : (tick : ℕ) (own all : List PlacedEntry) (o : ℕ) (part : OutputPart) (row : Output) → own_entries own o ≡ own_entries all o → IsOutputRow tick own o part row → IsOutputRow tick all o part row
row_among tick own all o part row e h =
    let P : List Entry → Type 0 = λ l. IsPermutation l row.entries in
    record {
      steps = h.steps;
      within = h.within;
      gap = h.gap;
      frame = h.frame;
      entries = record { same = subst P e h.entries.same; ascend = h.entries.ascend };
    }

pub split_more : (tick : ℕ) (all : List PlacedEntry) (parts : List OutputPart) (n : ℕ) (rows : List Output) (rest : List PlacedEntry) (part : OutputPart) (row : Output)
    → n < length parts → part ≡ get_or parts n part → AreSplit tick all parts n rows rest → IsOutputRow tick (take (leading n rest) rest) n part row
    → AreSplit tick all parts (n + 1) (rows ++ (row ∷ [])) (drop (leading n rest) rest)
split_more tick all parts n rows rest part row l at h here = record {
  made = outputs_more tick all parts n rows part row l at h.made (row_among tick (take (leading n rest) rest) all n part row (own_lead n rest h.later ∙ h.same n (omega arith)) here);
  later = rest_from n rest h.later;
  same = λ k m. rest_own n k rest h.later (omega (arith, m)) ∙ h.same k (omega (arith, m));
}

-- the entries after those of an output
pub later_entries : (o first : ℕ) (all own : List PlacedEntry) → own ≡ take (leading o (drop first all)) (drop first all) → drop (first + length own) all ≡ drop (leading o (drop first all)) (drop first all)
later_entries o first all own h =
    let n : length own ≡ leading o (drop first all) = ap length h ∙ length-prefix_len (λ e. e.output == o) (drop first all) in
    sym (drop-drop (length own) first all) ∙ ap (λ k. drop k (drop first all)) n
