-- The choice, source by source.
use Rattle.std.proofs.Common.{◌≡◌, ℕ, ◌+◌, ◌-◌, ◌<◌, ◌≤◌, Bool, true, false, cond, leb, Option, Some, None, List, [], ◌∷◌, ◌++◌, length, take, drop, get_or, is_some, refl, sym, ap, subst, ◌∙◌, take-append-drop}
use Rattle.std.specs.Prelude.{filter}
use Rattle.std.proofs.lemmas.Grind.{flat_map-append}
use Rattle.std.proofs.lemmas.List.{take_more, append-nil, take_all}
use Rattle.std.proofs.lemmas.List.Elements.{filter-append}
use Rattle.dc_tables.specs.TableRows.{TableRows, label_row, stream_row}
use Rattle.dc_word.specs.Word.{copied_word}
use Rattle.dc_word.specs.Format.{is_usable}
use Rattle.dc_tables.specs.declared.rows.OutputLabel.{OutputLabel}
use Rattle.dc_route.specs.Choosing.{young, fresh_now, fresh_words, first_word, word_now, chosen_now}

abbrev pub listed : Option ℕ → List ℕ
listed None = []
listed (Some w) = w ∷ []

young-listed : (stale now : ℕ) (o : Option (ℕ × ℕ)) → young stale now o ≡ listed (first_word (young stale now o))
young-listed stale now None = refl
young-listed stale now (Some l) = elim (leb (now - l.1) stale) as (λ b. cond b (l.0 ∷ []) [] ≡ listed (first_word (cond b (l.0 ∷ []) []))) [ true ↦ refl | false ↦ refl ]

module _ (t : TableRows) (latched : List Bool) (lasts : List (Option (ℕ × ℕ))) (now stale : ℕ) where
  pub fresh-listed : (s : ℕ) → fresh_now t latched lasts now stale s ≡ listed (first_word (fresh_now t latched lasts now stale s))
  fresh-listed s =
      elim (get_or latched (stream_row t s).bus false) as (λ b. cond b [] (young stale now (get_or lasts s None)) ≡ listed (first_word (cond b [] (young stale now (get_or lasts s None))))) [ true ↦ refl | false ↦ young-listed stale now (get_or lasts s None) ]

  words : List ℕ → List ℕ
  words sources = fresh_words t latched lasts now stale sources

  pub words-append : (xs ys : List ℕ) → fresh_words t latched lasts now stale (xs ++ ys) ≡ fresh_words t latched lasts now stale xs ++ fresh_words t latched lasts now stale ys
  unfolding fresh_words
  words-append xs ys = flat_map-append (fresh_now t latched lasts now stale) xs ys

  words-one : (s : ℕ) → fresh_words t latched lasts now stale (s ∷ []) ≡ fresh_now t latched lasts now stale s
  unfolding fresh_words
  words-one s = append-nil (fresh_now t latched lasts now stale s)

  -- the words with one source more
  pub words-more : (sources : List ℕ) (i : ℕ) → i < length sources → fresh_words t latched lasts now stale (take (i + 1) sources) ≡ fresh_words t latched lasts now stale (take i sources) ++ listed (first_word (fresh_now t latched lasts now stale (get_or sources i 0)))
  words-more sources i h =
      ap (λ l. fresh_words t latched lasts now stale l) (take_more sources i 0 h) ∙ words-append (take i sources) (get_or sources i 0 ∷ [])
      ∙ ap (λ l. fresh_words t latched lasts now stale (take i sources) ++ l) (words-one (get_or sources i 0) ∙ fresh-listed (get_or sources i 0))

pub filter-push : (p : ℕ → Bool) (ws : List ℕ) (w : ℕ) → filter p ws ≡ [] → filter p (ws ++ w ∷ []) ≡ cond (p w) (w ∷ []) []
filter-push p ws w none = filter-append p ws (w ∷ []) ∙ ap (λ l. l ++ filter p (w ∷ [])) none

first-push : (ws : List ℕ) (w : ℕ) → first_word ws ≡ None → first_word (ws ++ w ∷ []) ≡ Some w
first-push [] w h = refl
first-push (v ∷ ws) w h = absurd cc

none_from : (o : Option ℕ) → is_some o ≡ false → o ≡ None
none_from None h = refl
none_from (Some i) h = absurd cc

kept : (ws : List ℕ) (w : ℕ) → is_some (first_word ws) ≡ true → first_word (ws ++ w ∷ []) ≡ first_word ws
kept [] w h = absurd cc
kept (u ∷ ws) w h = refl

-- the first usable word is chosen
pub chosen-early : (t : TableRows) (latched : List Bool) (lasts : List (Option (ℕ × ℕ))) (now x i w : ℕ) → i < length (label_row t x).sources
    → filter (is_usable (label_row t x).format) (fresh_words t latched lasts now (label_row t x).stale (take i (label_row t x).sources)) ≡ []
    → first_word (fresh_now t latched lasts now (label_row t x).stale (get_or (label_row t x).sources i 0)) ≡ Some w → is_usable (label_row t x).format w ≡ true
    → chosen_now t latched lasts now x ≡ copied_word (label_row t x).label (label_row t x).sdi w
unfolding chosen_now
chosen-early t latched lasts now x i w h none is good =
    let row = label_row t x in
    let stale = row.stale in
    let p : ℕ → Bool = is_usable (label_row t x).format in
    let all : List ℕ = fresh_words t latched lasts now (label_row t x).stale (label_row t x).sources in
    let rest : List ℕ = fresh_words t latched lasts now (label_row t x).stale (drop (i + 1) (label_row t x).sources) in
    let more : fresh_words t latched lasts now (label_row t x).stale (take (i + 1) (label_row t x).sources) ≡ fresh_words t latched lasts now (label_row t x).stale (take i (label_row t x).sources) ++ w ∷ [] =
    words-more t latched lasts now (label_row t x).stale (label_row t x).sources i h ∙ ap (λ o. fresh_words t latched lasts now (label_row t x).stale (take i (label_row t x).sources) ++ listed o) is in
    let parts : all ≡ (fresh_words t latched lasts now (label_row t x).stale (take i (label_row t x).sources) ++ w ∷ []) ++ rest =
    ap (λ l. fresh_words t latched lasts now (label_row t x).stale l) (sym (take-append-drop (i + 1) (label_row t x).sources))
    ∙ words-append t latched lasts now (label_row t x).stale (take (i + 1) (label_row t x).sources) (drop (i + 1) (label_row t x).sources)
    ∙ ap (λ l. l ++ rest) more in
    let usables : filter p all ≡ w ∷ filter p rest =
    ap (λ l. filter p l) parts ∙ filter-append p (fresh_words t latched lasts now (label_row t x).stale (take i (label_row t x).sources) ++ w ∷ []) rest
    ∙ ap (λ l. l ++ filter p rest) (filter-push p (fresh_words t latched lasts now (label_row t x).stale (take i (label_row t x).sources)) w none ∙ ap (λ b. cond b (w ∷ []) []) good) in
    ap (λ l. word_now t x (first_word (l ++ all))) usables

-- where none is usable, the first fresh one is
pub chosen-end : (t : TableRows) (latched : List Bool) (lasts : List (Option (ℕ × ℕ))) (now x : ℕ) (o : Option ℕ)
    → filter (is_usable (label_row t x).format) (fresh_words t latched lasts now (label_row t x).stale (label_row t x).sources) ≡ []
    → o ≡ first_word (fresh_words t latched lasts now (label_row t x).stale (label_row t x).sources)
    → chosen_now t latched lasts now x ≡ word_now t x o
unfolding chosen_now
chosen-end t latched lasts now x o none is =
    ap (λ l. word_now t x (first_word (l ++ fresh_words t latched lasts now (label_row t x).stale (label_row t x).sources))) none ∙ ap (word_now t x) (sym is)

-- ---- the loop's step: `ws` are the words so far, `o` the next source's

module _ (p : ℕ → Bool) (ws more : List ℕ) (o first : Option ℕ) (is : more ≡ ws ++ listed o) (so_far : first ≡ first_word ws) (none : filter p ws ≡ []) where
  pub step-none : o ≡ None → (first ≡ first_word more) × (filter p more ≡ [])
  step-none e =
      let same : more ≡ ws = is ∙ ap (λ o. ws ++ listed o) e ∙ append-nil ws in
      rw same (so_far, none)

  one_more : (w : ℕ) → o ≡ Some w → more ≡ ws ++ w ∷ []
  one_more w e = is ∙ ap (λ o. ws ++ listed o) e

  none_more : (w : ℕ) → o ≡ Some w → p w ≡ false → filter p more ≡ []
  none_more w e bad = ap (λ l. filter p l) (one_more w e) ∙ filter-push p ws w none ∙ ap (λ b. cond b (w ∷ []) []) bad

  pub step-first : (w : ℕ) → o ≡ Some w → p w ≡ false → is_some first ≡ false → (Some w ≡ first_word more) × (filter p more ≡ [])
  step-first w e bad young =
      (sym (ap first_word (one_more w e) ∙ first-push ws w (sym so_far ∙ none_from first young)), none_more w e bad)

  pub step-keep : (w : ℕ) → o ≡ Some w → p w ≡ false → is_some first ≡ true → (first ≡ first_word more) × (filter p more ≡ [])
  step-keep w e bad old =
      (so_far ∙ sym (ap first_word (one_more w e) ∙ kept ws w (ap is_some (sym so_far) ∙ old)), none_more w e bad)

-- ---- the same, where the code has read the row

pub chosen-early_at : (t : TableRows) (latched : List Bool) (lasts : List (Option (ℕ × ℕ))) (now x i w : ℕ) (row : OutputLabel) (items : List ℕ) → row ≡ label_row t x → items ≡ row.sources → i < length items
    → filter (is_usable row.format) (fresh_words t latched lasts now row.stale (take i items)) ≡ []
    → first_word (fresh_now t latched lasts now row.stale (get_or items i 0)) ≡ Some w → is_usable row.format w ≡ true
    → copied_word row.label row.sdi w ≡ chosen_now t latched lasts now x
chosen-early_at t latched lasts now x i w row items e f =
    let Q : OutputLabel → List ℕ → Type 0 = λ row items. i < length items
    → filter (is_usable row.format) (fresh_words t latched lasts now row.stale (take i items)) ≡ []
    → first_word (fresh_now t latched lasts now row.stale (get_or items i 0)) ≡ Some w → is_usable row.format w ≡ true
    → copied_word row.label row.sdi w ≡ chosen_now t latched lasts now x in
    let P : OutputLabel → Type 0 = λ row. Q row row.sources in
    let R : List ℕ → Type 0 = λ items. Q row items in
    subst R (sym f) (subst P (sym e) (λ h none is good. sym (chosen-early t latched lasts now x i w h none is good)))

pub chosen-end_at : (t : TableRows) (latched : List Bool) (lasts : List (Option (ℕ × ℕ))) (now x i : ℕ) (o : Option ℕ) (row : OutputLabel) (items : List ℕ) → row ≡ label_row t x → items ≡ row.sources → length items ≤ i
    → filter (is_usable row.format) (fresh_words t latched lasts now row.stale (take i items)) ≡ []
    → o ≡ first_word (fresh_words t latched lasts now row.stale (take i items))
    → chosen_now t latched lasts now x ≡ word_now t x o
chosen-end_at t latched lasts now x i o row items e f past =
    let Q : OutputLabel → List ℕ → Type 0 = λ row items.
    filter (is_usable row.format) (fresh_words t latched lasts now row.stale items) ≡ []
    → o ≡ first_word (fresh_words t latched lasts now row.stale items)
    → chosen_now t latched lasts now x ≡ word_now t x o in
    let P : OutputLabel → Type 0 = λ row. Q row row.sources in
    let R : List ℕ → Type 0 = λ items. Q row items in
    let S : List ℕ → Type 0 = λ items. Q row items in
    subst S (sym (take_all i items past)) (subst R (sym f) (subst P (sym e) (λ none is. chosen-end t latched lasts now x o none is)))
