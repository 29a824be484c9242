-- Lines after line feeds.
use Rattle.std.proofs.Common.{◌≡◌, ℕ, suc, add-one, ◌+◌, ◌<◌, ◌≤◌, List, [], ◌∷◌, ◌++◌, length, map, get_or, take, refl, sym, ap, ◌∙◌, append_assoc, append-nil}
use Rattle.std.proofs.lemmas.List.{take_all, take_more, map-append}
use Rattle.dc_device.specs.Lines.{spelled}
use Rattle.dc_margin.specs.Lines.{lines_below}
use Rattle.dc_margin.specs.declared.lines.MarginLine.{MarginLine}
use Rattle.dc_run_margins.specs.Drift.{texts_below}
use Rattle.dc_run_margins.specs.Margins.{fed}

fed-append : (xs ys : List (List ℕ)) → fed (xs ++ ys) ≡ fed xs ++ fed ys
fed-append [] ys = refl
fed-append (x ∷ xs) ys = ap (λ l. 10 ∷ x ++ l) (fed-append xs ys) ∙ ap (λ l. 10 ∷ l) (sym (append_assoc x (fed xs) (fed ys)))

-- lines, and then others
pub fed-both : (old text next : List ℕ) (xs ys : List (List ℕ)) → text ≡ old ++ fed xs → next ≡ text ++ fed ys → next ≡ old ++ fed (xs ++ ys)
fed-both old text next xs ys is step =
    step ∙ ap (λ l. l ++ fed ys) is ∙ append_assoc old (fed xs) (fed ys) ∙ ap (λ l. old ++ l) (sym (fed-append xs ys))

-- the first line and those after line feeds, with a last one
pub fed-spelled : (x : List ℕ) (xs : List (List ℕ)) → (x ++ fed xs) ++ 10 ∷ [] ≡ spelled (x ∷ xs)
fed-spelled x [] = ap (λ l. l ++ 10 ∷ []) (append-nil x)
fed-spelled x (y ∷ ys) = append_assoc x (10 ∷ y ++ fed ys) (10 ∷ []) ∙ ap (λ l. x ++ 10 ∷ l) (fed-spelled y ys)

below-suc : (lines : ℕ → List MarginLine) (n : ℕ) → lines_below lines (suc n) ≡ lines_below lines n ++ lines n
unfolding lines_below
below-suc lines n = refl

module _ (f : MarginLine → List ℕ) where
  -- two lists of lines, one after the other
  pub fed-more : (old text : List ℕ) (xs ys : List MarginLine) → text ≡ old ++ fed (map f xs) → text ++ fed (map f ys) ≡ old ++ fed (map f (xs ++ ys))
  fed-more old text xs ys is =
      ap (λ l. l ++ fed (map f ys)) is ∙ append_assoc old (fed (map f xs)) (fed (map f ys))
      ∙ ap (λ l. old ++ l) (sym (fed-append (map f xs) (map f ys)) ∙ ap fed (sym (map-append f xs ys)))

  -- the lines of one job more
  pub job-more : (lines : ℕ → List MarginLine) (n : ℕ) (old text next : List ℕ) (ls : List MarginLine) → text ≡ old ++ fed (map f (lines_below lines n)) → ls ≡ lines n → next ≡ text ++ fed (map f ls) →
      next ≡ old ++ fed (map f (lines_below lines (n + 1)))
  job-more lines n old text next ls is here step =
      step ∙ ap (λ l. text ++ fed (map f l)) here ∙ fed-more old text (lines_below lines n) (lines n) is
      ∙ ap (λ l. old ++ fed (map f l)) (sym (below-suc lines n) ∙ ap (lines_below lines) (sym (add-one n)))

  -- one line more
  pub line-more : (old text next : List ℕ) (xs : List MarginLine) (k : ℕ) (d : MarginLine) → k < length xs → text ≡ old ++ fed (map f (take k xs)) → next ≡ text ++ 10 ∷ f (get_or xs k d) →
      next ≡ old ++ fed (map f (take (k + 1) xs))
  line-more old text next xs k d l is step =
      step ∙ ap (λ z. text ++ 10 ∷ z) (sym (append-nil (f (get_or xs k d)))) ∙ fed-more old text (take k xs) (get_or xs k d ∷ []) is
      ∙ ap (λ z. old ++ fed (map f z)) (sym (take_more xs k d l))

  pub line-all : (old text : List ℕ) (xs own : List MarginLine) (k : ℕ) → length xs ≤ k → xs ≡ own → text ≡ old ++ fed (map f (take k xs)) → text ≡ old ++ fed (map f own)
  line-all old text xs own k l same is = is ∙ ap (λ z. old ++ fed (map f z)) (take_all k xs l ∙ same)

module _ (lines : ℕ → List (List ℕ)) where
  texts-suc : (n : ℕ) → texts_below lines (suc n) ≡ texts_below lines n ++ lines n
  unfolding texts_below
  texts-suc n = refl

  -- the lines of one place more
  pub texts-more : (n : ℕ) (old text next : List ℕ) → text ≡ old ++ fed (texts_below lines n) → next ≡ text ++ fed (lines n) → next ≡ old ++ fed (texts_below lines (n + 1))
  texts-more n old text next is step =
      fed-both old text next (texts_below lines n) (lines n) is step ∙ ap (λ l. old ++ fed l) (sym (texts-suc n) ∙ ap (texts_below lines) (sym (add-one n)))
