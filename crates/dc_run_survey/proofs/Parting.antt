-- Lines parted by line feeds.
use Rattle.std.proofs.Common.{◌≡◌, ℕ, zero, suc, add-one, ◌+◌, ◌<◌, ◌||◌, Bool, List, [], ◌∷◌, ◌++◌, length, length-append, Option, Some, None, refl, sym, ap, ◌∙◌, append_assoc, append-nil, arith}
use Rattle.dc_answer.specs.Answer.{fault_text}
use Rattle.dc_capture.specs.CaptureFaults.{capture_rule_code}
use Rattle.dc_capture.specs.declared.fault.CaptureFault.{CaptureFault}
use Rattle.dc_device.specs.Lines.{spelled}
use Rattle.dc_run_survey.specs.Lines.{any_below, fault_behind, fault_lines, fed, feed_behind, first_lines, or_blank, parted}

fed-push : (xs : List (List ℕ)) (y : List ℕ) → fed (xs ++ y ∷ []) ≡ fed xs ++ 10 ∷ y
fed-push [] y = ap (λ l. 10 ∷ l) (append-nil y)
fed-push (x ∷ xs) y = ap (λ l. 10 ∷ x ++ l) (fed-push xs y) ∙ ap (λ l. 10 ∷ l) (sym (append_assoc x (fed xs) (10 ∷ y)))

-- one line more
pub parted-push : (xs : List (List ℕ)) (y : List ℕ) (n : ℕ) → length xs ≡ n → parted (xs ++ y ∷ []) ≡ (parted xs ++ feed_behind n) ++ y
parted-push [] y zero is = append-nil y
parted-push [] y (suc n) is = absurd (omega (arith, is))
parted-push (x ∷ xs) y zero is = absurd (omega (arith, is))
parted-push (x ∷ xs) y (suc n) is =
    ap (λ l. x ++ l) (fed-push xs y) ∙ sym (append_assoc x (fed xs) (10 ∷ y)) ∙ sym (append_assoc (x ++ fed xs) (10 ∷ []) y)

-- the last one has a line feed too
fed-spelled : (x : List ℕ) (xs : List (List ℕ)) → (x ++ fed xs) ++ 10 ∷ [] ≡ spelled (x ∷ xs)
fed-spelled x [] = ap (λ l. l ++ 10 ∷ []) (append-nil x)
fed-spelled x (y ∷ ys) = append_assoc x (10 ∷ y ++ fed ys) (10 ∷ []) ∙ ap (λ l. x ++ 10 ∷ l) (fed-spelled y ys)

pub parted-spelled : (xs : List (List ℕ)) → parted xs ++ 10 ∷ [] ≡ spelled (or_blank xs)
parted-spelled [] = refl
parted-spelled (x ∷ xs) = fed-spelled x xs

module _ (line : ℕ → List ℕ) where
  first-suc : (n : ℕ) → first_lines line (n + 1) ≡ first_lines line n ++ line n ∷ []
  unfolding first_lines
  first-suc n = ap (first_lines line) (add-one n)

  pub first-count : (n : ℕ) → length (first_lines line n) ≡ n
  unfolding first_lines
  first-count zero = refl
  first-count (suc n) = omega (arith, length-append (first_lines line n) (line n ∷ []), first-count n)

  -- the line of one place more, behind others
  pub lines-more : (before : List (List ℕ)) (n count : ℕ) (page mid next : List ℕ) → length (before ++ first_lines line n) ≡ count → page ≡ parted (before ++ first_lines line n)
      → mid ≡ page ++ feed_behind count → next ≡ mid ++ line n → next ≡ parted (before ++ first_lines line (n + 1))
  lines-more before n count page mid next counts is feed step =
      step ∙ ap (λ l. l ++ line n) (feed ∙ ap (λ l. l ++ feed_behind count) is)
      ∙ sym (parted-push (before ++ first_lines line n) (line n) count counts)
      ∙ ap parted (append_assoc before (first_lines line n) (line n ∷ []) ∙ ap (λ l. before ++ l) (sym (first-suc n)))

-- the fault's line, behind others
pub fault-more : (lines : List (List ℕ)) (fault : Option CaptureFault) (n count : ℕ) → length lines ≡ count → feed_behind count ≡ feed_behind n → parted lines ++ fault_behind n fault ≡ parted (lines ++ fault_lines fault)
fault-more lines None n count counts same = append-nil (parted lines) ∙ ap parted (sym (append-nil lines))
fault-more lines (Some f) n count counts same =
    let text = fault_text (capture_rule_code f.rule) f.line in
    sym (append_assoc (parted lines) (feed_behind n) text) ∙ ap (λ l. (parted lines ++ l) ++ text) (sym same) ∙ sym (parted-push lines text count counts)

-- behind some lines stands a line feed
pub some-feed : (n : ℕ) → 0 < n → 10 ∷ [] ≡ feed_behind n
some-feed zero l = absurd (omega (arith, l))
some-feed (suc n) l = refl

-- where there are others only behind the first
pub same-feed : (a s : ℕ) → (0 < s → 0 < a) → feed_behind (a + s) ≡ feed_behind a
same-feed zero zero some = refl
same-feed zero (suc s) some = absurd (omega (arith, some (omega arith)))
same-feed (suc a) s some = sym (some-feed (suc a + s) (omega arith))

-- how many there are of two kinds
pub count-both : (f g : ℕ → List ℕ) (a s : ℕ) → length (first_lines f a ++ first_lines g s) ≡ a + s
count-both f g a s = omega (arith, length-append (first_lines f a) (first_lines g s), first-count f a, first-count g s)

-- one place more
pub any-more : (test : ℕ → Bool) (n : ℕ) → any_below test (n + 1) ≡ (any_below test n || test n)
unfolding any_below
any-more test n = ap (any_below test) (add-one n)
