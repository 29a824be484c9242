-- What the lines of the first rows of a kind say, one behind the other.
use Rattle.std.proofs.Common.{◌≡◌, ℕ, zero, suc, add-one, ◌+◌, ◌*◌, ◌<◌, ◌≤◌, List, [], ◌∷◌, ◌++◌, length, get_or, take, sym, ap, ◌∙◌, Ok, false, arith, append_assoc, nat_lt}
use Rattle.std.proofs.lemmas.Bool.{le-ltb, or_from}
use Rattle.std.proofs.lemmas.List.{take_more}
use Rattle.dc_cert.specs.Bounds.{CertificateRows}
use Rattle.dc_run_survey.specs.Lines.{first_lines}
use Rattle.dc_tables.specs.TableRows.{TableRows}
use Rattle.dc_seen.specs.Said.{SeenRows, at_line, followed, joined, line_said, lines_said, none_seen, too_long}
use Rattle.dc_seen.specs.lemmas.Joining.{followed-none, said_on}
use Rattle.dc_seen.specs.lemmas.Standing.{first_line}

within : (before line : ℕ) → line ≤ 256 → before + (line + 1) ≤ 1048576 → too_long before line (line + 1) ≡ false
within before line short fits = or_from (nat_lt 256 line) (nat_lt 1048576 (before + (line + 1))) (le-ltb 256 line short) (le-ltb 1048576 (before + (line + 1)) fits)

module _ (t : TableRows) (c : CertificateRows) {X : Type 0} (rows : List X → SeenRows) (line : ℕ → List ℕ) (first : ℕ) (xs : List X) (d : X) where
  -- the lines of the first n rows, behind so many bytes and so many lines, and others behind them
  abbrev pub Told : (n before : ℕ) → List (List ℕ) → List ℕ → Type 0
  Told n before lines rest =
      (after : ℕ) × (after ≤ 257 * (first + n))
      × (lines_said t c before first (first_lines line n ++ lines) rest ≡ followed (Ok (rows (take n xs))) (lines_said t c after (first + n) lines rest))

  module _ (join : (ys zs : List X) → joined (rows ys) (rows zs) ≡ rows (ys ++ zs)) (none : rows [] ≡ none_seen) (count : ℕ) (each : length xs ≡ count)
      (short : (n : ℕ) → n < count → length (line n) ≤ 256) (says : (n : ℕ) → n < count → line_said t c (first + n) (line n) ≡ Ok (rows (get_or xs n d ∷ []))) (room : 257 * (first + count) ≤ 1048576) where
    pub told : (n : ℕ) → n ≤ count → (before : ℕ) → before ≤ 257 * first → (lines : List (List ℕ)) (rest : List ℕ) → Told n before lines rest
    unfolding first_lines
    told zero le before few lines rest =
        let at : first + 0 ≡ first = omega arith in (
          before,
          omega (arith, few, at),
          followed-none (lines_said t c before first lines rest)
              ∙ ap (λ s. followed (Ok s) (lines_said t c before first lines rest)) (sym none)
              ∙ ap (λ k. followed (Ok (rows [])) (lines_said t c before k lines rest)) (sym at),
        )
    told (suc n) le before few lines rest =
        let less : n < count = omega arith in
        let (mid, low, front) = told n (omega arith) before few (line n ∷ lines) rest in
        let small : length (line n) ≤ 256 = short n less in
        let fits : mid + (length (line n) + 1) ≤ 1048576 = omega (arith, low, small, room, less) in
        let next : first + n + 1 ≡ first + suc n = omega arith in
        let here : lines_said t c mid (first + n) (line n ∷ lines) rest ≡ followed (Ok (rows (get_or xs n d ∷ []))) (lines_said t c (mid + length (line n) + 1) (first + n + 1) lines rest) =
        first_line t c mid (first + n) (line n) lines rest (within mid (length (line n)) small fits)
        ∙ ap (λ s. followed (at_line (first + n) s) (lines_said t c (mid + length (line n) + 1) (first + n + 1) lines rest)) (says n less) in
        let whole : joined (rows (take n xs)) (rows (get_or xs n d ∷ [])) ≡ rows (take (suc n) xs) =
        join (take n xs) (get_or xs n d ∷ []) ∙ ap rows (sym (take_more xs n d (omega (arith, each, less))) ∙ ap (λ k. take k xs) (add-one n)) in (
          mid + length (line n) + 1,
          omega (arith, low, small),
          ap (λ ls. lines_said t c before first ls rest) (append_assoc (first_lines line n) (line n ∷ []) lines)
              ∙ said_on (lines_said t c before first (first_lines line n ++ (line n ∷ lines)) rest) (lines_said t c mid (first + n) (line n ∷ lines) rest)
              (lines_said t c (mid + length (line n) + 1) (first + n + 1) lines rest) (rows (take n xs)) (rows (get_or xs n d ∷ [])) front here
              ∙ ap (λ s. followed (Ok s) (lines_said t c (mid + length (line n) + 1) (first + n + 1) lines rest)) whole
              ∙ ap (λ k. followed (Ok (rows (take (suc n) xs))) (lines_said t c (mid + length (line n) + 1) k lines rest)) next,
        )
