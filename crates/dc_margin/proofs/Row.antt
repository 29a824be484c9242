-- All lines in one row, and whether one of them is negative.
use Rattle.std.proofs.Common.{◌≡◌, ℕ, zero, suc, ◌+◌, ◌<◌, Bool, true, false, Option, Some, None, Result, Ok, Err, is_some, List, [], ◌∷◌, ◌++◌, length, get_or, take, refl, sym, ap, ◌∙◌, add-one, arith}
use Rattle.std.specs.Prelude.{MatchResult, not}
use Rattle.std.specs.Option.{option_or}
use Rattle.std.specs.Result.{result_err}
use Rattle.dc_cert.specs.Bounds.{numbers_of}
use Rattle.dc_cert.specs.NamedRows.{NamedRows}
use Rattle.dc_check.specs.Verdict.{misnaming, unless, verdict_of}
use Rattle.std.proofs.lemmas.List.{take_more}
use Rattle.dc_check.specs.declared.fault.CheckFault.{CheckFault}
use Rattle.dc_margin.proofs.Verdicts.{lines-append, map-none, verdict-by_lines}
use Rattle.dc_margin.specs.Lines.{line_fault, fault_of_lines, lines_below, margin_lines_of}
use Rattle.dc_margin.specs.Margins.{is_kept}
use Rattle.dc_margin.specs.declared.lines.MarginLine.{MarginLine}
use Rattle.dc_tables.specs.TableRows.{TableRows, AreValid}

below-suc : (lines : ℕ → List MarginLine) (n : ℕ) → lines_below lines (suc n) ≡ lines_below lines n ++ lines n
unfolding lines_below
below-suc lines n = refl

-- one job more
pub job-more : (lines : ℕ → List MarginLine) (n : ℕ) (old own next : List MarginLine) → old ≡ lines_below lines n → own ≡ lines n → next ≡ old ++ own → next ≡ lines_below lines (n + 1)
job-more lines n old own next is here step =
    step ∙ ap (λ l. l ++ own) is ∙ ap (λ l. lines_below lines n ++ l) here ∙ sym (below-suc lines n) ∙ ap (lines_below lines) (sym (add-one n))

-- none is negative among some, and the next one is not either
pub none-more : (xs : List MarginLine) (k : ℕ) (d : MarginLine) → k < length xs → fault_of_lines (take k xs) ≡ None → line_fault (get_or xs k d) ≡ None → fault_of_lines (take (k + 1) xs) ≡ None
none-more xs k d l none here =
    ap fault_of_lines (take_more xs k d l) ∙ lines-append (take k xs) (get_or xs k d ∷ []) ∙ ap (λ o. option_or o (fault_of_lines (get_or xs k d ∷ []))) none
    ∙ ap (λ o. option_or o None) here

-- no job yet
pub lines-none : (lines : ℕ → List MarginLine) → [] ≡ lines_below lines 0
unfolding lines_below
lines-none lines = refl

-- ---- the verdict

no-fault : (o : Option CheckFault) → is_some o ≡ false → o ≡ None
no-fault None h = refl
no-fault (Some fault) h = absurd cc

-- none is negative: then it is accepted
pub accepted-by_lines : (t : TableRows) → AreValid t → (claims : NamedRows) → misnaming t claims ≡ None → (lines : List MarginLine) → lines ≡ margin_lines_of t (numbers_of claims) → is_some (fault_of_lines lines) ≡ false
    → None ≡ verdict_of t claims
accepted-by_lines t v claims named lines own none =
    sym (map-none (verdict_of t claims) (verdict-by_lines t v claims named ∙ sym (ap fault_of_lines own) ∙ no-fault (fault_of_lines lines) none))

-- the fault of a verdict
pub fault-is : (r : Result (Unit {0}) CheckFault) (o : Option CheckFault) → MatchResult r (λ _. o ≡ None) (λ fault. o ≡ Some fault) → result_err r ≡ o
fault-is (Ok x) o h = sym h
fault-is (Err fault) o h = sym h

-- ---- one line

kept-some : (kept : Bool) (fault : CheckFault) → not kept ≡ true → unless kept fault ≡ Some fault
unfolding unless
kept-some true fault h = absurd cc
kept-some false fault h = refl

kept-none : (kept : Bool) (fault : CheckFault) → not kept ≡ false → unless kept fault ≡ None
unfolding unless
kept-none true fault h = refl
kept-none false fault h = absurd cc

or-some : (a : CheckFault) (o p : Option CheckFault) → o ≡ Some a → true ≡ is_some (option_or o p)
or-some a o p h = ap (λ q. is_some (option_or q p)) (sym h)

or-later : (o p : Option CheckFault) → true ≡ is_some p → true ≡ is_some (option_or o p)
or-later None p h = h
or-later (Some fault) p h = refl

-- a negative one is found
pub negative-there : (xs : List MarginLine) (k : ℕ) (d : MarginLine) → k < length xs → not (is_kept (get_or xs k d).margin) ≡ true → true ≡ is_some (fault_of_lines xs)
negative-there [] k d l h = absurd (omega (arith, l))
negative-there (x ∷ xs) zero d l h = or-some _ (line_fault x) (fault_of_lines xs) (kept-some (is_kept x.margin) _ h)
negative-there (x ∷ xs) (suc k) d l h = or-later (line_fault x) (fault_of_lines xs) (negative-there xs k d (omega (arith, l)) h)

-- one that is not negative is passed over
pub kept-more : (xs : List MarginLine) (k : ℕ) (d : MarginLine) → k < length xs → fault_of_lines (take k xs) ≡ None → not (is_kept (get_or xs k d).margin) ≡ false → fault_of_lines (take (k + 1) xs) ≡ None
kept-more xs k d l none here = none-more xs k d l none (kept-none (is_kept (get_or xs k d).margin) _ here)
