-- The lines of marks.
use Rattle.std.proofs.Common.{◌≡◌, ℕ, zero, suc, add-one, ◌+◌, ◌<◌, ◌≤◌, List, [], ◌∷◌, ◌++◌, length, refl, sym, ap, ap₂, ◌∙◌, append_assoc, arith, IfOk, Result, Ok, Err}
use Rattle.std.specs.Prelude.{slice_index}
use Rattle.dc_cert.specs.Bounds.{certificate_rows}
use Rattle.dc_cert.specs.declared.certificate.Certificate.{Certificate}
use Rattle.dc_check.specs.Lent.{tables_of, certificate_of}
use Rattle.dc_check.specs.declared.certified.Certified.{Certified}
use Rattle.dc_device.specs.Lines.{spelled}
use Rattle.dc_device.specs.lemmas.LineLemmas.{spelled-append}
use Rattle.dc_hub.specs.Views.{ClosedView}
use Rattle.dc_run_bench.specs.Marks.{mark_lines, mark_of, mark_text}
use Rattle.dc_script.specs.Script.{listed}
use Rattle.dc_tables.specs.TableRows.{TableRows}

-- one line more, after a line feed
pub line-more : (f : ℕ → List ℕ) (n : ℕ) (old text next : List ℕ) → text ++ 10 ∷ [] ≡ (old ++ 10 ∷ []) ++ spelled (listed f n) → next ≡ text ++ 10 ∷ f n
    → next ++ 10 ∷ [] ≡ (old ++ 10 ∷ []) ++ spelled (listed f (n + 1))
line-more f n old text next is step =
    ap (λ l. l ++ 10 ∷ []) step
    ∙ append_assoc text (10 ∷ f n) (10 ∷ [])
    ∙ sym (append_assoc text (10 ∷ []) (f n ++ 10 ∷ []))
    ∙ ap (λ l. l ++ (f n ++ 10 ∷ [])) is
    ∙ append_assoc (old ++ 10 ∷ []) (spelled (listed f n)) (f n ++ 10 ∷ [])
    ∙ ap (λ l. (old ++ 10 ∷ []) ++ l) (sym (spelled-append (listed f n) (f n ∷ [])))
    ∙ ap (λ m. (old ++ 10 ∷ []) ++ spelled (listed f m)) (sym (add-one n))

listed-same : {X : Type 0} (f g : ℕ → X) (n : ℕ) → ((k : ℕ) → k < n → f k ≡ g k) → listed f n ≡ listed g n
listed-same f g zero same = refl
listed-same f g (suc n) same =
    ap₂ (λ xs x. xs ++ x ∷ []) (listed-same f g n (λ k below. same k (omega (arith, below)))) (same n (omega arith))

-- the tables and the certificate are a book's, and the marks too
module _ (book : ClosedView) (certified : Certified) (t : TableRows) (c : Certificate) (marks lent : List ℕ)
    (of_book : certified ≡ book.certified) (tables : t ≡ tables_of certified) (claims : c ≡ certificate_of certified) (slice : lent ≡ marks)
    (few : length t.buses ≤ 64) (noted : (bus : ℕ) → bus < 64 → slice_index marks bus ≡ mark_of book bus) where
  lines-same : listed (λ bus. mark_text t (certificate_rows c) bus (slice_index lent bus)) (length t.buses) ≡ mark_lines book
  lines-same =
      let own = tables_of book.certified in
      let rows = certificate_rows (certificate_of book.certified) in
      let same : t ≡ own = tables ∙ ap tables_of of_book in
      let count : length t.buses ≡ length own.buses = ap (λ (u : TableRows). length u.buses) same in
      ap (λ (u : TableRows). listed (λ bus. mark_text u (certificate_rows c) bus (slice_index lent bus)) (length u.buses)) same
      ∙ ap (λ (d : Certificate). listed (λ bus. mark_text own (certificate_rows d) bus (slice_index lent bus)) (length own.buses)) (claims ∙ ap certificate_of of_book)
      ∙ listed-same (λ bus. mark_text own rows bus (slice_index lent bus)) (λ bus. mark_text own rows bus (mark_of book bus)) (length own.buses)
      (λ bus below. ap (mark_text own rows bus) (ap (λ l. slice_index l bus) slice ∙ noted bus (omega (arith, below, few, count))))

  -- their lines were put at the end
  pub marks-told : {T E : Type 0} (old text : List ℕ) (result : Result T E)
      → IfOk result (λ _. text ++ 10 ∷ [] ≡ (old ++ 10 ∷ []) ++ spelled (listed (λ bus. mark_text t (certificate_rows c) bus (slice_index lent bus)) (length t.buses)))
      → IfOk result (λ _. text ++ 10 ∷ [] ≡ (old ++ 10 ∷ []) ++ spelled (mark_lines book))
  marks-told old text (Ok x) told = told ∙ ap (λ ls. (old ++ 10 ∷ []) ++ spelled ls) lines-same
  marks-told old text (Err e) told = tt
