-- What is kept of a layout, and what `layout` answers.
use Rattle.std.proofs.Common.{◌≡◌, ℕ, ◌<◌, ◌++◌, List, [], ◌∷◌, length, refl, sym, subst, ◌∙◌, Option, None, IfOk, Result, Ok, Err}
use Rattle.std.specs.Global.{Vec}
use Rattle.dc_answer.specs.Judging.{Keeps, Says}
use Rattle.dc_answer.specs.lemmas.Judgments.{one_said}
use Rattle.dc_answer.specs.lemmas.Loading.{over}
use Rattle.dc_answer.specs.declared.exit.Outcome.{Outcome}
use Rattle.dc_answer.specs.declared.exit.Outcome.TheVariants.{Done, Refused, Unreadable}
use Rattle.dc_document.specs.Document.{Document}
use Rattle.dc_document.specs.declared.fault.BuildError.{BuildError}
use Rattle.dc_document.specs.declared.fault.BuildError.TheVariants.{Refused as RefusedText}
use Rattle.dc_document.specs.declared.fault.Section.TheVariants.{Top}
use Rattle.dc_document.specs.declared.fault.TableFault.{TableFault}
use Rattle.dc_document.specs.declared.fault.TableRule.TheVariants.{NotToml}
use Rattle.dc_document.specs.declared.limits.TheConstants.{TEXT_LIMIT}
use Rattle.dc_toml.specs.Faults.{Gives, Reading}
use Rattle.dc_toml.specs.Reading.{document_of, unlaid_tables_of}
use Rattle.dc_toml.specs.Written.{Written, written}
use Rattle.dc_run_design.specs.Design.{IsSheet}
use Rattle.dc_run_design.specs.Layout.{AnswersLayout, IsLaid, Lays, SaysLayout, TellsFault}

-- the text of tables that pass was kept
pub laid : (given : Written) (text page : List ℕ) → IsLaid given text → page ++ 10 ∷ [] ≡ text → IsLaid given (page ++ 10 ∷ [])
laid given text page is same = subst (IsLaid given) (sym same) is

-- nothing is claimed of what is refused
pub refused : {E : Type 0} (given : Written) (page : List ℕ) (result : Result Outcome E) → IfOk result (λ o. o ≡ Refused) → Lays given page result
refused given page (Ok o) is = let P : Outcome → Type 0 = λ x. Lays {E = ℕ} given page (Ok x) in subst P (sym is) tt
refused given page (Err e) is = tt

-- what is said with an outcome is an answer
said : (text page : List ℕ) (o : Outcome) → SaysLayout text page o → Says (AnswersLayout text) page o
said text page o says = one_said (AnswersLayout text) page page o refl (record { line = page; outcome = o; says = says; said = refl })

no_other : (text : List ℕ) (given : Written) (fault own : TableFault) → unlaid_tables_of text ≡ Ok given → unlaid_tables_of text ≡ Err own → fault ≡ own
no_other text given fault own read e = let no : Ok given ≡ Err own = sym read ∙ e in absurd (cc)

-- what was laid out for the tables of a text is what is answered to it
pub lays : {E : Type 0} (text page : List ℕ) (given : Written) (result : Result Outcome E) → unlaid_tables_of text ≡ Ok given → Lays given page result → Keeps (AnswersLayout text) page result
lays text page given (Ok Done) read h = said text page Done (record { given = given; read = read; laid = h })
lays text page given (Ok Refused) read h = said text page Refused (given, read)
lays text page given (Ok Unreadable) read (fault, line) =
    said text page Unreadable (record { fault = fault; told = line; first = λ own e. no_other text given fault own read e })
lays text page given (Err e) read h = tt

-- a text that is too long is no TOML
pub too_long : (text : List ℕ) → TEXT_LIMIT < length text → unlaid_tables_of text ≡ Err (record { rule = NotToml; section = Top; index = 0 })
unfolding document_of
too_long text long = rw (over (length text) TEXT_LIMIT long) refl

same_fault : (text : List ℕ) (fault own : TableFault) → unlaid_tables_of text ≡ Err fault → unlaid_tables_of text ≡ Err own → fault ≡ own
same_fault text fault own read e = let same : Err fault ≡ Err own = sym read ∙ e in cc

-- the fault that a reading gives
pub given_fault : (reading : Reading Written) (e : BuildError) (fault : TableFault) → e ≡ RefusedText fault → Gives {A = Document} written (Err e) reading → reading ≡ Err fault
given_fault reading e fault is h = subst (λ x. Gives {A = Document} written (Err x) reading) is h

-- a sheet that is not there was too long
pub long_sheet : (o : Option (Vec ℕ)) (text : List ℕ) → o ≡ None → IsSheet o text → TEXT_LIMIT < length text
long_sheet o text is h = subst (λ x. IsSheet x text) is h

-- the fault of a text is told
pub faulty : (text page : List ℕ) (o : Outcome) (fault : TableFault) → unlaid_tables_of text ≡ Err fault → o ≡ Unreadable → TellsFault page fault → Says (AnswersLayout text) page o
faulty text page o fault read is line =
    let P : Outcome → Type 0 = λ x. Says (AnswersLayout text) page x in
    subst P (sym is) (said text page Unreadable (record { fault = fault; told = line; first = λ own e. same_fault text fault own read e }))
