-- What is told of texts that are no concentrator's.
use Rattle.std.proofs.Common.{◌≡◌, ℕ, ◌<◌, ◌+◌, List, [], ◌∷◌, ◌++◌, Option, Some, None, IfSome, Ok, Err, length, refl, sym, ap, ◌∙◌, subst, arith, inl, inr}
use Rattle.std.specs.Prelude.{codes}
use Rattle.std.proofs.lemmas.Bool.{cases_lt}
use Rattle.std.proofs.lemmas.List.{get_or_append_left, get_or_push, length_push}
use Rattle.dc_answer.specs.Answer.{one_line}
use Rattle.dc_answer.specs.Inputs.{LoadsCertificate, LoadsWritten}
use Rattle.dc_answer.specs.declared.inputs.Unloaded.TheVariants.{Refused as RefusedText}
use Rattle.dc_answer.specs.declared.exit.Outcome.TheVariants.{Refused as WasRefused, Unreadable as WasUnreadable}
use Rattle.dc_build.specs.Reported.{AreTablesOf, AreWrittenBy, TellsWritten}
use Rattle.dc_build.specs.Written.{WrittenRows}
use Rattle.dc_cert.specs.Faults.{fault_text}
use Rattle.dc_cert.specs.NamedRows.{NamedRows}
use Rattle.dc_cert.specs.Reading.{certificate_of}
use Rattle.dc_cert.specs.declared.fault.Fault.{Fault}
use Rattle.dc_check.specs.Accepts.{Accepts}
use Rattle.dc_check.specs.Verdict.{verdict_of}
use Rattle.dc_check.specs.declared.fault.CheckFault.{CheckFault}
use Rattle.dc_document.specs.FaultText.{table_fault_text}
use Rattle.dc_document.specs.declared.fault.BuildError.TheVariants.{Refused as RefusedTables}
use Rattle.dc_document.specs.declared.fault.TableFault.{TableFault}
use Rattle.dc_print.specs.Verdicts.{refused_text}
use Rattle.dc_run.specs.Check.{AnswersCheck, answer_claims, answer_verdict}
use Rattle.dc_system_text.specs.System.{ConcentratorRow}
use Rattle.dc_toml.specs.Reading.{tables_of}
use Rattle.dc_ways.specs.Members.{MemberRows, concentrator, no_member}
use Rattle.dc_run_network.specs.Lines.{at_text}
use Rattle.dc_run_network.specs.Members.{AnswersHalt, AreMembersTo, Halts, Holds, IsHaltAt, IsMemberAt, IsMemberOf, IsSaid, OfTexts, ReadsCertificate, ReadsTables, TellsBehind, row_at}
use Rattle.dc_run_network.specs.declared.members.Halt.{Halt}
use Rattle.dc_run_network.specs.declared.members.Halt.TheVariants.{Told, NoFile, Memory, Threads}

-- ---- what `check` answers

-- to tables that can't be read
pub tables-answer : (tables certificate : List ℕ) (fault : TableFault) → TellsWritten (tables_of tables) (Err (RefusedTables fault)) → AnswersCheck tables certificate (one_line (codes "unreadable " ++ table_fault_text fault) WasUnreadable)
tables-answer tables certificate fault tells = (Err (RefusedTables fault), tells, refl)

-- tables beside their document are those of the text
are-tables : (tables : List ℕ) (w : WrittenRows) → AreWrittenBy (tables_of tables) w → AreTablesOf (tables_of tables) w.tables
are-tables tables w are = record { parts = w.parts; said = are.said; valid = are.valid; rows_of = are.rows_of }

-- to a certificate that can't be read
pub certificate-answer : (tables certificate : List ℕ) (w : WrittenRows) (fault : Fault) → AreWrittenBy (tables_of tables) w → certificate_of certificate ≡ Err fault
    → AnswersCheck tables certificate (one_line (codes "unreadable " ++ fault_text fault) WasUnreadable)
certificate-answer tables certificate w fault are read = (Ok w.tables, are-tables tables w are, ap (answer_claims w.tables) (sym read))

-- to a certificate that is refused
pub refused-answer : (tables certificate : List ℕ) (w : WrittenRows) (claims : NamedRows) (fault : CheckFault) → AreWrittenBy (tables_of tables) w → certificate_of certificate ≡ Ok claims
    → verdict_of w.tables claims ≡ Some fault → AnswersCheck tables certificate (one_line (refused_text w.tables fault) WasRefused)
refused-answer tables certificate w claims fault are read refused = (Ok w.tables, are-tables tables w are, ap (answer_verdict w.tables) (sym refused) ∙ ap (answer_claims w.tables) (sym read))

-- ---- what was read

-- tables that can't be read are told, whatever the certificate is
pub tables-refused : (known : Option (List ℕ)) (fault : TableFault) (line : List ℕ) → line ≡ codes "unreadable " ++ table_fault_text fault → IfSome known (λ text. LoadsWritten (tables_of text) (Err (RefusedText fault)))
    → IfSome known (λ text. ReadsTables text line (Err (Told WasUnreadable)))
tables-refused None fault line is tells = tt
tables-refused (Some text) fault line is tells = λ certificate. subst (λ l. AnswersCheck text certificate (one_line l WasUnreadable)) (sym is) (tables-answer text certificate fault tells)

pub tables-failed : (known : Option (List ℕ)) (line : List ℕ) (halt : Halt) → ((tables certificate : List ℕ) → AnswersHalt tables certificate line halt) → IfSome known (λ text. ReadsTables text line (Err halt))
tables-failed None line halt untold = tt
tables-failed (Some text) line halt untold = λ certificate. untold text certificate

-- so is a certificate, behind any tables
pub certificate-refused : (known : Option (List ℕ)) (fault : Fault) (line : List ℕ) → line ≡ codes "unreadable " ++ fault_text fault → IfSome known (λ text. LoadsCertificate (certificate_of text) (Err (RefusedText fault)))
    → IfSome known (λ text. ReadsCertificate text line (Err (Told WasUnreadable)))
certificate-refused None fault line is read = tt
certificate-refused (Some text) fault line is read = λ tables w are. subst (λ l. AnswersCheck tables text (one_line l WasUnreadable)) (sym is) (certificate-answer tables text w fault are read)

pub certificate-failed : (known : Option (List ℕ)) (line : List ℕ) (halt : Halt) → ((tables certificate : List ℕ) → AnswersHalt tables certificate line halt) → IfSome known (λ text. ReadsCertificate text line (Err halt))
certificate-failed None line halt untold = tt
certificate-failed (Some text) line halt untold = λ tables w are. untold tables text

-- what was made of both is a concentrator of these texts
pub member-is : (tables certificate : List ℕ) (w : WrittenRows) (claims : NamedRows) (m : MemberRows) → m ≡ record { written = w; claims = claims } → AreWrittenBy (tables_of tables) w → certificate_of certificate ≡ Ok claims → Accepts w.tables claims
    → IsMemberOf tables certificate m
member-is tables certificate w claims m is are read accepts =
    let P : MemberRows → Type 0 = λ z. IsMemberOf tables certificate z in
    subst P (sym is) (record { tables_read = are; certificate_read = read; accepted = accepts })

-- what is known of a text that is known
pub at-known : (known : Option (List ℕ)) (P : List ℕ → Type 0) (text : List ℕ) → IfSome known P → known ≡ Some text → P text
at-known None P text h e = absurd cc
at-known (Some given) P text h e = let same : given ≡ text = cc in subst P same h

-- ---- what is told

-- behind its name stands what was to be told
pub halt-told : (holds : Holds) (folder : List ℕ) (c : ConcentratorRow) (name line page : List ℕ) (halt result : Halt) → name ≡ c.name → TellsBehind name line page halt result → IsSaid line halt
    → OfTexts holds folder c (λ rows text. AnswersHalt rows text line halt) → IsHaltAt holds folder c page result
halt-told holds folder c name line page halt (Told outcome) named (behind, is) said answers = record {
  line = line;
  behind = behind ∙ ap (λ n. at_text n line) named;
  said = subst (IsSaid line) is said;
  answers = λ rows text one two. subst (AnswersHalt rows text line) is (answers rows text one two);
}
halt-told holds folder c name line page halt NoFile named (behind, is) said answers = record {
  line = line;
  behind = behind ∙ ap (λ n. at_text n line) named;
  said = subst (IsSaid line) is said;
  answers = λ rows text one two. subst (AnswersHalt rows text line) is (answers rows text one two);
}
halt-told holds folder c name line page halt Memory named tells said answers = tt
halt-told holds folder c name line page halt Threads named tells said answers = tt

-- ---- one more

-- those before it stay
members-more : (holds : Holds) (folder : List ℕ) (cs : List ConcentratorRow) (members : List MemberRows) (n : ℕ) (m : MemberRows) → length members ≡ n → AreMembersTo holds folder cs members n → IsMemberAt holds folder (row_at cs n) m
    → AreMembersTo holds folder cs (members ++ m ∷ []) (n + 1)
members-more holds folder cs members n m each are one i there =
    elim (cases_lt i n) [
      | inl before ↦ subst (λ (z : MemberRows). IsMemberAt holds folder (row_at cs i) z) (sym (get_or_append_left members (m ∷ []) no_member i (omega (arith, before, each)))) (are i before)
      | inr not ↦
          let same : i ≡ n = omega (arith, there, not) in
          let last : concentrator (members ++ m ∷ []) i ≡ m = get_or_push members m no_member i (omega (arith, same, each)) in
          subst (λ (z : MemberRows). IsMemberAt holds folder (row_at cs i) z) (sym last) (subst (λ k. IsMemberAt holds folder (row_at cs k) m) (sym same) one)
    ]

pub with-more : (holds : Holds) (folder : List ℕ) (cs : List ConcentratorRow) (members : List MemberRows) (n : ℕ) (m : MemberRows) → length members ≡ n → AreMembersTo holds folder cs members n → IsMemberAt holds folder (row_at cs n) m
    → (length (members ++ m ∷ []) ≡ n + 1) × AreMembersTo holds folder cs (members ++ m ∷ []) (n + 1)
with-more holds folder cs members n m each are one = (omega (arith, length_push members m, each), members-more holds folder cs members n m each are one)

-- the first that is not accepted
pub halts-here : (holds : Holds) (folder : List ℕ) (cs : List ConcentratorRow) (members : List MemberRows) (n : ℕ) (page : List ℕ) (halt : Halt) → n < length cs → AreMembersTo holds folder cs members n → IsHaltAt holds folder (row_at cs n) page halt
    → Halts holds folder cs page halt
halts-here holds folder cs members n page (Told outcome) there before told = record { index = n; there = there; members = members; before = before; told = told }
halts-here holds folder cs members n page NoFile there before told = record { index = n; there = there; members = members; before = before; told = told }
halts-here holds folder cs members n page Memory there before told = tt
halts-here holds folder cs members n page Threads there before told = tt
