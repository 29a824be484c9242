-- What is kept of a design, and what `design` answers and reports.
use Rattle.std.proofs.Common.{◌≡◌, ◌≢◌, ℕ, ◌+◌, ◌++◌, List, [], ◌∷◌, refl, sym, ap, subst, arith, Option, Some, None, IfOk, IfErr, IfSome, IsSomeAnd, Result, Ok, Err}
use Rattle.std.specs.Global.{Vec}
use Rattle.dc_answer.specs.Answer.{Answer, Any, Raises, Reported, WholeOrNone, one_line}
use Rattle.dc_answer.specs.Exits.{is_answered}
use Rattle.dc_answer.specs.Judging.{Finishes, Keeps}
use Rattle.dc_answer.specs.lemmas.Judgments.{one_said, reported_any, some_kept, texts_reported}
use Rattle.dc_answer.specs.declared.answer.Failure.{Failure}
use Rattle.dc_answer.specs.declared.exit.Exit.{Exit}
use Rattle.dc_answer.specs.declared.exit.Outcome.{Outcome}
use Rattle.dc_answer.specs.declared.exit.Outcome.TheVariants.{Done, Refused, Unreadable}
use Rattle.dc_cell.specs.declared.rows.InputRow.{InputRow}
use Rattle.dc_cell.specs.declared.rows.OutputRow.{OutputRow}
use Rattle.dc_cert.specs.NamedRows.{NamedRows}
use Rattle.dc_cert.specs.Printing.{claims_text}
use Rattle.dc_device.specs.States.{SinkState}
use Rattle.dc_sheet.specs.Sheets.{AreInputs, AreOutputs}
use Rattle.dc_run_design.specs.Design.{AnswersDesign, AreDesigned, Designs, IsCertified, IsSheet}

-- the text of tables that pass, and that of their certificate, were kept
pub designed : (ins : List InputRow) (outs : List OutputRow) (text page certificate : List ℕ) (claims : NamedRows) → IsCertified ins outs text claims → page ++ 10 ∷ [] ≡ text
    → certificate ≡ claims_text claims → AreDesigned ins outs (page ++ 10 ∷ []) certificate
designed ins outs text page certificate claims certified same printed =
    record { claims = claims; certified = subst (λ t. IsCertified ins outs t claims) (sym same) certified; printed = printed }

-- what was designed for the rows of two texts is what is answered to these
pub says : {E : Type 0} (inputs outputs : List ℕ) (ins : List InputRow) (outs : List OutputRow) (page certificate : List ℕ) (result : Result Outcome E) → AreInputs inputs ins → AreOutputs outputs outs
    → Designs ins outs page certificate result → Keeps (AnswersDesign inputs outputs certificate) page result
says inputs outputs ins outs page certificate (Ok Done) i o h =
    one_said (AnswersDesign inputs outputs certificate) page page Done refl
    (record { line = page; outcome = Done; says = record { ins = ins; outs = outs; inputs_read = i; outputs_read = o; designed = h }; said = refl })
says inputs outputs ins outs page certificate (Ok Refused) i o h =
    one_said (AnswersDesign inputs outputs certificate) page page Refused refl (record { line = page; outcome = Refused; says = tt; said = refl })
says inputs outputs ins outs page certificate (Ok Unreadable) i o h =
    one_said (AnswersDesign inputs outputs certificate) page page Unreadable refl (record { line = page; outcome = Unreadable; says = tt; said = refl })
says inputs outputs ins outs page certificate (Err e) i o h = tt

-- faults that are told
pub says_faults : {E : Type 0} (inputs outputs page certificate : List ℕ) (result : Result Outcome E) → IfOk result (λ o. o ≡ Unreadable) → Keeps (AnswersDesign inputs outputs certificate) page result
says_faults inputs outputs page certificate (Ok o) is =
    let P : Outcome → Type 0 = λ x. Keeps {E = ℕ} (AnswersDesign inputs outputs certificate) page (Ok x) in
    subst P (sym is) (one_said (AnswersDesign inputs outputs certificate) page page Unreadable refl (record { line = page; outcome = Unreadable; says = tt; said = refl }))
says_faults inputs outputs page certificate (Err e) is = tt

-- the rows of a sheet that was read whole
pub read_inputs_of : (sheet : Option (Vec ℕ)) (text : List ℕ) (rows : List InputRow) → IsSheet sheet text → IsSomeAnd sheet (λ bytes. AreInputs bytes.items rows) → AreInputs text rows
read_inputs_of (Some bytes) text rows same are = subst (λ t. AreInputs t rows) same are
read_inputs_of None text rows long are = absurd are

pub read_outputs_of : (sheet : Option (Vec ℕ)) (text : List ℕ) (rows : List OutputRow) → IsSheet sheet text → IsSomeAnd sheet (λ bytes. AreOutputs bytes.items rows) → AreOutputs text rows
read_outputs_of (Some bytes) text rows same are = subst (λ t. AreOutputs t rows) same are
read_outputs_of None text rows long are = absurd are

-- ---- both sources

-- what is known of a text, where it is known
pub of_known : (P : List ℕ → Type 0) (o : Option (List ℕ)) (text : List ℕ) → IfSome o P → o ≡ Some text → P text
of_known P None text h e = absurd (cc)
of_known P (Some given) text h e = let same : given ≡ text = cc in subst P same h

-- ---- what is reported

pub reported_by : (Is : Answer → Type 0) (text : List ℕ) (a a' : ℕ) (sink sink' : SinkState) (judged : Result Outcome Failure) (exit : Exit) → Finishes judged text sink sink' exit
    → Keeps Is text judged → Raises a a' judged → Reported (WholeOrNone Is (is_answered exit)) sink.contents sink'.contents a a' sink.failed sink'.failed exit
reported_by Is text a a' sink sink' judged exit f h r =
    texts_reported Is text sink.contents f.mid.contents sink'.contents judged f.ended a a' sink.failed f.mid.failed sink'.failed exit h r f.ends f.same f.other f.more f.rise f.is f.reports

-- whatever the sources give
pub any_reported : (text : List ℕ) (a a' : ℕ) (sink sink' : SinkState) (judged : Result Outcome Failure) (exit : Exit) → Finishes judged text sink sink' exit
    → Raises a a' judged → Reported Any sink.contents sink'.contents a a' sink.failed sink'.failed exit
any_reported text a a' sink sink' judged exit f r =
    reported_any _ _ _ _ _ _ _ _ (reported_by Any text a a' sink sink' judged exit f (some_kept text judged) r)
