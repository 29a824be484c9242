-- What is read before the rest is judged.
use Rattle.std.proofs.Common.{◌≡◌, ◌≢◌, ◌⊎◌, ℕ, zero, suc, ◌+◌, ◌<◌, ◌≤◌, ◌++◌, List, [], ◌∷◌, length, refl, sym, ◌∙◌, ap, subst, arith, codes, Option, Some, IfErr, IfSome, Result, Ok, Err, inl, inr}
use Rattle.dc_cert.specs.Faults.{fault_text}
use Rattle.dc_cert.specs.NamedRows.{NamedRows, named_rows}
use Rattle.dc_cert.specs.Reading.{certificate_of}
use Rattle.dc_cert.specs.declared.certificate.Certificate.{Certificate}
use Rattle.dc_cert.specs.declared.fault.Fault.{Fault}
use Rattle.dc_device.specs.States.{SourceState}
use Rattle.dc_document.specs.FaultText.{table_fault_text}
use Rattle.dc_document.specs.declared.fault.BuildError.{BuildError}
use Rattle.dc_document.specs.declared.fault.BuildError.TheVariants.{Refused as RefusedTables}
use Rattle.dc_document.specs.declared.fault.TableFault.{TableFault}
use Rattle.dc_toml.specs.Faults.{Reading}
use Rattle.dc_toml.specs.Reading.{tables_of}
use Rattle.dc_toml.specs.Written.{Written}
use Rattle.dc_answer.specs.Answer.{Answer, one_line}
use Rattle.dc_answer.specs.Given.{AreFirst, AreTexts, AskUpTo, OnlyAfter, failures, kept_from}
use Rattle.dc_answer.specs.Inputs.{AnswersBy, AnswersCertificate, CertificateGoesOn, GoOnBy, LoadsBy, LoadsCertificate, failed_in}
use Rattle.dc_answer.specs.Judging.{Keeps, Raised, Says, to_write}
use Rattle.dc_answer.specs.declared.answer.Failure.{Failure}
use Rattle.dc_answer.specs.declared.answer.Failure.TheVariants.{Source, Sink, Memory as NoMemory}
use Rattle.dc_answer.specs.declared.exit.Outcome.{Outcome}
use Rattle.dc_answer.specs.declared.exit.Outcome.TheVariants.{Unreadable}
use Rattle.dc_answer.specs.declared.inputs.Unloaded.{Unloaded}
use Rattle.dc_answer.specs.declared.inputs.Unloaded.TheVariants.{Refused, Failed}
use Rattle.dc_answer.specs.declared.judge.Unjudged.{Unjudged}
use Rattle.dc_answer.specs.declared.judge.Unjudged.TheVariants.{Device, Memory, Threads}
use Rattle.dc_answer.specs.lemmas.Judgments.{kept_as, one_said}

-- ---- failures, pulls, order: whatever is read

-- a source that did not fail, and those behind it
pub read_raised : (a a' b b' : ℕ) (result : Result Outcome Unjudged) → a' ≡ a + 0 → Raised b b' result → Raised (a + b) (a' + b') result
read_raised a a' b b' (Ok outcome) e h = omega arith
read_raised a a' b b' (Err Device) e h = omega arith
read_raised a a' b b' (Err Memory) e h = omega arith
read_raised a a' b b' (Err Threads) e h = omega arith

-- its text was not read
unread_raised_by : (a a' b : ℕ) (failure : Failure) (e : Unjudged) → to_write (Err e) ≡ Some (Err failure) → a' ≡ a + failed_in {T = ℕ} {F = ℕ} (Err (Failed failure)) → Raised (a + b) (a' + b) (Err e)
unread_raised_by a a' b Source Device told h = omega arith
unread_raised_by a a' b NoMemory Memory told h = omega arith
unread_raised_by a a' b Source Memory told h = absurd (cc)
unread_raised_by a a' b NoMemory Device told h = absurd (cc)
unread_raised_by a a' b Sink Device told h = absurd (cc)
unread_raised_by a a' b Sink Memory told h = absurd (cc)
unread_raised_by a a' b failure Threads told h = absurd (cc)

pub unread_raised : (a a' b : ℕ) (failure given : Failure) (e : Unjudged) → given ≡ failure → to_write (Err e) ≡ Some (Err given) → a' ≡ a + failed_in {T = ℕ} {F = ℕ} (Err (Failed failure)) → Raised (a + b) (a' + b) (Err e)
unread_raised a a' b failure given e same told h = unread_raised_by a a' b failure e (subst (λ f. to_write (Err e) ≡ Some (Err f)) same told) h

-- those that are not asked
pub none_ask : (limits : List ℕ) (states : List SourceState) → AskUpTo limits states states
none_ask [] [] = tt
none_ask (l ∷ ls) [] = tt
none_ask [] (s ∷ ss) = (refl, none_ask [] ss)
none_ask (l ∷ ls) (s ∷ ss) = ((omega arith, omega arith), none_ask ls ss)

-- what is behind was not asked for
pub kept_order : {S R : Type 0} (kept : ℕ → R → R → Type 0) → ((k : ℕ) (r : R) → kept k r r) → (x x' : S) (r : R) (GoesOn : List (List ℕ) → Type 0) (s : SourceState) (ss : List SourceState)
    → GoesOn [] → OnlyAfter GoesOn (s ∷ ss) (λ k. kept_from kept k x x' r r)
kept_order kept same x x' r GoesOn s ss begins [] are = inl begins
kept_order kept same x x' r GoesOn s ss begins (text ∷ first) are = inr (same (length first) r)

-- ---- tables

module _ {X : Type 0} (Tells : Reading Written → Result X BuildError → Type 0) (Is : X → List (List ℕ) → Answer → Type 0) (s : SourceState) (ss : List SourceState) (page : List ℕ) where
  pub tables_read : (x : X) (result : Result Outcome Unjudged) → IfSome s.remaining (λ text. LoadsBy Tells (tables_of text) (Ok x))
      → ((texts : List (List ℕ)) → AreTexts ss texts → Keeps (Is x texts) page result) → (texts : List (List ℕ)) → AreTexts (s ∷ ss) texts → Keeps (AnswersBy Tells Is texts) page result
  tables_read x result loads judged [] are = absurd are
  tables_read x result loads judged (text ∷ texts) (e, are) =
      let reported = rw e at loads in kept_as (Is x texts) (AnswersBy Tells Is (text ∷ texts)) page result (λ answer is. (Ok x, reported, is)) (judged texts are)

  pub tables_refused : (fault printed : TableFault) (line : List ℕ) → IfSome s.remaining (λ text. LoadsBy Tells (tables_of text) (Err (Refused fault))) → printed ≡ fault
      → line ≡ codes "unreadable " ++ table_fault_text printed → page ≡ line → (texts : List (List ℕ)) → AreTexts (s ∷ ss) texts → Says (AnswersBy Tells Is texts) page Unreadable
  tables_refused fault printed line loads at is same [] are = absurd are
  tables_refused fault printed line loads at is same (text ∷ texts) (e, are) =
      let reported = rw e at loads in
      one_said (AnswersBy Tells Is (text ∷ texts)) page (codes "unreadable " ++ table_fault_text fault) Unreadable
      (same ∙ is ∙ ap (λ x. codes "unreadable " ++ table_fault_text x) at) (Err (RefusedTables fault), reported, refl)

pub tables_order : {X : Type 0} (Tells : Reading Written → Result X BuildError → Type 0) {S R : Type 0} (kept : ℕ → R → R → Type 0) (s1 s1' : S) (r r' : R) (GoesOn : X → List (List ℕ) → Type 0) (s : SourceState) (ss : List SourceState) (x : X)
    → IfSome s.remaining (λ text. LoadsBy Tells (tables_of text) (Ok x)) → OnlyAfter (GoesOn x) ss (λ k. kept k r r') → OnlyAfter (GoOnBy Tells GoesOn) (s ∷ ss) (λ k. kept_from kept k s1 s1' r r')
tables_order Tells kept s1 s1' r r' GoesOn s ss x loads order [] are = inl tt
tables_order Tells kept s1 s1' r r' GoesOn s ss x loads order (text ∷ first) (e, are) = by (order first are) where
  by : GoesOn x first ⊎ kept (length first) r r' → GoOnBy Tells GoesOn (text ∷ first) ⊎ kept_from kept (length (text ∷ first)) s1 s1' r r'
  by (inl goes) = let reported = rw e at loads in inl (x, reported, goes)
  by (inr rest) = inr rest

-- ---- a certificate

module _ (Is : Certificate → List (List ℕ) → Answer → Type 0) (s : SourceState) (ss : List SourceState) (page : List ℕ) where
  pub certificate_read : (c : Certificate) (result : Result Outcome Unjudged) → IfSome s.remaining (λ text. LoadsCertificate (certificate_of text) (Ok c))
      → ((texts : List (List ℕ)) → AreTexts ss texts → Keeps (Is c texts) page result) → (texts : List (List ℕ)) → AreTexts (s ∷ ss) texts → Keeps (AnswersCertificate Is texts) page result
  certificate_read c result loads judged [] are = absurd are
  certificate_read c result loads judged (text ∷ texts) (e, are) =
      let reported = rw e at loads in kept_as (Is c texts) (AnswersCertificate Is (text ∷ texts)) page result (λ answer is. rw reported (c, refl, is)) (judged texts are)

  pub certificate_refused : (fault printed : Fault) (line : List ℕ) → IfSome s.remaining (λ text. LoadsCertificate (certificate_of text) (Err (Refused fault))) → printed ≡ fault
      → line ≡ codes "unreadable " ++ fault_text printed → page ≡ line → (texts : List (List ℕ)) → AreTexts (s ∷ ss) texts → Says (AnswersCertificate Is texts) page Unreadable
  certificate_refused fault printed line loads at is same [] are = absurd are
  certificate_refused fault printed line loads at is same (text ∷ texts) (e, are) =
      let reported = rw e at loads in
      one_said (AnswersCertificate Is (text ∷ texts)) page (codes "unreadable " ++ fault_text fault) Unreadable (same ∙ is ∙ ap (λ x. codes "unreadable " ++ fault_text x) at) (rw reported refl)

pub certificate_order : {S R : Type 0} (kept : ℕ → R → R → Type 0) (x x' : S) (r r' : R) (GoesOn : Certificate → List (List ℕ) → Type 0) (s : SourceState) (ss : List SourceState) (c : Certificate)
    → IfSome s.remaining (λ text. LoadsCertificate (certificate_of text) (Ok c)) → OnlyAfter (GoesOn c) ss (λ k. kept k r r') → OnlyAfter (CertificateGoesOn GoesOn) (s ∷ ss) (λ k. kept_from kept k x x' r r')
certificate_order kept x x' r r' GoesOn s ss c loads order [] are = inl tt
certificate_order kept x x' r r' GoesOn s ss c loads order (text ∷ first) (e, are) = by (order first are) where
  by : GoesOn c first ⊎ kept (length first) r r' → CertificateGoesOn GoesOn (text ∷ first) ⊎ kept_from kept (length (text ∷ first)) x x' r r'
  by (inl goes) = let reported = rw e at loads in inl (c, reported, goes)
  by (inr rest) = inr rest
