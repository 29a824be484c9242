-- A text that is too long.
use Rattle.std.proofs.Common.{◌≡◌, ℕ, ◌<◌, List, Option, Some, None, IfSome, IfOk, Result, Ok, Err, length, refl, sym, subst}
use Rattle.dc_answer.specs.declared.exit.Exit.{Exit}
use Rattle.dc_answer.specs.declared.exit.Exit.TheVariants.{Unreadable}
use Rattle.dc_answer.specs.declared.judge.Unjudged.{Unjudged}
use Rattle.dc_answer.specs.lemmas.Loading.{over}
use Rattle.dc_document.specs.declared.limits.TheConstants.{TEXT_LIMIT}
use Rattle.dc_system_text.specs.Faults.{Said, fault_of}
use Rattle.dc_system_text.specs.System.{SystemRows, system_of}
use Rattle.dc_system_text.specs.declared.fault.SystemPart.TheVariants.{Top}
use Rattle.dc_system_text.specs.declared.fault.SystemRule.TheVariants.{NotToml}
use Rattle.dc_toml.specs.Reading.{document_of}
use Rattle.dc_run_network.specs.Answer.{AnswersRead, EndsKept, JudgesNetwork, Saying}
use Rattle.dc_run_network.specs.Lines.{system_text}
use Rattle.dc_run_network.specs.Members.{Holds}

-- it is no TOML
long-refused : (text : List ℕ) → TEXT_LIMIT < length text → system_of text ≡ Err (fault_of NotToml Top 0)
unfolding document_of
long-refused text long = rw (over (length text) TEXT_LIMIT long) refl

-- that is told
told : {E : Type 0} (Says : Saying) (holds : Holds) (folder page : List ℕ) (text : List ℕ) (kept : Result (Unit {0}) E) (result : Result Exit Unjudged) → TEXT_LIMIT < length text → IfOk kept (λ _. page ≡ system_text (fault_of NotToml Top 0))
    → EndsKept kept Unreadable result → JudgesNetwork Says holds folder text page result
told Says holds folder page text (Ok x) result long is ends =
    let P : Said SystemRows → Type 0 = λ said. AnswersRead Says holds folder said page Unreadable in
    let Q : Result Exit Unjudged → Type 0 = λ r. JudgesNetwork Says holds folder text page r in
    subst Q (sym ends) (subst P (sym (long-refused text long)) (is, refl))
told Says holds folder page text (Err e) result long is ends = let Q : Result Exit Unjudged → Type 0 = λ r. JudgesNetwork Says holds folder text page r in subst Q (sym ends) tt

pub long-answer : {E : Type 0} (Says : Saying) (known : Option (List ℕ)) (holds : Holds) (folder page : List ℕ) (kept : Result (Unit {0}) E) (result : Result Exit Unjudged) → IfSome known (λ text. TEXT_LIMIT < length text) → IfOk kept (λ _. page ≡ system_text (fault_of NotToml Top 0))
    → EndsKept kept Unreadable result → IfSome known (λ text. JudgesNetwork Says holds folder text page result)
long-answer Says None holds folder page kept result long is ends = tt
long-answer Says (Some text) holds folder page kept result long is ends = told Says holds folder page text kept result long is ends
