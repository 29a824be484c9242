-- What `find` answers.
use Rattle.std.proofs.Common.{◌≡◌, ◌≢◌, ℕ, ◌+◌, ◌-◌, ◌<◌, ◌≤◌, ◌++◌, List, [], ◌∷◌, length, length-append, take, refl, sym, ◌∙◌, ap, arith, IfOk, Result, Ok, Err, inl, inr}
use Rattle.std.proofs.Math.Seq.{take_at}
use Rattle.serde_json.specs.Written.{compact_text}
use Rattle.dc_cert.specs.NamedRows.{NamedRows}
use Rattle.dc_cert.specs.Printing.{claims_data, claims_text}
use Rattle.dc_check.specs.Certified.{AcceptedKeepTheirClaims}
use Rattle.dc_find.specs.Least.{IsLeastAccepted, NoneAccepted}
use Rattle.dc_find.specs.Ways.{IsFirstInTheWay}
use Rattle.dc_find.specs.declared.fault.FindFault.{FindFault}
use Rattle.dc_find.specs.declared.fault.FindFault.TheVariants.{Memory as NoMemory}
use Rattle.dc_tables.specs.TableRows.{TableRows}
use Rattle.dc_answer.specs.Answer.{Answer, one_line}
use Rattle.dc_answer.specs.Judging.{Keeps}
use Rattle.dc_run.specs.Find.{AnswersRows, Tells, obstacle_text}
use Rattle.dc_answer.specs.declared.exit.Outcome.{Outcome}
use Rattle.dc_answer.specs.declared.exit.Outcome.TheVariants.{Done, Refused as WasRefused}
use Rattle.dc_answer.specs.lemmas.Judgments.{one_said}

-- ---- the line

-- the last byte is left out
but_last : (line items kept : List ℕ) (b len : ℕ) → items ≡ line ++ b ∷ [] → len ≡ length items → kept ≡ take (len - 1) items → kept ++ b ∷ [] ≡ items
but_last line items kept b len e f g =
    let count : length line ≡ len - 1 = omega (arith, ap length e, length-append line (b ∷ [])) in
    let same : kept ≡ line = g ∙ ap (take (len - 1)) e ∙ take_at line (b ∷ []) (len - 1) count in
    ap (λ l. l ++ b ∷ []) same ∙ sym e

-- the last byte of a certificate's text is its line feed
feed_gone : (claims : NamedRows) (bytes items kept : List ℕ) (len : ℕ) → bytes ≡ claims_text claims → items ≡ bytes → len ≡ length bytes → kept ≡ take (len - 1) items → Tells claims kept
unfolding claims_text
feed_gone claims bytes items kept len e f g is = but_last (compact_text (claims_data claims)) items kept 10 len (f ∙ e) (g ∙ ap length (sym f)) is ∙ f ∙ e

pub text_kept : {E : Type 0} (claims : NamedRows) (bytes kept : List ℕ) (result : Result Outcome E) → bytes ≡ claims_text claims
    → IfOk result (λ x. kept ≡ take (length bytes - 1) bytes) → IfOk result (λ x. Tells claims kept)
text_kept claims bytes kept (Ok s) e f = feed_gone claims bytes bytes kept (length bytes) e refl refl f
text_kept claims bytes kept (Err failure) e f = tt

-- ---- tables

pub found_judged : {E : Type 0} (t : TableRows) (claims : NamedRows) (line : List ℕ) (result : Result Outcome E) → AcceptedKeepTheirClaims t → IsLeastAccepted t claims
    → IfOk result (λ x. Tells claims line) → IfOk result (λ o. o ≡ Done) → Keeps (AnswersRows t) line result
found_judged t claims line (Ok o) keep least at is =
    one_said (AnswersRows t) line line o refl (inl (record { claims = claims; line = line; least = least; kept = keep claims least.accepted; text = at; said = ap (one_line line) is }))
found_judged t claims line (Err e) keep least at is = tt

pub obstacle_judged : {E : Type 0} (t : TableRows) (fault : FindFault) (line : List ℕ) (result : Result Outcome E) → (fault ≢ NoMemory → NoneAccepted t) → (fault ≢ NoMemory → IsFirstInTheWay t fault)
    → IfOk result (λ x. line ≡ obstacle_text t fault) → IfOk result (λ o. o ≡ WasRefused) → IfOk result (λ x. fault ≢ NoMemory) → Keeps (AnswersRows t) line result
obstacle_judged t fault line (Ok o) none first at is some =
    one_said (AnswersRows t) line (obstacle_text t fault) o at (inr (record { fault = fault; none = none some; first = first some; said = ap (one_line (obstacle_text t fault)) is }))
obstacle_judged t fault line (Err e) none first at is some = tt
