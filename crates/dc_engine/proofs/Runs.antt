-- From the steps of an engine to the run of its calls.
use Rattle.std.proofs.Common.{◌≡◌, true, false, true≢false, cond, List, [], ◌∷◌, ◌++◌, refl, sym, ap, ◌∙◌, subst, append_assoc, map, inl, inr, ◌⊎◌, Result, Ok, Err}
use Rattle.std.proofs.lemmas.List.{append-nil}
use Rattle.dc_bound.specs.Places.{each_from, each_place}
use Rattle.dc_cert.specs.Bounds.{numbers_of}
use Rattle.dc_check.specs.Certified.{KeepsItsClaims}
use Rattle.dc_check.specs.Lent.{tables_of}
use Rattle.dc_core.specs.Steps.{StandsFor, StepsTo}
use Rattle.dc_core.specs.declared.fault.StepFault.{StepFault}
use Rattle.dc_core.specs.declared.fault.StepFault.TheVariants.{Spent, TooSoon, Owed, TickLimit, Unknown}
use Rattle.dc_event.specs.Admissible.{KeepsSources}
use Rattle.dc_event.specs.Claims.{ClaimsHold}
use Rattle.dc_event.specs.Replies.{reply, outputs_of}
use Rattle.dc_event.specs.declared.event.Actor.TheVariants.{Wire, Router, Output, Clock}
use Rattle.dc_event.specs.declared.event.Event.{Event}
use Rattle.dc_event.specs.declared.event.Reply.{Reply}
use Rattle.dc_event.specs.declared.event.Reply.TheVariants.{Queued, BadParity, Undeclared, TooEarly, Overrun, Latched, Took, Empty, Sent, Idle, Now}
use Rattle.dc_tables.specs.TableRows.{TableRows}
use Rattle.dc_engine.specs.Answers.{answer_of}
use Rattle.dc_engine.specs.Engine.{rows_of, claims_of, StandsForRun, StepsOn}
use Rattle.dc_engine.specs.Runs.{Call, AreCalls, is_reply, carried_out, run_of, replies_to, IsRefusedAfter, AreOutputs}
use Rattle.dc_engine.specs.declared.answer.Answer.{Answer}
use Rattle.dc_engine.specs.declared.engine.Engine.{Engine}

-- ---- one call

replies_are : (r : Reply) → is_reply (answer_of (Ok r)) ≡ true
replies_are (Queued backlog) = refl
replies_are BadParity = refl
replies_are Undeclared = refl
replies_are TooEarly = refl
replies_are Overrun = refl
replies_are Latched = refl
replies_are (Took word bus) = refl
replies_are (Empty bus) = refl
replies_are (Sent label word) = refl
replies_are Idle = refl
replies_are (Now tick) = refl

faults_are_not : (f : StepFault) → is_reply (answer_of (Err f)) ≡ false
faults_are_not Spent = refl
faults_are_not TooSoon = refl
faults_are_not (Owed (Wire bus)) = refl
faults_are_not (Owed (Router router)) = refl
faults_are_not (Owed (Output output)) = refl
faults_are_not (Owed Clock) = refl
faults_are_not TickLimit = refl
faults_are_not Unknown = refl

carried-yes : (call : Call) (calls : List Call) → is_reply call.answer ≡ true → carried_out (call ∷ calls) ≡ call ∷ carried_out calls
carried-yes call calls is = ap (λ b. cond b (call ∷ carried_out calls) (carried_out calls)) is

carried-no : (call : Call) (calls : List Call) → is_reply call.answer ≡ false → carried_out (call ∷ calls) ≡ carried_out calls
carried-no call calls is = ap (λ b. cond b (call ∷ carried_out calls) (carried_out calls)) is

run-yes : (call : Call) (calls : List Call) → is_reply call.answer ≡ true → run_of (call ∷ calls) ≡ call.event ∷ run_of calls
run-yes call calls is = ap (map (λ c. c.event)) (carried-yes call calls is)

run-no : (call : Call) (calls : List Call) → is_reply call.answer ≡ false → run_of (call ∷ calls) ≡ run_of calls
run-no call calls is = ap (map (λ c. c.event)) (carried-no call calls is)

-- ---- calls after a run

-- the call was answered the reply that the run calls for
abbrev IsCarried : TableRows → List Event → Call → Type 0
IsCarried t past call = (is_reply call.answer ≡ true) × (call.answer ≡ answer_of (Ok (reply t past call.event)))

-- or it was refused after the run
abbrev IsRefused : TableRows → List Event → Call → Type 0
IsRefused t past call = (is_reply call.answer ≡ false) × IsRefusedAfter t past call

-- each call after the run of those before it
abbrev Told : TableRows → List Event → List Call → Type 0
Told t past [] = Unit {0}
Told t past (call ∷ calls) = (IsCarried t past call × Told t (past ++ call.event ∷ []) calls) ⊎ (IsRefused t past call × Told t past calls)

-- the outputs of a run after another one, as answers
abbrev answers_from : TableRows → List Event → List Event → List Answer
answers_from t past run = map (λ r. answer_of (Ok r)) (each_from (reply t) past run)

told_answers : (t : TableRows) (past : List Event) (calls : List Call) → Told t past calls → replies_to calls ≡ answers_from t past (run_of calls)
told_answers t past [] told = refl
told_answers t past (call ∷ calls) (inl told) =
    ap (map (λ c. c.answer)) (carried-yes call calls told.0.0)
    ∙ ap (λ a. a ∷ replies_to calls) told.0.1
    ∙ ap (λ l. answer_of (Ok (reply t past call.event)) ∷ l) (told_answers t (past ++ call.event ∷ []) calls told.1)
    ∙ sym (ap (answers_from t past) (run-yes call calls told.0.0))
told_answers t past (call ∷ calls) (inr told) =
    ap (map (λ c. c.answer)) (carried-no call calls told.0.0) ∙ told_answers t past calls told.1 ∙ sym (ap (answers_from t past) (run-no call calls told.0.0))

told_refused : (t : TableRows) (past : List Event) (before after : List Call) (call : Call) → Told t past (before ++ call ∷ after) → is_reply call.answer ≡ false → IsRefusedAfter t (past ++ run_of before) call
told_refused t past [] after call (inl told) kind = absurd (true≢false (sym told.0.0 ∙ kind))
told_refused t past [] after call (inr told) kind = subst (λ p. IsRefusedAfter t p call) (sym (append-nil past)) told.0.1
told_refused t past (b ∷ bs) after call (inl told) kind =
    subst (λ p. IsRefusedAfter t p call) (append_assoc past (b.event ∷ []) (run_of bs) ∙ sym (ap (λ r. past ++ r) (run-yes b bs told.0.0)))
    (told_refused t (past ++ b.event ∷ []) bs after call told.1 kind)
told_refused t past (b ∷ bs) after call (inr told) kind =
    subst (λ r. IsRefusedAfter t (past ++ r) call) (sym (run-no b bs told.0.0)) (told_refused t past bs after call told.1 kind)

-- ---- the calls of an engine

-- what is told of calls after a run, and that an engine stands for the run with them
abbrev Leads : TableRows → List Event → List Call → Engine → Type 0
Leads t past calls new = Told t past calls × StandsFor t new.state (past ++ run_of calls)

one_call : (t : TableRows) (old next new : Engine) (past : List Event) (call : Call) (calls : List Call) (outcome : Result Reply StepFault)
    → rows_of old ≡ t → StandsFor t old.state past → StepsOn old next call.event outcome → call.answer ≡ answer_of outcome
    → ((run : List Event) → StandsFor t next.state run → Leads t run calls new) → Leads t past (call ∷ calls) new
one_call t old next new past call calls (Ok r) rows stands steps answer rest =
    let step : StepsTo t next.state past call.event (Ok r) =
    subst (λ u. StepsTo u next.state past call.event (Ok r)) rows (steps.stands past (subst (λ u. StandsFor u old.state past) (sym rows) stands)) in
    let is : is_reply call.answer ≡ true = ap is_reply answer ∙ replies_are r in
    let after = rest (past ++ call.event ∷ []) step.1 in (
      inl ((is, answer ∙ ap (λ x. answer_of (Ok x)) step.2), after.0),
      subst (λ p. StandsFor t new.state p) (append_assoc past (call.event ∷ []) (run_of calls) ∙ sym (ap (λ x. past ++ x) (run-yes call calls is))) after.1,
    )
one_call t old next new past call calls (Err f) rows stands steps answer rest =
    let step : StepsTo t next.state past call.event (Err f) =
    subst (λ u. StepsTo u next.state past call.event (Err f)) rows (steps.stands past (subst (λ u. StandsFor u old.state past) (sym rows) stands)) in
    let is : is_reply call.answer ≡ false = ap is_reply answer ∙ faults_are_not f in
    let same : next ≡ old = steps.unchanged in
    let after = rest past (subst (λ (e : Engine). StandsFor t e.state past) (sym same) stands) in
    (inr ((is, record { may_not = step.0; fault = f; is = step.1; told = answer }), after.0), subst (λ x. StandsFor t new.state (past ++ x)) (sym (run-no call calls is)) after.1)

calls_lead : (t : TableRows) (old new : Engine) (past : List Event) (calls : List Call) → rows_of old ≡ t → StandsFor t old.state past → AreCalls old calls new → Leads t past calls new
calls_lead t old new past [] rows stands are =
    (tt, subst (λ p. StandsFor t new.state p) (sym (append-nil past)) (subst (λ (e : Engine). StandsFor t e.state past) (sym are) stands))
calls_lead t old new past (call ∷ calls) rows stands are =
    one_call t old are.0 new past call calls are.1 rows stands are.2 are.3
    (λ run here. calls_lead t are.0 new run calls (ap tables_of are.2.certified ∙ rows) here are.4)

pub are_outputs : (old new : Engine) (calls : List Call) → StandsForRun old [] → AreCalls old calls new → AreOutputs (rows_of old) calls
unfolding outputs_of each_place
are_outputs old new calls stands are =
    let t = rows_of old in let both = calls_lead t old new [] calls refl stands are in
    record {
      numbers = both.1.0.numbers;
      budgets = both.1.0.kept;
      answers = told_answers t [] calls both.0;
      refused = λ before after call same kind. told_refused t [] before after call (subst (Told t []) same both.0) kind;
    }

pub claims_hold : (old new : Engine) (calls : List Call) → StandsForRun old [] → KeepsItsClaims (rows_of old) (claims_of old) → AreCalls old calls new
    → KeepsSources (rows_of old) (run_of calls) → ClaimsHold (rows_of old) (numbers_of (claims_of old)).ages (run_of calls)
claims_hold old new calls stands keeps are sources =
    let outputs = are_outputs old new calls stands are in keeps (run_of calls) (record { numbers = outputs.numbers; sources = sources; budgets = outputs.budgets })
