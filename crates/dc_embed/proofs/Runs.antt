-- From the calls of a slot to those of its engine, and to their run.
use Rattle.std.proofs.Common.{◌≡◌, ℕ, true, true≢false, List, [], ◌∷◌, refl, subst, Option, Some, Result, Ok, Err}
use Rattle.dc_build.specs.Reported.{AreTablesOf}
use Rattle.dc_cert.specs.NamedRows.{NamedRows}
use Rattle.dc_cert.specs.Reading.{certificate_of}
use Rattle.dc_tables.specs.TableRows.{TableRows}
use Rattle.dc_toml.specs.Reading.{tables_of}
use Rattle.dc_engine.specs.Engine.{rows_of, claims_of}
use Rattle.dc_engine.specs.Opening.{Opens}
use Rattle.dc_engine.specs.Runs.{Call, AnswersAreOutputs, AreCalls, ClaimsHoldForCalls}
use Rattle.dc_engine.specs.declared.engine.Engine.{Engine}
use Rattle.dc_engine.specs.declared.fault.OpenFault.{OpenFault}
use Rattle.dc_engine.specs.declared.fault.Report.{Report}
use Rattle.dc_embed.specs.Runs.{AreSlotCalls, AnswersRun}
use Rattle.dc_embed.specs.Slots.{OpensSlot, Steps, TellsOpened}

-- the calls of an open slot are calls of its engine
calls_of_engine : (e : Engine) (old new : Option Engine) (calls : List Call) → old ≡ Some e → AreSlotCalls old calls new → (last : Engine) × AreCalls e calls last
calls_of_engine e old new [] starts are = (e, refl)
calls_of_engine e old new (call ∷ calls) starts are =
    let step = subst (λ o. Steps o are.0 call.event call.answer are.1) starts are.2 in
    let rest = calls_of_engine step.engine are.0 new calls step.still are.3 in
    (rest.0, (step.engine, step.outcome, step.steps, step.told, rest.1))

-- what they come to
abbrev Comes : List ℕ → List ℕ → List Call → Type 0
Comes tables certificate calls =
    (rows : TableRows) × (claims : NamedRows) × AreTablesOf (tables_of tables) rows × (certificate_of certificate ≡ Ok claims) × AnswersRun rows claims calls

comes_to : AnswersAreOutputs → ClaimsHoldForCalls → (tables certificate : List ℕ) (opened : Result Engine OpenFault) (old new : Option Engine) (report : Report) (calls : List Call)
    → Opens tables certificate opened → TellsOpened opened old report true → AreSlotCalls old calls new → Comes tables certificate calls
comes_to outputs claims tables certificate (Ok e) old new report calls opens told are =
    let own = calls_of_engine e old new calls told.0 are in (
      rows_of e,
      claims_of e,
      opens.0.0,
      opens.0.1.1,
      record { outputs = outputs e own.0 calls opens.1 own.1; claimed = claims e own.0 calls opens.1 opens.0.1.3 own.1 },
    )
comes_to outputs claims tables certificate (Err fault) old new report calls opens told are = absurd (true≢false told.2)

pub opened_answer : AnswersAreOutputs → ClaimsHoldForCalls → (tables certificate : List ℕ) (old new : Option Engine) (report : Report) (calls : List Call) → OpensSlot tables certificate old report true → AreSlotCalls old calls new
    → (rows : TableRows) × (claims : NamedRows) × AreTablesOf (tables_of tables) rows × (certificate_of certificate ≡ Ok claims) × AnswersRun rows claims calls
opened_answer outputs claims tables certificate old new report calls opened are = comes_to outputs claims tables certificate opened.opened old new report calls opened.opens opened.told are
