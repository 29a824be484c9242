-- What C is answered call by call of an engine that it opened.
use Rattle.std.specs.Prelude.{◌≡◌, ℕ, true, List, [], ◌∷◌, Option, Ok}
use Rattle.dc_build.specs.Reported.{AreTablesOf}
use Rattle.dc_cert.specs.Bounds.{numbers_of}
use Rattle.dc_cert.specs.NamedRows.{NamedRows}
use Rattle.dc_cert.specs.Reading.{certificate_of}
use Rattle.dc_event.specs.Admissible.{KeepsSources}
use Rattle.dc_event.specs.Claims.{ClaimsHold}
use Rattle.dc_tables.specs.TableRows.{TableRows}
use Rattle.dc_toml.specs.Reading.{tables_of}
use Rattle.dc_engine.specs.Runs.{Call, AreOutputs, run_of}
use Rattle.dc_engine.specs.declared.engine.Engine.{Engine}
use Rattle.dc_engine.specs.declared.fault.Report.{Report}
use Rattle.dc_embed.specs.Slots.{OpensSlot, Steps}

-- each call is one of the slot as the call before left it, with a status; the last one leaves `new`
abbrev pub AreSlotCalls : Option Engine → List Call → Option Engine → Type 0
AreSlotCalls old [] new = new ≡ old
AreSlotCalls old (call ∷ calls) new = (next : Option Engine) × (status : ℕ) × Steps old next call.event call.answer status × AreSlotCalls next calls new

-- what calls of an engine of these tables and claims come to
pub record AnswersRun (rows : TableRows) (claims : NamedRows) (calls : List Call) : Type 0 where
  pub outputs : AreOutputs rows calls
  pub claimed : KeepsSources rows (run_of calls) → ClaimsHold rows (numbers_of claims).ages (run_of calls)

-- whatever was called of an engine that was opened of two texts
abbrev pub OpenedAnswerTheirRuns : Type 0
OpenedAnswerTheirRuns =
    (tables certificate : List ℕ) (old new : Option Engine) (report : Report) (calls : List Call) → OpensSlot tables certificate old report true → AreSlotCalls old calls new
    → (rows : TableRows) × (claims : NamedRows) × AreTablesOf (tables_of tables) rows × (certificate_of certificate ≡ Ok claims) × AnswersRun rows claims calls
