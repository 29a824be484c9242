-- Where a run first breaks what is asked of it. Places are counted from 1.
use Rattle.std.specs.Prelude.{◌≡◌, ℕ, suc, ◌<◌, ◌≤◌, Option, Some, None, List, ◌∷◌, ◌++◌, length, take}
use Rattle.dc_tables.specs.TableRows.{TableRows}
use Rattle.dc_event.specs.Admissible.{KeepsSources, KeepsBudgets}
use Rattle.dc_event.specs.Claims.{NoOverrun, SendsYoung, UsesLive, IsInTime, IsSpaced, ClaimsHold}
use Rattle.dc_event.specs.ClaimNumber.{claim_number}
use Rattle.dc_event.specs.declared.event.Event.{Event}
use Rattle.dc_event.specs.declared.event.Claim.{Claim}
use Rattle.dc_event.specs.declared.event.Claim.TheVariants.{NoOverrun as NoOverrunClaim, DataAge, LiveSource, Interval}

-- the first n events break the rule P, and no fewer do
pub record BreaksFirst (P : List Event → Type 0) (run : List Event) (n : ℕ) : Type 0 where
  pub place : (1 ≤ n) × (n ≤ length run)
  pub broken : ¬ P (take n run)
  pub kept : (m : ℕ) → m < n → P (take m run)

-- the place at which a run first breaks the rule P; none where each beginning of it keeps P
abbrev pub IsFirstBreak : (List Event → Type 0) → List Event → Option ℕ → Type 0
IsFirstBreak P run None = (m : ℕ) → m ≤ length run → P (take m run)
IsFirstBreak P run (Some n) = BreaksFirst P run n

-- the place at which a run first breaks the budgets
abbrev pub BreaksBudgetsAt : TableRows → List Event → Option ℕ → Type 0
BreaksBudgetsAt t run place = IsFirstBreak (KeepsBudgets t) run place

-- the place at which a run first breaks what is asked of the sources
abbrev pub BreaksSourcesAt : TableRows → List Event → Option ℕ → Type 0
BreaksSourcesAt t run place = IsFirstBreak (KeepsSources t) run place

-- one of the claims at an event, after the events of past
abbrev pub ClaimAt : TableRows → List ℕ → Claim → List Event → Event → Type 0
ClaimAt t ages NoOverrunClaim past e = NoOverrun t past e
ClaimAt t ages DataAge past e = SendsYoung t ages past e
ClaimAt t ages LiveSource past e = UsesLive t past e
ClaimAt t ages Interval past e = IsInTime t past e × IsSpaced t past e

-- The claims hold before the last event of `past ++ e`, at which this claim fails, and none before it in their order
pub record FailsFirst (t : TableRows) (ages : List ℕ) (claim : Claim) (past : List Event) (e : Event) : Type 0 where
  pub before : ClaimsHold t ages past
  pub fails : ¬ ClaimAt t ages claim past e
  pub least : (other : Claim) → claim_number other < claim_number claim → ClaimAt t ages other past e

-- the least claim that fails at the first place at which any fails, and that place; none where the claims hold
abbrev pub BreaksClaimsAt : TableRows → List ℕ → List Event → Option (Claim × ℕ) → Type 0
BreaksClaimsAt t ages run None = ClaimsHold t ages run
BreaksClaimsAt t ages run (Some failure) =
    (past : List Event) × (e : Event) × (rest : List Event) × (run ≡ past ++ (e ∷ rest)) × (failure.1 ≡ suc (length past)) × FailsFirst t ages failure.0 past e
