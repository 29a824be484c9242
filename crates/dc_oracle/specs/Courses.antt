-- What is carried along a run of any length, event by event: where it first broke a rule.
use Rattle.std.specs.Prelude.{◌≡◌, ℕ, ◌≤◌, Option, None, List, length}
use Rattle.dc_tables.specs.TableRows.{TableRows}
use Rattle.dc_event.specs.Admissible.{IsRun}
use Rattle.dc_event.specs.Breaks.{BreaksBudgetsAt, BreaksSourcesAt, BreaksClaimsAt}
use Rattle.dc_event.specs.declared.event.Event.{Event}
use Rattle.dc_event.specs.declared.event.Claim.{Claim}
use Rattle.dc_oracle.specs.Budgets.{IsSized as BudgetsSized, Watches as WatchesBudgets}
use Rattle.dc_oracle.specs.Sources.{IsSized as SourcesSized, Watches as WatchesSources}
use Rattle.dc_oracle.specs.Claims.{IsSized as ClaimsSized, StandsFor}
use Rattle.dc_oracle.specs.declared.courses.BudgetCourse.{BudgetCourse}
use Rattle.dc_oracle.specs.declared.courses.SourceCourse.{SourceCourse}
use Rattle.dc_oracle.specs.declared.courses.ClaimCourse.{ClaimCourse}
use Rattle.dc_oracle.specs.declared.courses.AuditCourse.{AuditCourse}

-- a part for each row of the tables, and no more ticks than events
pub record IsBudgetCourse (t : TableRows) (c : BudgetCourse) : Type 0 where
  pub sized : BudgetsSized t c.watch
  pub ticks : c.watch.tick ≤ c.events

pub record IsSourceCourse (t : TableRows) (c : SourceCourse) : Type 0 where
  pub sized : SourcesSized t c.watch
  pub ticks : c.watch.tick ≤ c.events

pub record IsClaimCourse (t : TableRows) (c : ClaimCourse) : Type 0 where
  pub sized : ClaimsSized t c.watch
  pub ticks : c.watch.replies.tick ≤ c.events
  pub police_ticks : c.watch.police.tick ≤ c.events

-- the run has so many events, this is where it first breaks the rule, and where it does not, the watch stands for it
pub record TellsBudgets (t : TableRows) (c : BudgetCourse) (run : List Event) : Type 0 where
  pub count : c.events ≡ length run
  pub place : BreaksBudgetsAt t run c.broken
  pub watch : c.broken ≡ None → WatchesBudgets t c.watch run

pub record TellsSources (t : TableRows) (c : SourceCourse) (run : List Event) : Type 0 where
  pub count : c.events ≡ length run
  pub place : BreaksSourcesAt t run c.broken
  pub watch : c.broken ≡ None → WatchesSources t c.watch run

pub record TellsClaims (t : TableRows) (ages : List ℕ) (c : ClaimCourse) (run : List Event) : Type 0 where
  pub count : c.events ≡ length run
  pub place : BreaksClaimsAt t ages run c.broken
  pub watch : c.broken ≡ None → StandsFor t c.watch run

-- ---- all three

-- the three are such, and have come as far
pub record IsAuditCourse (t : TableRows) (c : AuditCourse) : Type 0 where
  pub budgets : IsBudgetCourse t c.budgets
  pub sources : IsSourceCourse t c.sources
  pub claims : IsClaimCourse t c.claims
  pub budgets_count : c.budgets.events ≡ c.events
  pub sources_count : c.sources.events ≡ c.events
  pub claims_count : c.claims.events ≡ c.events

-- each tells where the run first breaks its rule
pub record TellsAudit (t : TableRows) (ages : List ℕ) (c : AuditCourse) (run : List Event) : Type 0 where
  pub budgets : TellsBudgets t c.budgets run
  pub sources : TellsSources t c.sources run
  pub claims : TellsClaims t ages c.claims run
