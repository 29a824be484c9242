-- What stands in the way of a certificate.
use Rattle.std.specs.Prelude.{◌≡◌, ◌⊎◌, ℕ, ◌+◌, ◌≤◌, ◌<◌, length, Option, Some, None}
use Rattle.std.specs.List.{All}
use Rattle.dc_cert.specs.Bounds.{CertificateRows, input_bound, output_bound}
use Rattle.dc_check.specs.Accepts.{WindowCloses, BacklogFits, AcceptsInput, AcceptsOutput, AgeHolds, SourcesStayFresh, gaps_of, label_delay}
use Rattle.dc_check.specs.declared.fault.Condition.{Condition}
use Rattle.dc_check.specs.declared.fault.Condition.TheVariants.{SentTooSoon, SentTooLate, AgeOverLimit, SourceGoesStale}
use Rattle.dc_find.specs.declared.fault.Obstacle.{Obstacle}
use Rattle.dc_find.specs.declared.fault.Obstacle.TheVariants.{NoWindowCloses, QueueTooSmall, LabelRuleBroken}
use Rattle.dc_find.specs.declared.fault.FindFault.{FindFault}
use Rattle.dc_find.specs.declared.fault.FindFault.TheVariants.{WindowNeverCloses, QueueTooShort, LabelRule, Memory}
use Rattle.dc_find.specs.declared.fault.Queue.TheVariants.{Input, Output}
use Rattle.dc_tables.specs.TableRows.{TableRows, bus_row, label_row, bus_cap, bus_floor, output_cap, output_floor}

-- no window closes
abbrev pub NeverCloses : (cap floor : ℕ → ℕ) → Type 0
NeverCloses cap floor = (window : ℕ) → ¬ WindowCloses cap floor window

-- in no window that closes is there a backlog for which the bus's queue has room
abbrev pub NeverFits : TableRows → ℕ → Type 0
NeverFits t b = (window backlog : ℕ) → WindowCloses (bus_cap t b) (bus_floor t b) window → ¬ BacklogFits (bus_cap t b) (bus_floor t b) window backlog (bus_row t b).queue

-- the numbers of all inputs and outputs are accepted
pub record AcceptsQueues (t : TableRows) (c : CertificateRows) : Type 0 where
  pub inputs : (b : ℕ) → b < length t.buses → AcceptsInput t b (input_bound c b)
  pub outputs : (o : ℕ) → o < length t.outputs → AcceptsOutput t o (output_bound c o)

-- what a rule asks of a label
abbrev pub KeepsRule : TableRows → ℕ → CertificateRows → Condition → Type 0
KeepsRule t x c SentTooSoon = All (λ g. (label_row t x).minimum + label_delay t c x ≤ g) (gaps_of t x)
KeepsRule t x c SentTooLate = All (λ g. g + label_delay t c x ≤ (label_row t x).maximum) (gaps_of t x)
KeepsRule t x c AgeOverLimit = AgeHolds t x c
KeepsRule t x c SourceGoesStale = SourcesStayFresh t x c
KeepsRule t x c _ = Unit {0}

-- whatever is accepted of the inputs and outputs, the label's rule is broken
abbrev pub NeverKeeps : TableRows → ℕ → Condition → Type 0
NeverKeeps t x condition = (c : CertificateRows) → AcceptsQueues t c → ¬ KeepsRule t x c condition

-- the fault is of a bus, an output or a label of the tables, and no claim keeps the rule that it names there
abbrev pub StandsInTheWay : TableRows → FindFault → Type 0
StandsInTheWay t (WindowNeverCloses (Input b)) = (b < length t.buses) × NeverCloses (bus_cap t b) (bus_floor t b)
StandsInTheWay t (WindowNeverCloses (Output o)) = (o < length t.outputs) × NeverCloses (output_cap t o) (output_floor t o)
StandsInTheWay t (QueueTooShort b) = (b < length t.buses) × NeverFits t b
StandsInTheWay t (LabelRule x condition) = (x < length t.labels) × NeverKeeps t x condition
StandsInTheWay t Memory = ⊥

-- what it is, where it stands in the way
abbrev pub obstacle_of : FindFault → Option Obstacle
obstacle_of (WindowNeverCloses queue) = Some NoWindowCloses
obstacle_of (QueueTooShort b) = Some QueueTooSmall
obstacle_of (LabelRule x condition) = Some LabelRuleBroken
obstacle_of Memory = None

-- ---- the order of faults

-- the inputs, the outputs and the labels in one row, from 0
abbrev pub job_of : TableRows → FindFault → ℕ
job_of t (WindowNeverCloses (Input b)) = b
job_of t (WindowNeverCloses (Output o)) = length t.buses + o
job_of t (QueueTooShort b) = b
job_of t (LabelRule x condition) = length t.buses + length t.outputs + x
job_of t Memory = 0

-- the rules of one job
abbrev pub code_rank : Condition → ℕ
code_rank SentTooSoon = 1
code_rank SentTooLate = 2
code_rank AgeOverLimit = 3
code_rank SourceGoesStale = 4
code_rank _ = 0

-- where what stands in the way comes in the order of one bus, output or label
abbrev pub rank_of : FindFault → ℕ
rank_of (WindowNeverCloses queue) = 0
rank_of (QueueTooShort b) = 1
rank_of (LabelRule x condition) = code_rank condition
rank_of Memory = 0

-- an earlier job, or an earlier rule of the same
abbrev pub Precedes : TableRows → FindFault → FindFault → Type 0
Precedes t f g = (job_of t f < job_of t g) ⊎ ((job_of t f ≡ job_of t g) × (rank_of f < rank_of g))

-- it stands in the way, and nothing before it does
pub record IsFirstInTheWay (t : TableRows) (fault : FindFault) : Type 0 where
  pub stands : StandsInTheWay t fault
  pub first : (other : FindFault) → Precedes t other fault → ¬ StandsInTheWay t other

-- ---- one job

-- nothing stands in the way at the bus, output or label of this number, counted through all three
abbrev pub NothingAt : TableRows → ℕ → Type 0
NothingAt t job = (other : FindFault) → job_of t other ≡ job → ¬ StandsInTheWay t other

-- nothing stands in the way at any bus, output or label below this number
abbrev pub IsClearBelow : TableRows → ℕ → Type 0
IsClearBelow t n = (job : ℕ) → job < n → NothingAt t job

-- it stands in the way at this job, and no earlier rule of it does
pub record IsFirstOfJob (t : TableRows) (job : ℕ) (fault : FindFault) : Type 0 where
  pub here : job_of t fault ≡ job
  pub stands : StandsInTheWay t fault
  pub first : (other : FindFault) → job_of t other ≡ job → rank_of other < rank_of fault → ¬ StandsInTheWay t other
