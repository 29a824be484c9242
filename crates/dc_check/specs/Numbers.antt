-- What the windows, backlogs and delays of an accepted certificate mean, in a run of the tables.
use Rattle.std.specs.Prelude.{◌≡◌, ℕ, ◌+◌, ◌-◌, ◌<◌, ◌≤◌, List, ◌++◌, length}
use Rattle.dc_bound.specs.Moves.{arrived_tick}
use Rattle.dc_cert.specs.Bounds.{InputBound, OutputBound, CertificateRows, input_bound, output_bound, numbers_of}
use Rattle.dc_cert.specs.NamedRows.{NamedRows}
use Rattle.dc_check.specs.Accepts.{Accepts}
use Rattle.dc_check.specs.Certified.{ArePoliced}
use Rattle.dc_event.specs.Admissible.{IsRun, KeepsBudgets, IsAdmissible}
use Rattle.dc_event.specs.Buses.{moves, backlog as waiting, bus_entered, bus_taken}
use Rattle.dc_event.specs.Outputs.{due_tick, due_by, sent}
use Rattle.dc_event.specs.Time.{tick_after}
use Rattle.dc_event.specs.declared.event.Event.{Event}
use Rattle.dc_tables.specs.TableRows.{TableRows}

-- ---- at each place of a run

-- at each place of the run this holds of the events before it
abbrev pub AtEachPlace : (List Event → Type 0) → List Event → Type 0
AtEachPlace P run = (past rest : List Event) → run ≡ past ++ rest → P past

-- from each place of the run on, before so many ticks more have ended, there is a place at which this count is 0
abbrev pub ClearsWithin : (List Event → ℕ) → ℕ → List Event → Type 0
ClearsWithin count window run =
    (past span rest : List Event) → run ≡ past ++ (span ++ rest) → window ≤ tick_after span → (x y : List Event) × (span ≡ x ++ y) × (count (past ++ x) ≡ 0)

-- ---- delays

-- each word that came in tick a has been taken by the end of tick a + delay, where that tick is whole
abbrev pub TakesWithin : TableRows → (b delay : ℕ) → List Event → Type 0
TakesWithin t b delay now = (n : ℕ) → n < length (bus_entered t b now) → arrived_tick n (moves t b now) + delay < tick_after now → n < bus_taken t b now

-- each entry has been sent by the end of the tick `delay` after the one in which it was due, where that tick is whole
abbrev pub SendsWithin : TableRows → (o delay : ℕ) → List Event → Type 0
SendsWithin t o delay now = (n : ℕ) → due_tick t o n + delay < tick_after now → n < sent t o now

-- how many entries of the output are due and have not been sent
abbrev pub owed : TableRows → ℕ → List Event → ℕ
owed t o now = due_by t o (tick_after now) - sent t o now

-- ---- the numbers of a certificate

-- of a bus: at most `backlog` words wait at any place; each is taken within the delay; no stretch in which some wait lasts `window` ticks
pub record InputKeeps (t : TableRows) (b : ℕ) (c : InputBound) (run : List Event) : Type 0 where
  pub backlog : AtEachPlace (λ now. waiting t b now ≤ c.backlog) run
  pub delay : AtEachPlace (TakesWithin t b c.delay) run
  pub window : ClearsWithin (waiting t b) c.window run

-- of an output: each entry is sent within the delay; no stretch in which some are owed lasts `window` ticks
pub record OutputKeeps (t : TableRows) (o : ℕ) (c : OutputBound) (run : List Event) : Type 0 where
  pub delay : AtEachPlace (SendsWithin t o c.delay) run
  pub window : ClearsWithin (owed t o) c.window run

-- of all buses and outputs
pub record NumbersHold (t : TableRows) (c : CertificateRows) (run : List Event) : Type 0 where
  pub inputs : (b : ℕ) → b < length t.buses → InputKeeps t b (input_bound c b) run
  pub outputs : (o : ℕ) → o < length t.outputs → OutputKeeps t o (output_bound c o) run

-- ---- an accepted certificate

-- in every admissible run of the tables the certificate's windows, backlogs and delays hold
abbrev pub KeepsItsNumbers : TableRows → NamedRows → Type 0
KeepsItsNumbers t claims = (run : List Event) → IsAdmissible t run → NumbersHold t (numbers_of claims) run

-- each certificate that is accepted for the tables keeps its numbers
abbrev pub AcceptedKeepTheirNumbers : TableRows → Type 0
AcceptedKeepTheirNumbers t = (claims : NamedRows) → Accepts t claims → KeepsItsNumbers t claims

-- where each bus refuses early words, the numbers hold in every run of the tables whose actors keep their budgets, whatever arrives
abbrev pub PolicedKeepTheirNumbers : TableRows → Type 0
PolicedKeepTheirNumbers t = ArePoliced t → (claims : NamedRows) → Accepts t claims → (run : List Event) → IsRun t run → KeepsBudgets t run → NumbersHold t (numbers_of claims) run
