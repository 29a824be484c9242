-- The verdict on a certificate: the first rule that it breaks.
use Rattle.std.specs.Prelude.{◌≡◌, ℕ, ◌+◌, ◌-◌, Bool, ◌==◌, ◌&&◌, not, if◌then◌else◌, nat_le, nat_lt, zero, suc, Option, None, Some, List, [], ◌∷◌, length, map, slice_index, MatchResult}
use Rattle.std.specs.Cmp.Lexicographic.{pointwise}
use Rattle.std.specs.List.{list_all}
use Rattle.std.specs.Option.{option_or}
use Rattle.std.specs.Str.{bytes_eq}
use Rattle.std.specs.declared.result.Result.{Result}
use Rattle.dc_bound.specs.Places.{when, or_else}
use Rattle.dc_busy.specs.declared.limits.TheConstants.{LONGEST_WINDOW}
use Rattle.dc_cert.specs.Bounds.{InputBound, OutputBound, CertificateRows, input_bound, output_bound, numbers_of}
use Rattle.dc_cert.specs.NamedRows.{NamedRows}
use Rattle.dc_check.specs.Accepts.{gaps_of, label_delay, source_delay}
use Rattle.dc_check.specs.declared.fault.CheckFault.{CheckFault}
use Rattle.dc_check.specs.declared.fault.Condition.{Condition}
use Rattle.dc_check.specs.declared.fault.Condition.TheVariants.{NamesDiffer, WindowOutOfRange, WindowDoesNotClose, BacklogTooSmall, QueueTooShort, DelayTooSmall, DelayOutOfRange, SentTooSoon, SentTooLate, AgeTooSmall, AgeOverLimit, SourceGoesStale}
use Rattle.dc_check.specs.declared.fault.CertificateList.{CertificateList}
use Rattle.dc_check.specs.declared.fault.CertificateList.TheVariants.{Inputs, Outputs, Labels}
use Rattle.dc_document.specs.Names.{text_of}
use Rattle.dc_tables.specs.TableRows.{TableRows, bus_row, stream_row, label_row, bus_cap, bus_floor, output_cap, output_floor}

-- ---- faults

-- a fault at a member of a list of the certificate
abbrev pub fault_at : CertificateList → ℕ → Condition → ℕ → CheckFault
fault_at list index condition window = record { condition = condition; list = list; index = index; window = window }

-- a rule that names no window: this fault, unless the test holds
unfoldable pub unless : Bool → CheckFault → Option CheckFault
unless holds fault = if holds then None else Some fault

-- a rule that names the first window that fails, if any does
unfoldable pub at_window : CertificateList → ℕ → Condition → Option ℕ → Option CheckFault
at_window list index condition None = None
at_window list index condition (Some w) = Some (fault_at list index condition w)

-- the first fault of rules in their order
abbrev pub first_of : List (Option CheckFault) → Option CheckFault
first_of [] = None
first_of (rule ∷ rules) = option_or rule (first_of rules)

-- ---- tests of a window

-- whether so many ticks may be a window: from 1 to the longest
abbrev pub is_window : ℕ → Bool
is_window window = nat_le 1 window && nat_le window LONGEST_WINDOW

-- whether so many ticks may be a delay: no more than the longest window
abbrev pub is_delay : ℕ → Bool
is_delay delay = nat_le delay LONGEST_WINDOW

-- whether at least as many are taken in the window's ticks but the first as come in all of them
abbrev pub is_closing : (cap floor : ℕ → ℕ) → ℕ → Bool
is_closing cap floor window = nat_le (cap window) (floor (window - 1))

-- the first w from 1 to n that fails the test
abbrev pub first_failing : (ℕ → Bool) → ℕ → Option ℕ
first_failing test zero = None
first_failing test (suc n) = or_else (first_failing test n) (when (not (test (suc n))) (suc n))

-- the first w of the window in which more may come, less those taken in w - 2 ticks, than the backlog
unfoldable pub backlog_failure : (cap floor : ℕ → ℕ) (window backlog : ℕ) → Option ℕ
backlog_failure cap floor window backlog = first_failing (λ w. nat_le (cap w - floor (w - 2)) backlog) window

-- the first w of the window in which more may come than are taken in w - 1 + delay ticks
unfoldable pub delay_failure : (cap floor : ℕ → ℕ) (window delay : ℕ) → Option ℕ
delay_failure cap floor window delay = first_failing (λ w. nat_le (cap w) (floor (w - 1 + delay))) window

-- ---- names

-- whether the names are those of so many rows of the tables, in order
abbrev pub is_named : ℕ → List (List ℕ) → List (List ℕ) → Bool
is_named count names keys = length names == count && pointwise bytes_eq names (map text_of keys)

-- the rules on names
abbrev pub name_rules : TableRows → NamedRows → List (Option CheckFault)
name_rules t claims =
    unless (is_named (length t.buses) (map (λ i. i.bus) claims.inputs) t.names.buses) (fault_at Inputs 0 NamesDiffer 0)
    ∷ unless (is_named (length t.outputs) (map (λ o. o.output) claims.outputs) t.names.outputs) (fault_at Outputs 0 NamesDiffer 0)
    ∷ unless (is_named (length t.labels) (map (λ l. l.label) claims.labels) t.names.labels) (fault_at Labels 0 NamesDiffer 0)
    ∷ []

-- the fault of the names, if any
abbrev pub misnaming : TableRows → NamedRows → Option CheckFault
misnaming t claims = first_of (name_rules t claims)

-- as many in each list as the tables have
pub record IsSized (t : TableRows) (c : CertificateRows) : Type 0 where
  pub inputs : length c.inputs ≡ length t.buses
  pub outputs : length c.outputs ≡ length t.outputs
  pub labels : length c.ages ≡ length t.labels

-- ---- an input, an output, a label

-- the rules on ranges
abbrev pub range_rules : CertificateList → ℕ → (window delay : ℕ) → List (Option CheckFault)
range_rules list index window delay =
    unless (is_window window) (fault_at list index WindowOutOfRange 0)
    ∷ unless (is_delay delay) (fault_at list index DelayOutOfRange 0)
    ∷ []

-- what they say of an input of the certificate
abbrev pub input_ranges : CertificateRows → ℕ → Option CheckFault
input_ranges c b = first_of (range_rules Inputs b (input_bound c b).window (input_bound c b).delay)

-- what they say of an output of the certificate
abbrev pub output_ranges : CertificateRows → ℕ → Option CheckFault
output_ranges c o = first_of (range_rules Outputs o (output_bound c o).window (output_bound c o).delay)

-- the first number of ticks up to the window at which a bus's backlog is too small, if there is one
abbrev pub input_backlog_failure : TableRows → ℕ → InputBound → Option ℕ
input_backlog_failure t b c = backlog_failure (bus_cap t b) (bus_floor t b) c.window c.backlog

-- the first number of ticks up to the window at which a bus's delay is too short, if there is one
abbrev pub input_delay_failure : TableRows → ℕ → InputBound → Option ℕ
input_delay_failure t b c = delay_failure (bus_cap t b) (bus_floor t b) c.window c.delay

-- the first number of ticks up to the window at which an output's delay is too short, if there is one
abbrev pub output_delay_failure : TableRows → ℕ → OutputBound → Option ℕ
output_delay_failure t o c = delay_failure (output_cap t o) (output_floor t o) c.window c.delay

-- the rules on an input, with its first failing windows
abbrev pub input_rules : TableRows → ℕ → InputBound → List (Option CheckFault)
input_rules t b c =
    unless (is_closing (bus_cap t b) (bus_floor t b) c.window) (fault_at Inputs b WindowDoesNotClose 0)
    ∷ at_window Inputs b BacklogTooSmall (input_backlog_failure t b c)
    ∷ unless (nat_le c.backlog (bus_row t b).queue) (fault_at Inputs b QueueTooShort 0)
    ∷ at_window Inputs b DelayTooSmall (input_delay_failure t b c)
    ∷ []

-- the rules on an output, with its first failing window
abbrev pub output_rules : TableRows → ℕ → OutputBound → List (Option CheckFault)
output_rules t o c =
    unless (is_closing (output_cap t o) (output_floor t o) c.window) (fault_at Outputs o WindowDoesNotClose 0)
    ∷ at_window Outputs o DelayTooSmall (output_delay_failure t o c)
    ∷ []

-- whether the age is long enough for the oldest word of each of the label's sources that it still copies
abbrev pub are_within : TableRows → (label age : ℕ) → CertificateRows → Bool
are_within t x age c = list_all (λ s. nat_le ((label_row t x).stale + source_delay t c s) age) (label_row t x).sources

-- whether the label's stale limit is long enough for each of its sources that keeps sending
abbrev pub stay_fresh : TableRows → (label : ℕ) → CertificateRows → Bool
stay_fresh t x c = list_all (λ s. nat_le (source_delay t c s + (stream_row t s).maximum) (label_row t x).stale) (label_row t x).sources

-- the rules on a label: its gaps, its age and its sources
abbrev pub label_rules : TableRows → ℕ → CertificateRows → List (Option CheckFault)
label_rules t x c =
    unless (list_all (λ g. nat_le ((label_row t x).minimum + label_delay t c x) g) (gaps_of t x)) (fault_at Labels x SentTooSoon 0)
    ∷ unless (list_all (λ g. nat_le (g + label_delay t c x) (label_row t x).maximum) (gaps_of t x)) (fault_at Labels x SentTooLate 0)
    ∷ unless (are_within t x (slice_index c.ages x) c) (fault_at Labels x AgeTooSmall 0)
    ∷ unless (nat_le (slice_index c.ages x) (label_row t x).age_limit) (fault_at Labels x AgeOverLimit 0)
    ∷ unless (stay_fresh t x c) (fault_at Labels x SourceGoesStale 0)
    ∷ []

-- ---- jobs: the inputs, the outputs and the labels in one row, from 0

-- how many jobs there are
abbrev pub job_count : TableRows → ℕ
job_count t = length t.buses + length t.outputs + length t.labels

-- what the rules on ranges say of a job
abbrev pub job_ranges : TableRows → CertificateRows → ℕ → Option CheckFault
job_ranges t c job =
    let inputs = length t.buses in
    let outputs = length t.outputs in
    if nat_lt job inputs then input_ranges c job
    else if nat_lt job (inputs + outputs) then output_ranges c (job - inputs)
    else None

-- what the other rules say of it
abbrev pub job_rules : TableRows → CertificateRows → ℕ → Option CheckFault
job_rules t c job =
    let inputs = length t.buses in
    let outputs = length t.outputs in
    if nat_lt job inputs then first_of (input_rules t job (input_bound c job))
    else if nat_lt job (inputs + outputs) then first_of (output_rules t (job - inputs) (output_bound c (job - inputs)))
    else first_of (label_rules t (job - (inputs + outputs)) c)

-- the first fault of a job
unfoldable pub job_verdict : TableRows → CertificateRows → ℕ → Option CheckFault
job_verdict t c job = option_or (job_ranges t c job) (job_rules t c job)

-- the window that the refusal of a job's backlog names; only an input has one
abbrev pub job_backlog_failure : TableRows → CertificateRows → ℕ → Option ℕ
job_backlog_failure t c job = if nat_lt job (length t.buses) then input_backlog_failure t job (input_bound c job) else None

-- the window that the refusal of a job's delay names; only an input or an output has one
abbrev pub job_delay_failure : TableRows → CertificateRows → ℕ → Option ℕ
job_delay_failure t c job =
    let inputs = length t.buses in
    if nat_lt job inputs then input_delay_failure t job (input_bound c job)
    else if nat_lt job (inputs + length t.outputs) then output_delay_failure t (job - inputs) (output_bound c (job - inputs))
    else None

-- ---- the verdict

-- the first fault of the jobs below n
unfoldable pub first_job_fault : (ℕ → Option CheckFault) → ℕ → Option CheckFault
first_job_fault verdict zero = None
first_job_fault verdict (suc n) = option_or (first_job_fault verdict n) (verdict n)

-- the first fault of a certificate for the tables: of its names, then of its jobs in their order
unfoldable pub verdict_of : TableRows → NamedRows → Option CheckFault
verdict_of t claims = option_or (misnaming t claims) (first_job_fault (job_verdict t (numbers_of claims)) (job_count t))

-- the answer is the verdict: no fault, or the first
abbrev pub IsVerdict : {T : Type 0} → TableRows → NamedRows → Result T CheckFault → Type 0
IsVerdict t claims answer = MatchResult answer (λ _. verdict_of t claims ≡ None) (λ fault. verdict_of t claims ≡ Some fault)
