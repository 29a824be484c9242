-- Laws about the numbers of clocks that drift. Each is the contract of a function in `laws`.
use Rattle.std.specs.Prelude.{◌≡◌, ℕ, ◌*◌, ◌<◌, IfSome, List, ◌∷◌, ◌++◌, length, slice_index}
use Rattle.dc_cert.specs.Bounds.{numbers_of}
use Rattle.dc_cert.specs.NamedRows.{NamedRows}
use Rattle.dc_check.specs.Accepts.{Accepts}
use Rattle.dc_drift.specs.Drift.{Drifts, millionths, drifting_intervals, oldest_of, AreBest, IsOldest}
use Rattle.dc_event.specs.Emissions.{emission}
use Rattle.dc_event.specs.declared.event.Event.{Event}
use Rattle.dc_spans.specs.Spans.{Clock, KeepsPace}
use Rattle.dc_tables.specs.TableRows.{TableRows}
use Rattle.dc_time.specs.Admissible.{IsAdmissibleInTime}
use Rattle.dc_time.specs.Claims.{ClaimsHoldInTime, IsYoungInTime}
use Rattle.dc_time.specs.Intervals.{Intervals}
use Rattle.dc_time.specs.Timed.{events}

-- the intervals of each drift fit its clocks, and none that fit are better
abbrev pub NoneAreBetter : TableRows → Type 0
NoneAreBetter t = (ppm : ℕ) → AreBest t ppm (drifting_intervals t ppm)

-- the age in microseconds is the least that covers it, for each drift and each age in ticks
abbrev pub AgesAre : Type 0
AgesAre = (t : TableRows) (ppm age : ℕ) → IsOldest t ppm age (oldest_of t ppm age)

-- at each event, a word that leaves is the fallback or copies one that came less than its age in microseconds ago
abbrev pub WordsAreYoung : TableRows → ℕ → List ℕ → List (ℕ × Event) → Type 0
WordsAreYoung t ppm ages run = (past rest : List (ℕ × Event)) (e : ℕ × Event) → run ≡ past ++ (e ∷ rest)
    → IfSome (emission t (events past) e.1) (λ x. IsYoungInTime t x (oldest_of t ppm (slice_index ages x) * 1000000) past e)

-- what holds of a run under a clock of this drift: the claims with its intervals, and the ages in microseconds
pub record HoldUnderDrift (t : TableRows) (ppm : ℕ) (ages : List ℕ) (clock : Clock) (run : List (ℕ × Event)) : Type 0 where
  pub claims : ClaimsHoldInTime t (millionths (drifting_intervals t ppm)) ages clock run
  pub young : WordsAreYoung t ppm ages run

-- for each accepted certificate and each clock of each drift, in every timed run that is admissible by its intervals
abbrev pub AcceptedKeepUnderDrift : TableRows → Type 0
AcceptedKeepUnderDrift t = (claims : NamedRows) → Accepts t claims → (ppm : ℕ) (clock : Clock) → KeepsPace clock → Drifts t ppm clock → (run : List (ℕ × Event))
    → IsAdmissibleInTime t (millionths (drifting_intervals t ppm)) clock run → HoldUnderDrift t ppm (numbers_of claims).ages clock run

-- of all rows that are there the two are the same
pub record AreSame (t : TableRows) (us others : Intervals) : Type 0 where
  pub spacings : (b : ℕ) → b < length t.buses → us.spacing b ≡ others.spacing b
  pub stream_leasts : (s : ℕ) → s < length t.streams → us.stream_least s ≡ others.stream_least s
  pub stream_mosts : (s : ℕ) → s < length t.streams → us.stream_most s ≡ others.stream_most s
  pub stream_jitters : (s : ℕ) → s < length t.streams → us.stream_jitter s ≡ others.stream_jitter s
  pub label_leasts : (x : ℕ) → x < length t.labels → us.label_least x ≡ others.label_least x
  pub label_mosts : (x : ℕ) → x < length t.labels → us.label_most x ≡ others.label_most x

-- the intervals of the small tables under a drift of 50 millionths, and of 1,000
abbrev pub small_at_50 : Intervals
small_at_50 = record {
  spacing = λ _. 351;
  stream_least = λ _. 10001;
  stream_most = λ _. 19999;
  stream_jitter = λ _. 0;
  label_least = λ _. 9999;
  label_most = λ _. 20001;
}

abbrev pub small_at_1000 : Intervals
small_at_1000 = record {
  spacing = λ _. 351;
  stream_least = λ _. 10010;
  stream_most = λ _. 19980;
  stream_jitter = λ _. 0;
  label_least = λ _. 9990;
  label_most = λ _. 20020;
}
