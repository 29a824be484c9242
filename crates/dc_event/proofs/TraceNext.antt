-- One event after another, with pulls between.
use Rattle.std.proofs.Common.{◌≡◌, ℕ, ◌+◌, List, refl, ap, Option, Some, None, Result, Ok, Err}
use Rattle.dc_event.specs.Reading.{Reading, IsOfLine, failures_at, new_failures, stop_of}
use Rattle.dc_event.specs.declared.event.Event.{Event}
use Rattle.dc_event.specs.declared.trace.TraceStop.{TraceStop}
use Rattle.dc_event.specs.declared.trace.TraceStop.TheVariants.{End, Fault, Broken}

-- how many steps a reader makes at most before it tells something
abbrev pub steps : Option TraceStop → ℕ → ℕ
steps None n = n + 1
steps (Some stop) n = 0

-- a reader that had stopped is as it was
abbrev pub Again : Option TraceStop → Reading → Reading → Option (List ℕ) → Option (List ℕ) → ℕ → ℕ → ℕ → ℕ → Type 0
Again None old new from to asked asked' dry dry' = Unit {0}
Again (Some stop) old new from to asked asked' dry dry' = (new ≡ old) × (to ≡ from) × (asked' ≡ asked) × (dry' ≡ dry)

-- the held bytes tell of no failure that a pull did not count
pub same_failures : (old was now : Option TraceStop) (reported : Result Event TraceStop) → now ≡ stop_of reported → (was ≡ None → IsOfLine reported) → ((stop : TraceStop) → was ≡ Some stop → now ≡ was)
    → new_failures old now ≡ new_failures old was
same_failures None None now (Ok e) is line same = ap failures_at is
same_failures None None now (Err End) is line same = absurd (line refl)
same_failures None None now (Err (Fault f)) is line same = ap failures_at is
same_failures None None now (Err Broken) is line same = absurd (line refl)
same_failures None (Some stop) now reported is line same = ap failures_at (same stop refl)
same_failures (Some stop) was now reported is line same = refl
