-- What is observed of an input.
use Rattle.std.proofs.Common.{ℕ, zero, suc, ◌+◌, ◌≤◌, ◌<◌, List, [], length, take, drop, sym, arith, inl, inr, take-append-drop}
use Rattle.std.proofs.lemmas.Bool.{cases_lt, lt-ltb, le-ltb}
use Rattle.std.proofs.lemmas.List.{append-nil}
use Rattle.dc_bound.specs.Moves.{arrived_tick}
use Rattle.dc_bound.specs.lemmas.Cycle.{greatest_to-le}
use Rattle.dc_check.specs.Numbers.{AtEachPlace, TakesWithin}
use Rattle.dc_event.specs.Buses.{moves, backlog, bus_entered, bus_taken}
use Rattle.dc_event.specs.Time.{tick_after}
use Rattle.dc_event.specs.declared.event.Event.{Event}
use Rattle.dc_observe.specs.Observed.{greatest_below, greatest_backlog, greatest_wait, wait_of}
use Rattle.dc_tables.specs.TableRows.{TableRows}
use Rattle.dc_within.proofs.Routed.{routed_within}

pub greatest_below-le : (n : ℕ) (f : ℕ → ℕ) (most : ℕ) → ((i : ℕ) → i < n → f i ≤ most) → greatest_below n f ≤ most
greatest_below-le zero f most h = omega arith
greatest_below-le (suc n) f most h = omega (arith, greatest_below-le n f most (λ i l. h i (omega arith)), h n (omega arith))

pub backlog-within : (t : TableRows) (b most : ℕ) (run : List Event) → AtEachPlace (λ now. backlog t b now ≤ most) run → greatest_backlog t b run ≤ most
unfolding greatest_backlog
backlog-within t b most run few = greatest_to-le (length run) (λ i. backlog t b (take i run)) most (λ i l. few (take i run) (drop i run) (sym (take-append-drop i run)))

pub wait-within : (t : TableRows) (b delay : ℕ) (run : List Event) → AtEachPlace (TakesWithin t b delay) run → greatest_wait t b run ≤ delay
unfolding greatest_wait
wait-within t b delay run takes =
    greatest_below-le (length (bus_entered t b run)) (wait_of t b run) delay (λ n l. elim (cases_lt n (bus_taken t b run)) [
      | inl took ↦ rw (lt-ltb n (bus_taken t b run) took) (omega (arith, routed_within t b delay run takes n took))
      | inr waits ↦ rw (le-ltb n (bus_taken t b run) waits) (elim (cases_lt (arrived_tick n (moves t b run) + delay) (tick_after run)) [
        | inl late ↦ absurd (omega (arith, waits, takes run [] (sym (append-nil run)) n l late))
        | inr early ↦ omega (arith, early)
      ])
    ])
