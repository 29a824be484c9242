-- The window tests and the busy-window law, over the moves of a queue.
use Rattle.std.specs.Prelude.{◌≡◌, ℕ, ◌+◌, ◌-◌, ◌<◌, ◌≤◌, List, ◌++◌, length, Option, MatchOption}
use Rattle.dc_bound.specs.Window.{count_in}
use Rattle.dc_bound.specs.declared.limits.TheConstants.{LONGEST_SPAN}
use Rattle.dc_bound.specs.Moves.{Move, ticks_in, visit_ticks, entries, ins, passed, arrived_tick}

-- each d whole ticks hold at least s d visits
abbrev pub Serves : (ℕ → ℕ) → List Move → Type 0
Serves s ms = (u d : ℕ) → d ≤ LONGEST_SPAN → u + d ≤ ticks_in ms → s d ≤ count_in u d (visit_ticks ms)

-- the window closes: at least as many visits in its ticks but the first as entries in all of them
abbrev pub Closes : (a s : ℕ → ℕ) → ℕ → Type 0
Closes a s window = a window ≤ s (window - 1)

-- the most that comes in w ticks, less the fewest visits in w - 2, is at most the backlog
abbrev pub BacklogAt : (a s : ℕ → ℕ) (backlog : ℕ) → ℕ → Type 0
BacklogAt a s backlog w = a w - s (w - 2) ≤ backlog

-- the most that comes in w ticks is at most the fewest visits in w - 1 + delay
abbrev pub DelayAt : (a s : ℕ → ℕ) (delay : ℕ) → ℕ → Type 0
DelayAt a s delay w = a w ≤ s (w - 1 + delay)

-- P holds for each w from 1 to the window
abbrev pub EachWindow : (ℕ → Type 0) → ℕ → Type 0
EachWindow P window = (w : ℕ) → 1 ≤ w → w ≤ window → P w

-- the backlog is enough for each number of ticks from 1 to the window
abbrev pub BacklogBounded : (a s : ℕ → ℕ) (window backlog : ℕ) → Type 0
BacklogBounded a s window backlog = EachWindow (BacklogAt a s backlog) window

-- the delay is enough for each number of ticks from 1 to the window
abbrev pub DelayBounded : (a s : ℕ → ℕ) (window delay : ℕ) → Type 0
DelayBounded a s window delay = EachWindow (DelayAt a s delay) window

-- w is the first from 1 to the window at which P fails
abbrev pub IsLeastFailing : (ℕ → Type 0) → ℕ → ℕ → Type 0
IsLeastFailing P window w = (1 ≤ w) × (w ≤ window) × (¬ P w) × ((v : ℕ) → 1 ≤ v → v < w → P v)

-- what was found is the first from `first` to `last` at which P fails; nothing, where P holds at each
abbrev pub IsFirstBetween : (ℕ → Type 0) → (first last : ℕ) → Option ℕ → Type 0
IsFirstBetween P first last found =
    MatchOption found ((v : ℕ) → first ≤ v → v ≤ last → P v) (λ w. (first ≤ w) × (w ≤ last) × (¬ P w) × ((v : ℕ) → first ≤ v → v < w → P v))

-- the backlog is bounded at each place of each run
abbrev pub QueueBacklog : (a : ℕ → ℕ) (allows : List (ℕ × ℕ) → Type 0) (s : ℕ → ℕ) (window backlog : ℕ) → Type 0
QueueBacklog a allows s window backlog =
    Closes a s window → BacklogBounded a s window backlog →
    (ms : List Move) → allows (entries ms) → Serves s ms →
    (pre post : List Move) → ms ≡ pre ++ post → length (ins pre) - passed pre ≤ backlog

-- from each place on, before so many ticks more have ended, there is a place at which nothing waits
abbrev pub EmptiesWithin : ℕ → List Move → Type 0
EmptiesWithin window ms =
    (pre span post : List Move) → ms ≡ pre ++ (span ++ post) → window ≤ ticks_in span → (x y : List Move) × (span ≡ x ++ y) × (length (ins (pre ++ x)) ≤ passed (pre ++ x))

-- no busy stretch outlasts the window
abbrev pub QueueEmpties : (a : ℕ → ℕ) (allows : List (ℕ × ℕ) → Type 0) (s : ℕ → ℕ) (window : ℕ) → Type 0
QueueEmpties a allows s window =
    Closes a s window → (ms : List Move) → allows (entries ms) → Serves s ms → EmptiesWithin window ms

-- what has come in by a place of tick t has been taken by the end of tick t + delay, where that tick is whole
abbrev pub QueueDelay : (a : ℕ → ℕ) (allows : List (ℕ × ℕ) → Type 0) (s : ℕ → ℕ) (window delay : ℕ) → Type 0
QueueDelay a allows s window delay =
    Closes a s window → DelayBounded a s window delay →
    (ms : List Move) → allows (entries ms) → Serves s ms →
    (pre mid post : List Move) → ms ≡ pre ++ (mid ++ post) → delay < ticks_in mid → length (ins pre) ≤ passed (pre ++ mid)

-- the item of each number, once it has come in in tick t, has been taken where tick t + delay is whole
abbrev pub QueueInTime : (a : ℕ → ℕ) (allows : List (ℕ × ℕ) → Type 0) (s : ℕ → ℕ) (window delay : ℕ) → Type 0
QueueInTime a allows s window delay =
    Closes a s window → DelayBounded a s window delay →
    (ms : List Move) → allows (entries ms) → Serves s ms →
    (pre post : List Move) → ms ≡ pre ++ post → (n : ℕ) → n < length (ins pre) → arrived_tick n pre + delay < ticks_in pre → n < passed pre
