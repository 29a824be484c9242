-- The rule of the claim counter.
use Rattle.std.specs.Prelude.{◌≡◌, ℕ, ◌+◌, ◌≤◌, true, false, if◌then◌else◌, ◌==◌, nat_le, nat_lt, List, [], ◌∷◌, ◌++◌, length, slice_index}
use mathlib.Core.Option.{some}
use lib.ListN.{get_elem?}
use Rattle.atomic_table.specs.Seated.{TableId}
use Rattle.atomic_table.specs.Table.{State, Me, Step}
use Rattle.dc_checkpar.specs.declared.view.View.{View}
use Rattle.dc_checkpar.specs.declared.limits.TheConstants.{MOST_WORKERS}

-- the first drawer of so many jobs, which alone splits off others; it has drawn none yet
abbrev pub leader : ℕ → View
leader jobs = record { jobs = jobs; leads = true; splits = 0; drawn = [] }

-- a drawer that was split off the first; it has drawn none yet
abbrev pub follower : ℕ → View
follower jobs = record { jobs = jobs; leads = false; splits = 0; drawn = [] }

-- one split more
abbrev pub led : View → View
led v = record { jobs = v.jobs; leads = v.leads; splits = v.splits + 1; drawn = v.drawn }

-- one number more
abbrev pub with_drawn : View → ℕ → View
with_drawn v n = record { jobs = v.jobs; leads = v.leads; splits = v.splits; drawn = v.drawn ++ n ∷ [] }

-- how often x stands in the list
abbrev pub times : ℕ → List ℕ → ℕ
times x [] = 0
times x (y ∷ ys) = (if y == x then 1 else 0) + times x ys

-- how many of the numbers are no job's
abbrev pub past : ℕ → List ℕ → ℕ
past jobs [] = 0
past jobs (y ∷ ys) = (if nat_le jobs y then 1 else 0) + past jobs ys

-- a drawer of this counter, which has drawn no number past the last job
abbrev pub IsFresh : TableId × ℕ → TableId × View → Type 0
IsFresh counter drawer = (drawer.0 ≡ counter.0) × (drawer.1.jobs ≡ counter.1) × (past counter.1 drawer.1.drawn ≡ 0)

-- the first drawer of this counter, before it draws
abbrev pub IsLeader : TableId × ℕ → TableId × View → Type 0
IsLeader counter drawer = (drawer.0 ≡ counter.0) × (drawer.1 ≡ leader counter.1)

-- f of each view, added up
abbrev pub total : (View → ℕ) → List View → ℕ
total f [] = 0
total f (v ∷ vs) = f v + total f vs

-- how often a job is drawn in all when so many have been drawn: once if its number is below, else not
abbrev pub once_below : ℕ → ℕ → ℕ
once_below x n = if nat_lt x n then 1 else 0

-- The numbers drawn are those below the word, each once, and at most one in each view is past the last job; there is a
-- view more than the first one has split off. Word 0 is for the drawers, and word 1 is the next number.
abbrev pub Given : ℕ → State (Unit {0}) View → Type 0
Given jobs s =
    (length s.words ≡ 2) × (slice_index s.words 0 ≡ 0)
    × ((x : ℕ) → total (λ (v : View). times x v.drawn) s.views ≡ once_below x (slice_index s.words 1))
    × (slice_index s.words 1 ≤ jobs + total (λ (v : View). past jobs v.drawn) s.views)
    × (length s.views ≤ MOST_WORKERS)
    × ((by : ℕ) (v : View) → get_elem? s.views by ≡ some v → (v.jobs ≡ jobs) × (past jobs v.drawn ≤ 1) × (v.leads ≡ true → (by ≡ 0) × (length s.views ≡ v.splits + 1)))

-- one number is drawn, the one that was found
abbrev pub Draws : Step (Unit {0}) → Me (Unit {0}) View → ℕ → Me (Unit {0}) View → Type 0
Draws s v found w = w.0 ≡ with_drawn v.0 found
