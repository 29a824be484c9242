-- Marks that only rise.
use Rattle.std.specs.Prelude.{◌≡◌, ◌⊎◌, ℕ, ◌+◌, ◌-◌, ◌≤◌, List, length, slice_index, slice_set, max, replicate}
use mathlib.Core.Option.{some}
use lib.ListN.{get_elem?}
use Rattle.atomic_table.specs.Table.{State, Me, Step}
use Rattle.atomic_table.specs.Seated.{TableId}
use Rattle.dc_board.specs.declared.view.View.{View}

-- a seat that has noted and seen nothing
abbrev pub fresh : List ℕ → View
fresh caps = record { caps = caps; noted = replicate (length caps) 0; seen = replicate (length caps) 0; steps = 0 }

-- the marks after one more at this place
abbrev pub raised : List ℕ → ℕ → ℕ → List ℕ
raised marks i n = slice_set marks i (max (slice_index marks i) n)

-- what a seat knows after a step that tells it nothing
abbrev pub stepped_once : View → View
stepped_once v = record { caps = v.caps; noted = v.noted; seen = v.seen; steps = v.steps + 1 }

-- the mark is 0, or some seat has noted it at this place
abbrev pub IsNoted : List View → ℕ → ℕ → Type 0
IsNoted views i n = (n ≡ 0) ⊎ ((by : ℕ) × (v : View) × (get_elem? views by ≡ some v) × (slice_index v.noted i ≡ n))

-- what a seat has noted it has seen, and the words are no less than what it has seen
abbrev pub Fits : List ℕ → List ℕ → View → Type 0
Fits caps words v =
    (v.caps ≡ caps) × (length v.noted ≡ length caps) × (length v.seen ≡ length caps)
    × ((i : ℕ) → slice_index v.noted i ≤ slice_index v.seen i)
    × ((i : ℕ) → slice_index v.seen i ≤ slice_index words (i + 1))

-- The rule of the board at any time: each word is at most its cap, and is 0 or was noted; each seat fits. Word 0 serves the seats, and word i + 1 is the board's word i
abbrev pub IsBoard : List ℕ → State (Unit {0}) View → Type 0
IsBoard caps s =
    (length s.words ≡ length caps + 1) × (slice_index s.words 0 ≡ 0)
    × ((i : ℕ) → slice_index s.words (i + 1) ≤ slice_index caps i)
    × ((i : ℕ) → IsNoted s.views i (slice_index s.words (i + 1)))
    × ((by : ℕ) (v : View) → get_elem? s.views by ≡ some v → Fits caps s.words v)

-- what a step that notes tells: it found at least what the seat had seen, and raises what the seat has noted and seen
abbrev pub Notes : Step (Unit {0}) → Me (Unit {0}) View → ℕ → Me (Unit {0}) View → Type 0
Notes s v found w =
    (slice_index v.0.seen (s.word - 1) ≤ found)
    × (w.0 ≡ record { caps = v.0.caps; noted = raised v.0.noted (s.word - 1) s.first; seen = slice_set v.0.seen (s.word - 1) (max found s.first); steps = v.0.steps + 1 })

-- what a step that reads tells: it found at least what the seat had seen, and the seat has seen it then
abbrev pub Reads : Step (Unit {0}) → Me (Unit {0}) View → ℕ → Me (Unit {0}) View → Type 0
Reads s v found w =
    (slice_index v.0.seen (s.word - 1) ≤ found) × (found ≤ slice_index v.0.caps (s.word - 1))
    × (w.0 ≡ record { caps = v.0.caps; noted = v.0.noted; seen = slice_set v.0.seen (s.word - 1) found; steps = v.0.steps + 1 })
    × (slice_index w.0.seen (s.word - 1) ≡ found)

-- the seat is of this board, and knows its caps
abbrev pub IsSeatOf : TableId × List ℕ → TableId × View → Type 0
IsSeatOf board seat = (seat.0 ≡ board.0) × (seat.1.caps ≡ board.1) × (length seat.1.noted ≡ length board.1) × (length seat.1.seen ≡ length board.1)
