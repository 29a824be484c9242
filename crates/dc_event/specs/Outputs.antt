-- Due and sent entries of an output.
use Rattle.std.specs.Prelude.{ℕ, ◌+◌, ◌*◌, ◌/◌, ◌%◌, min, nat_le, List, length}
use Rattle.dc_bound.specs.Places.{served_in, count_below}
use Rattle.dc_tables.specs.TableRows.{TableRows, output_row, entry_row}
use Rattle.dc_event.specs.Time.{tick_after, sends}
use Rattle.dc_event.specs.declared.event.Event.{Event}

-- the tick in which the output's entry of this number, from 0, is due: the entries go round the frame
abbrev pub due_tick : TableRows → ℕ → ℕ → ℕ
due_tick t o n =
    let m = length (output_row t o).entries in
    (n / m) * (output_row t o).frame + (entry_row t o (n % m)).offset

-- the number of its label
abbrev pub entry_label : TableRows → ℕ → ℕ → ℕ
entry_label t o n = (entry_row t o (n % length (output_row t o).entries)).label

-- how many entries are due in a tick or before it: in valid tables the offsets of an output differ, so that no two of its entries
-- are due in one tick, each counts once, and none of a greater number than the tick is due by then
unfoldable pub due_by : TableRows → ℕ → ℕ → ℕ
due_by t o tick = count_below (λ n. nat_le (due_tick t o n) tick) (tick + 1)

-- How many entries have left: the lesser of all sends and, over all earlier places, the entries due by then and the sends after.
-- The first term stands for the start, where entries at offset 0 are already due
unfoldable pub sent : TableRows → ℕ → List Event → ℕ
sent t o run = min (sends o run) (served_in (λ past. due_by t o (tick_after past)) (sends o) run)
