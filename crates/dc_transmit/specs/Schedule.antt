-- The transmit schedule of an output: a frame that comes again and again, and the entries of the frame in order of offset.
use Rattle.std.specs.Prelude.{ℕ, ◌%◌, ◌≤◌, Bool, ◌==◌, List, length, slice_index_or}
use Rattle.dc_bound.specs.Frame.{due_of_entry, due_so_far, IsFrame}
use Rattle.dc_tables.specs.TableRows.{TableRows, output_row}
use Rattle.dc_tables.specs.declared.rows.Entry.{Entry}
use Rattle.dc_transmit.specs.Gaps.{gaps, least_gap, greatest_gap}
use Rattle.dc_bound.specs.declared.limits.TheConstants.{LONGEST_FRAME, MOST_ENTRIES}

-- what a clause sees of a schedule
pub record ScheduleData : Type 0 where
  pub frame : ℕ
  pub entries : List Entry

-- the schedule of the tables' output of this number
abbrev pub schedule_of : TableRows → ℕ → ScheduleData
schedule_of t o = record { frame = (output_row t o).frame; entries = (output_row t o).entries }

-- the tick of the frame in which an entry is due
abbrev pub off : Entry → ℕ
off e = e.offset

-- what is read where there is no entry
abbrev pub no_entry : Entry
no_entry = record { offset = 0; label = 0 }

-- the label of entry number n, from 0, of the frames one after another
abbrev pub label_at : ScheduleData → ℕ → ℕ
label_at s n = (slice_index_or s.entries (n % length s.entries) no_entry).label

-- the tick in which that entry is due
abbrev pub due_at : ScheduleData → ℕ → ℕ
due_at s n = due_of_entry off no_entry s.frame s.entries n

-- how many entries are due at a tick or before it
abbrev pub due_count : ScheduleData → ℕ → ℕ
due_count s tick = due_so_far (due_at s) tick

-- whether an entry is the label's
abbrev pub is_of_label : ℕ → Entry → Bool
is_of_label x e = e.label == x

-- the gaps between neighbouring entries of the label, round the frame; the frame alone where it has one entry
abbrev pub label_gaps : ScheduleData → ℕ → List ℕ
label_gaps s x = gaps off (is_of_label x) s.frame s.entries

-- the least gap of the label, in ticks; the frame, where it has no entry
abbrev pub least_label_gap : ScheduleData → ℕ → ℕ
least_label_gap s x = least_gap off (is_of_label x) s.frame s.entries

-- the greatest gap of the label, in ticks; 0, where it has no entry
abbrev pub greatest_label_gap : ScheduleData → ℕ → ℕ
greatest_label_gap s x = greatest_gap off (is_of_label x) s.frame s.entries

-- offsets ascend below the frame; there is an entry, and entries and frame are within their limits
pub record IsSchedule (frame : ℕ) (entries : List Entry) : Type 0 where
  pub framed : IsFrame off no_entry frame entries
  pub few : length entries ≤ MOST_ENTRIES
  pub short : frame ≤ LONGEST_FRAME
