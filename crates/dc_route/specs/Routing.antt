-- What a step of a router does.
use Rattle.std.specs.Prelude.{ℕ, ◌+◌, ◌%◌, Option, Some, None, List, [], length, drop, slice_set, slice_index_or}
use Rattle.dc_queue.specs.QueueData.{QueueData}
use Rattle.dc_tables.specs.TableRows.{TableRows, router_row, visited}
use Rattle.dc_tables.specs.Declares.{stream_of}

-- what a clause sees of a router: its number in the tables, and the place of its next visit in its list of visits
pub record RouterData : Type 0 where
  pub number : ℕ
  pub cursor : ℕ

-- the bus of its next visit
abbrev pub next_bus : TableRows → RouterData → ℕ
next_bus t r = visited t r.number r.cursor

-- the router after a step
abbrev pub moved_on : TableRows → RouterData → RouterData
moved_on t r = record { number = r.number; cursor = (r.cursor % length (router_row t r.number).visits + 1) % length (router_row t r.number).visits }

-- what stands for the queue of a bus that is not in the tables
abbrev pub no_queue : QueueData
no_queue = record { words = []; limit = 0 }

-- the queue of the bus
abbrev pub queue_at : List QueueData → ℕ → QueueData
queue_at queues b = slice_index_or queues b no_queue

-- a queue without its oldest word
abbrev pub rest_of : QueueData → QueueData
rest_of q = record { words = drop 1 q.words; limit = q.limit }

-- the latest words, each with its routed tick, once one of the stream is routed
abbrev pub noted : List (Option (ℕ × ℕ)) → Option ℕ → ℕ → ℕ → List (Option (ℕ × ℕ))
noted lasts None w tick = lasts
noted lasts (Some s) w tick = slice_set lasts s (Some (w, tick))

-- the latest words after a visit of the bus that takes this word, or none
abbrev pub routed : TableRows → ℕ → ℕ → Option ℕ → List (Option (ℕ × ℕ)) → List (Option (ℕ × ℕ))
routed t bus tick None lasts = lasts
routed t bus tick (Some w) lasts = noted lasts (stream_of t bus w) w tick
