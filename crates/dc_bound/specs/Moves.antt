-- What passes at a queue: the list of its moves, over its whole history.
use Rattle.std.specs.Prelude.{ℕ, ◌+◌, ◌-◌, Bool, nat_lt, Option, Some, None, option_map, List, [], ◌∷◌, length, take, slice_index_or}
use Rattle.dc_bound.specs.Window.{ticks_of}
use Rattle.dc_bound.specs.Run.{ticks, picks, stamped}
use Rattle.dc_bound.specs.Places.{served_in, first_place, last_below}

-- A move: a tick ends, an item comes in, or the queue is visited. An item is its tag (the number of the stream, or of the entry) and its word
pub data Move : Type 0 where
  Tick : Move
  In : ℕ × ℕ → Move
  Visit : Move

-- ---- time and counts

-- a Tick ends one tick
abbrev pub move_ends : Move → ℕ
move_ends Tick = 1
move_ends (In x) = 0
move_ends Visit = 0

-- the item that comes in
abbrev pub came : Move → Option (ℕ × ℕ)
came Tick = None
came (In x) = Some x
came Visit = None

-- its tag
abbrev pub tag_of : Move → Option ℕ
tag_of Tick = None
tag_of (In x) = Some x.0
tag_of Visit = None

-- a visit
abbrev pub visit_of : Move → Option ℕ
visit_of Tick = None
visit_of (In x) = None
visit_of Visit = Some 0

-- how many ticks have ended
abbrev pub ticks_in : List Move → ℕ
ticks_in ms = ticks move_ends ms

-- how many visits there were
abbrev pub visits : List Move → ℕ
visits ms = picks visit_of ms

-- the entries, as (tick, tag)
abbrev pub entries : List Move → List (ℕ × ℕ)
entries ms = stamped move_ends tag_of 0 ms

-- the ticks of the visits
abbrev pub visit_ticks : List Move → List ℕ
visit_ticks ms = ticks_of (stamped move_ends visit_of 0 ms)

-- ---- the queue without an end

-- the item of a move, if it brings one, in front of others
abbrev pub push : Move → List (ℕ × ℕ) → List (ℕ × ℕ)
push Tick xs = xs
push (In x) xs = x ∷ xs
push Visit xs = xs

-- the items that came, in order
unfoldable pub ins : List Move → List (ℕ × ℕ)
ins [] = []
ins (m ∷ ms) = push m (ins ms)

-- how many of all that came were taken: the least, over all earlier places j, of those come by j and the visits after j
unfoldable pub passed : List Move → ℕ
passed ms = served_in (λ past. length (ins past)) visits ms

-- ---- the queue with its latch

-- whether more came than a queue without end would have handed on, and this one holds
unfoldable pub is_overfull : ℕ → List Move → Bool
is_overfull room ms = nat_lt (room + passed ms) (length (ins ms))

-- the place at which the queue latches
unfoldable pub latch : ℕ → List Move → Option ℕ
latch room ms = first_place (is_overfull room) ms

-- what stands before a place, or everything where there is none
abbrev pub before : Option ℕ → List Move → List Move
before None ms = ms
before (Some i) ms = take (i - 1) ms

-- the items that came before the latch
unfoldable pub entered : ℕ → List Move → List (ℕ × ℕ)
entered room ms = ins (before (latch room ms) ms)

-- how many of them were taken: the least, over all earlier places j, of those entered by j and the visits after j
unfoldable pub taken : ℕ → List Move → ℕ
taken room ms = served_in (λ past. length (entered room past)) visits ms

-- the entered item of this number, from 0
abbrev pub item : ℕ → List Move → ℕ → ℕ × ℕ
item room ms n = slice_index_or (entered room ms) n (0, 0)

-- the tick in which the entered item of this number was taken
unfoldable pub routed_tick : ℕ → ℕ → List Move → ℕ
routed_tick room n ms = ticks_in (before (first_place (λ past. nat_lt n (taken room past)) ms) ms)

-- the tick in which the item of this number came in
unfoldable pub arrived_tick : ℕ → List Move → ℕ
arrived_tick n ms = ticks_in (before (first_place (λ past. nat_lt n (length (ins past))) ms) ms)

-- the number of the last taken item that passes the test
unfoldable pub latest_number : ℕ → (ℕ × ℕ → Bool) → List Move → Option ℕ
latest_number room p ms = last_below (λ n. p (item room ms n)) (taken room ms)

-- that item, with the tick in which it was taken
unfoldable pub latest_by : ℕ → (ℕ × ℕ → Bool) → List Move → Option ((ℕ × ℕ) × ℕ)
latest_by room p ms = option_map (λ n. (item room ms n, routed_tick room n ms)) (latest_number room p ms)
