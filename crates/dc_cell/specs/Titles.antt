-- Titles of columns.
use Rattle.std.specs.Prelude.{ℕ, ◌-◌, ◌==◌, ◌&&◌, ◌||◌, Bool, nat_le, codes, if◌then◌else◌, List, [], ◌∷◌, ◌++◌, length, take, drop, slice_index}
use Rattle.std.specs.Char.{to_ascii_lowercase}
use Rattle.dc_cell.specs.Words.{is_word}
use Rattle.dc_cell.specs.declared.titles.Column.{Column}
use Rattle.dc_cell.specs.declared.titles.Column.TheVariants as col
use Rattle.dc_cell.specs.declared.times.TimeUnit.{TimeUnit}
use Rattle.dc_cell.specs.declared.times.TimeUnit.TheVariants.{Microseconds, Milliseconds}

-- a letter or a digit
abbrev pub is_kept : ℕ → Bool
is_kept c = (nat_le 65 c && nat_le c 90) || (nat_le 97 c && nat_le c 122) || (nat_le 48 c && nat_le c 57)

-- nothing more is said by another byte that is no letter and no digit
abbrev pub is_parted : List ℕ → Bool
is_parted key = length key == 0 || slice_index key (length key - 1) == 95

-- a key and the next byte of its title: a letter as a small one, a run of other bytes as one `_`
abbrev pub with_byte : List ℕ → ℕ → List ℕ
with_byte key c = if is_kept c then key ++ to_ascii_lowercase c ∷ [] else if is_parted key then key else key ++ 95 ∷ []

-- the key of a title behind what was read of it
abbrev pub key_behind : (key title : List ℕ) → List ℕ
key_behind key [] = key
key_behind key (c ∷ cs) = key_behind (with_byte key c) cs

-- without a `_` at its end
abbrev pub ended : List ℕ → List ℕ
ended key = if length key == 0 then key else if slice_index key (length key - 1) == 95 then take (length key - 1) key else key

-- what a title says: `Max age [ms]` is `max_age_ms`
abbrev pub key_of : List ℕ → List ℕ
key_of title = ended (key_behind [] title)

-- a key that is this word, and one that is this word with a unit
abbrev pub is_timed : (word key : List ℕ) → Bool
is_timed word key =
    is_word (word ++ codes "_us") key || is_word (word ++ codes "_usec") key || is_word (word ++ codes "_ms") key || is_word (word ++ codes "_msec") key

-- a key is the word of a unit's end
abbrev pub ends_in : (ending key : List ℕ) → Bool
ends_in ending key = nat_le (length ending) (length key) && is_word ending (drop (length key - length ending) key)

-- the unit of a time's title
abbrev pub unit_of : List ℕ → TimeUnit
unit_of key = if ends_in (codes "_ms") key || ends_in (codes "_msec") key then Milliseconds else Microseconds

-- `source` with a digit 1 to 8, with or without a `_` between them
abbrev pub is_source_part : List ℕ → Bool
is_source_part key =
    nat_le 1 (length key) && (nat_le 49 (slice_index key (length key - 1)) && nat_le (slice_index key (length key - 1)) 56)
    && (is_word (codes "source") (take (length key - 1) key) || is_word (codes "source_") (take (length key - 1) key))

-- the titles of each column; those of times with their unit
abbrev pub is_title : Column → (key : List ℕ) → Bool
is_title col.Bus key = is_word (codes "bus") key || is_word (codes "input_bus") key || is_word (codes "source_bus") key
is_title col.Output key = is_word (codes "output") key || is_word (codes "output_bus") key
is_title col.Speed key = is_word (codes "speed") key || is_word (codes "bus_speed") key
is_title col.Label key = is_word (codes "label") key || is_word (codes "octal_label") key || is_word (codes "label_octal") key
is_title col.Equipment key = is_word (codes "equipment") key || is_word (codes "equipment_id") key || is_word (codes "equipment_code") key || is_word (codes "equip_id") key || is_word (codes "eqpt_id") key || is_word (codes "eqpt_id_hex") key || is_word (codes "eqid") key || is_word (codes "eq_id") key
is_title col.Format key = is_word (codes "format") key || is_word (codes "type") key || is_word (codes "data_type") key
is_title col.Sdi key = is_word (codes "sdi") key
is_title col.Police key = is_word (codes "police") key || is_word (codes "policed") key
is_title col.Queue key = is_word (codes "queue") key
is_title col.Router key = is_word (codes "router") key
is_title col.Name key = is_word (codes "name") key || is_word (codes "stream_name") key || is_word (codes "label_name") key
is_title col.Sources key = is_word (codes "sources") key || is_word (codes "source") key || is_word (codes "streams") key || is_source_part key
is_title col.Min key = is_timed (codes "min") key || is_timed (codes "minimum") key || is_timed (codes "min_interval") key || is_timed (codes "min_transmit_interval") key
is_title col.Max key = is_timed (codes "max") key || is_timed (codes "maximum") key || is_timed (codes "max_interval") key || is_timed (codes "max_transmit_interval") key
is_title col.Jitter key = is_timed (codes "jitter") key
is_title col.MaxAge key = is_timed (codes "max_age") key || is_timed (codes "maximum_age") key
is_title col.Timeout key = is_timed (codes "timeout") key
is_title col.Steps key = is_word (codes "steps") key
is_title col.Within key = is_timed (codes "within") key
