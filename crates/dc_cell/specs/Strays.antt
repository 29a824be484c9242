-- Titles by which a column seems to be meant, though none is read under them.
use Rattle.std.specs.Prelude.{ℕ, suc, zero, ◌==◌, ◌&&◌, ◌||◌, Bool, false, not, nat_le, codes, if◌then◌else◌, List, [], ◌∷◌, ◌++◌, length, take, drop, slice_index}
use Rattle.dc_cell.specs.Words.{is_word}
use Rattle.dc_cell.specs.Titles.{is_title}
use Rattle.dc_cell.specs.declared.titles.Column.{Column}
use Rattle.dc_cell.specs.declared.titles.Column.TheVariants as col

-- ---- one letter

-- two neighbours stand the other way round, and what is behind them is alike
abbrev pub are_exchanged : (word key : List ℕ) → Bool
are_exchanged word key =
    nat_le 2 (length word) && nat_le 2 (length key) && slice_index word 0 == slice_index key 1 && slice_index word 1 == slice_index key 0
    && is_word (drop 2 word) (drop 2 key)

-- two texts that differ in their first letter, and in nothing else: it is lost, added, another one, or exchanged with its neighbour
abbrev pub is_first_off : (word key : List ℕ) → Bool
is_first_off word key = is_word (drop 1 word) key || is_word word (drop 1 key) || is_word (drop 1 word) (drop 1 key) || are_exchanged word key

-- a key lies one letter from a word: one is lost, added or another, or two neighbours are exchanged
unfoldable pub is_one_off : (word key : List ℕ) → Bool
is_one_off [] key = length key == 1
is_one_off (c ∷ word) [] = length (c ∷ word) == 1
is_one_off (c ∷ word) (d ∷ key) = if c == d then is_one_off word key else is_first_off (c ∷ word) (d ∷ key)

-- ---- what stands before a unit

-- where the last `_` of the first so many bytes stands, or the end where there is none
unfoldable pub gap_before : (key : List ℕ) → ℕ → ℕ
gap_before key zero = length key
gap_before key (suc k) = if slice_index key k == 95 then k else gap_before key k

-- a key without its last `_` and what is behind it: `max_age_s` is `max_age`
abbrev pub stem_of : List ℕ → List ℕ
stem_of key = take (gap_before key (length key)) key

-- a key that begins with this word
abbrev pub begins_with : (word key : List ℕ) → Bool
begins_with word key = nat_le (length word) (length key) && is_word word (take (length word) key)

-- ---- titles that lie one letter from those of a column whose names have five letters at least

-- so the name of a time with one of its units, and with one, with none or with another
abbrev pub is_near_unit : (word key : List ℕ) → Bool
is_near_unit word key =
    is_one_off (word ++ codes "_us") key || is_one_off (word ++ codes "_usec") key || is_one_off (word ++ codes "_ms") key || is_one_off (word ++ codes "_msec") key

abbrev pub is_near_timed : (word key stem : List ℕ) → Bool
is_near_timed word key stem = is_one_off word key || is_one_off word stem || is_near_unit word key

-- `source` with a digit
abbrev pub is_near_part : (key : List ℕ) → Bool
is_near_part key =
    is_one_off (codes "source1") key || is_one_off (codes "source2") key || is_one_off (codes "source3") key || is_one_off (codes "source4") key
    || is_one_off (codes "source5") key || is_one_off (codes "source6") key || is_one_off (codes "source7") key || is_one_off (codes "source8") key
    || is_one_off (codes "source_1") key || is_one_off (codes "source_2") key || is_one_off (codes "source_3") key || is_one_off (codes "source_4") key
    || is_one_off (codes "source_5") key || is_one_off (codes "source_6") key || is_one_off (codes "source_7") key || is_one_off (codes "source_8") key

abbrev pub is_near : Column → (key stem : List ℕ) → Bool
is_near col.Bus key stem = is_one_off (codes "input_bus") key || is_one_off (codes "source_bus") key
is_near col.Output key stem = is_one_off (codes "output") key || is_one_off (codes "output_bus") key
is_near col.Speed key stem = is_one_off (codes "speed") key || is_one_off (codes "bus_speed") key
is_near col.Label key stem = is_one_off (codes "label") key || is_one_off (codes "octal_label") key || is_one_off (codes "label_octal") key
is_near col.Equipment key stem = is_one_off (codes "equipment") key || is_one_off (codes "equipment_id") key || is_one_off (codes "equipment_code") key || is_one_off (codes "equip_id") key || is_one_off (codes "eqpt_id") key || is_one_off (codes "eqpt_id_hex") key
is_near col.Format key stem = is_one_off (codes "format") key || is_one_off (codes "data_type") key
is_near col.Sdi key stem = false
is_near col.Police key stem = is_one_off (codes "police") key || is_one_off (codes "policed") key
is_near col.Queue key stem = is_one_off (codes "queue") key
is_near col.Router key stem = is_one_off (codes "router") key
is_near col.Name key stem = is_one_off (codes "stream_name") key || is_one_off (codes "label_name") key
is_near col.Sources key stem = is_one_off (codes "sources") key || is_one_off (codes "source") key || is_one_off (codes "streams") key || is_near_part key
is_near col.Min key stem = is_near_timed (codes "minimum") key stem || is_near_timed (codes "min_interval") key stem || is_near_timed (codes "min_transmit_interval") key stem
is_near col.Max key stem = is_near_timed (codes "maximum") key stem || is_near_timed (codes "max_interval") key stem || is_near_timed (codes "max_transmit_interval") key stem
is_near col.Jitter key stem = is_near_timed (codes "jitter") key stem
is_near col.MaxAge key stem = is_near_timed (codes "max_age") key stem || is_near_timed (codes "maximum_age") key stem
is_near col.Timeout key stem = is_near_timed (codes "timeout") key stem
is_near col.Steps key stem = is_one_off (codes "steps") key
is_near col.Within key stem = is_near_timed (codes "within") key stem

-- a name of a time that a sheet need not have, whatever follows it: with one of its units it is a title
abbrev pub is_unitless : Column → (key : List ℕ) → Bool
is_unitless col.Jitter key = begins_with (codes "jitter") key
is_unitless col.MaxAge key = begins_with (codes "max_age") key || begins_with (codes "maximum_age") key
is_unitless col.Timeout key = begins_with (codes "timeout") key
is_unitless col.Within key = begins_with (codes "within") key
is_unitless column key = false

-- a column seems to be meant
abbrev pub is_meant : Column → (key : List ℕ) → Bool
is_meant column key = is_unitless column key || is_near column key (stem_of key)

-- ---- the columns of the two sheets

abbrev pub is_any_of_inputs : (Column → Bool) → Bool
is_any_of_inputs says =
    says col.Bus || says col.Speed || says col.Label || says col.Equipment || says col.Format || says col.Min || says col.Max || says col.Sdi || says col.Jitter
    || says col.Name || says col.Queue || says col.Police || says col.Router || says col.Steps || says col.Within

abbrev pub is_any_of_outputs : (Column → Bool) → Bool
is_any_of_outputs says =
    says col.Output || says col.Speed || says col.Label || says col.Equipment || says col.Sources || says col.Min || says col.Max || says col.Sdi || says col.MaxAge
    || says col.Timeout || says col.Name || says col.Format || says col.Steps || says col.Within

-- a title of the inputs that is read, or by which no column of theirs can be meant
abbrev pub is_clear_input : (key : List ℕ) → Bool
is_clear_input key = is_any_of_inputs (λ column. is_title column key) || not (is_any_of_inputs (λ column. is_meant column key))

-- a title of the outputs that is read, or by which no column of theirs can be meant
abbrev pub is_clear_output : (key : List ℕ) → Bool
is_clear_output key = is_any_of_outputs (λ column. is_title column key) || not (is_any_of_outputs (λ column. is_meant column key))
