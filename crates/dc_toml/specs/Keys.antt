-- What stands at a key: its kind (T05), its range (T06), its spelling (T07), its length (T08), in that order.
use Rattle.std.specs.Prelude.{ℕ, ◌+◌, ◌-◌, ◌*◌, ℤ, pos, negsuc, List, [], ◌∷◌, length, slice_index, codes, Bool, true, ◌&&◌, ◌==◌, nat_le, nat_lt, if◌then◌else◌, Option, Some, None, is_some, option_and_then, option_map, Ok}
use Rattle.std.specs.List.{list_any}
use Rattle.dc_word.specs.Digits.{digit_in}
use Rattle.toml.specs.Data.{Data, Items, no_items, item, Members, no_members, member, same_key, get_member, as_str, as_integer, as_bool, as_array, as_table}
use Rattle.dc_word.specs.declared.format.Format.{Format}
use Rattle.dc_word.specs.declared.format.Format.TheVariants.{Bnr, Bcd, Disc}
use Rattle.dc_document.specs.declared.parts.Speed.{Speed}
use Rattle.dc_document.specs.declared.parts.Speed.TheVariants.{High, Low}
use Rattle.dc_document.specs.declared.fault.TableRule.TheVariants.{KeyAbsent, KeyUnknown, WrongKind, NumberOutOfRange, WrongSpelling, CountOutOfRange}
use Rattle.dc_document.specs.Names.{name_of}
use Rattle.dc_toml.specs.declared.place.TablePlace.{TablePlace}
use Rattle.dc_toml.specs.Faults.{Reading, refused, ◌>>=◌, wanted, found}
use Rattle.dc_document.specs.declared.limits.TheConstants.{LAST_OFFSET}

-- ---- tables and their keys

-- each key of the table is one of these
abbrev pub only_keys : List (List ℕ) → Members → Bool
only_keys keys no_members = true
only_keys keys (member k d ms) = list_any (same_key k) keys && only_keys keys ms

-- each of these keys is in the table
abbrev pub all_keys : List (List ℕ) → Members → Bool
all_keys [] ms = true
all_keys (k ∷ ks) ms = is_some (get_member k ms) && all_keys ks ms

-- the members of a value that is a table, else T05
abbrev pub table_of : TablePlace → Data → Reading Members
table_of p d = found p WrongKind (as_table d)

-- no key is unknown, else T04
abbrev pub known : TablePlace → List (List ℕ) → Members → Reading (Unit {0})
known p keys ms = wanted p KeyUnknown (only_keys keys ms)

-- none is absent, else T03
abbrev pub present : TablePlace → List (List ℕ) → Members → Reading (Unit {0})
present p keys ms = wanted p KeyAbsent (all_keys keys ms)

-- both of these
abbrev pub keyed : TablePlace → List (List ℕ) → Members → Reading (Unit {0})
keyed p keys ms = known p keys ms >>= (λ k. present p keys ms)

-- ---- numbers

-- a whole number, else T05, from low to high, else T06
abbrev pub number_in : TablePlace → (low high : ℕ) → Option ℤ → Reading ℕ
number_in p low high None = refused p WrongKind
number_in p low high (Some (negsuc n)) = refused p NumberOutOfRange
number_in p low high (Some (pos n)) = if nat_le low n && nat_le n high then Ok n else refused p NumberOutOfRange

-- the number at a key
abbrev pub number_at : TablePlace → List ℕ → (low high : ℕ) → Members → Reading ℕ
number_at p key low high ms = number_in p low high (option_and_then as_integer (get_member key ms))

-- true or false
abbrev pub bool_at : TablePlace → List ℕ → Members → Reading Bool
bool_at p key ms = found p WrongKind (option_and_then as_bool (get_member key ms))

-- ---- texts

-- the text at a key, else T05
abbrev pub text_at : TablePlace → List ℕ → Members → Reading (List ℕ)
text_at p key ms = found p WrongKind (option_and_then as_str (get_member key ms))

-- the name at a key, else T07
abbrev pub name_at : TablePlace → List ℕ → Members → Reading (List ℕ)
name_at p key ms = text_at p key ms >>= (λ s. found p WrongSpelling (name_of s))

-- the speed that a text writes: `high` or `low`
abbrev pub speed_of : List ℕ → Option Speed
speed_of s = if same_key s (codes "high") then Some High else if same_key s (codes "low") then Some Low else None

-- the speed at a key, else T07
abbrev pub speed_at : TablePlace → List ℕ → Members → Reading Speed
speed_at p key ms = text_at p key ms >>= (λ s. found p WrongSpelling (speed_of s))

-- the format that a text writes: `bnr`, `bcd` or `disc`
abbrev pub format_of : List ℕ → Option Format
format_of s = if same_key s (codes "bnr") then Some Bnr else if same_key s (codes "bcd") then Some Bcd else if same_key s (codes "disc") then Some Disc else None

-- the format at a key, else T07
abbrev pub format_at : TablePlace → List ℕ → Members → Reading Format
format_at p key ms = text_at p key ms >>= (λ s. found p WrongSpelling (format_of s))

-- three digits, the first of highest value
abbrev pub three_digits : (base : ℕ) → List ℕ → Option (ℕ × ℕ × ℕ)
three_digits base s =
    if length s == 3 then option_and_then (λ h. option_and_then (λ m. option_map (λ l. (h, m, l)) (digit_in base (slice_index s 2))) (digit_in base (slice_index s 1))) (digit_in base (slice_index s 0)) else None

-- a label, 001 to 377 in octal digits
abbrev pub label_in : ℕ → Option ℕ
label_in n = if nat_le 1 n && nat_le n 255 then Some n else None

-- the label that three octal digits write
abbrev pub label_of : List ℕ → Option ℕ
label_of s = option_and_then (λ d. label_in (64 * d.0 + 8 * d.1 + d.2)) (three_digits 8 s)

-- the label at a key, else T07
abbrev pub label_at : TablePlace → List ℕ → Members → Reading ℕ
label_at p key ms = text_at p key ms >>= (λ s. found p WrongSpelling (label_of s))

-- an equipment code, three hexadecimal digits
abbrev pub equipment_of : List ℕ → Option ℕ
equipment_of s = option_map (λ d. 256 * d.0 + 16 * d.1 + d.2) (three_digits 16 s)

-- the equipment code at a key, else T07
abbrev pub equipment_at : TablePlace → List ℕ → Members → Reading ℕ
equipment_at p key ms = text_at p key ms >>= (λ s. found p WrongSpelling (equipment_of s))

-- ---- the SDI of a label, and that of a stream, which may be "any"

-- the SDI of a label: 0 to 3
abbrev pub sdi_at : TablePlace → List ℕ → Members → Reading ℕ
sdi_at p key ms = number_at p key 0 3 ms

-- none for the text `any`, T07 for another text, and else the number
abbrev pub any_or : TablePlace → Option (List ℕ) → Reading ℕ → Reading (Option ℕ)
any_or p (Some s) number = if same_key s (codes "any") then Ok None else refused p WrongSpelling
any_or p None number = number >>= (λ n. Ok (Some n))

-- the SDI of a stream: 0 to 3, or none for `any`
abbrev pub stream_sdi_at : TablePlace → List ℕ → Members → Reading (Option ℕ)
stream_sdi_at p key ms = any_or p (option_and_then as_str (get_member key ms)) (sdi_at p key ms)

-- ---- lists

-- how many items a list has
abbrev pub items_len : Items → ℕ
items_len no_items = 0
items_len (item d ds) = 1 + items_len ds

-- each item is of a kind
abbrev pub all_items : (Data → Bool) → Items → Bool
all_items kind no_items = true
all_items kind (item d ds) = kind d && all_items kind ds

-- each item in order, up to the first fault
abbrev pub each_item : {A : Type 0} → (Data → Reading A) → Items → Reading (List A)
each_item one no_items = Ok []
each_item one (item d ds) = one d >>= (λ x. each_item one ds >>= (λ xs. Ok (x ∷ xs)))

-- the list at a key, else T05
abbrev pub array_at : TablePlace → List ℕ → Members → Reading Items
array_at p key ms = found p WrongKind (option_and_then as_array (get_member key ms))

-- a length within its limits
abbrev pub counted : TablePlace → (low high : ℕ) → Items → Reading (Unit {0})
counted p low high ds = wanted p CountOutOfRange (nat_le low (items_len ds) && nat_le (items_len ds) high)

-- whether an item is a text
abbrev pub is_text : Data → Bool
is_text d = is_some (as_str d)

-- whether an item is a whole number
abbrev pub is_number : Data → Bool
is_number d = is_some (as_integer d)

-- the name that an item is, else T07
abbrev pub name_item : TablePlace → Data → Reading (List ℕ)
name_item p d = found p WrongSpelling (option_and_then name_of (as_str d))

-- the number from low to high that an item is
abbrev pub number_item : TablePlace → (low high : ℕ) → Data → Reading ℕ
number_item p low high d = number_in p low high (as_integer d)

-- a list of names
unfoldable pub names_at : TablePlace → List ℕ → (low high : ℕ) → Members → Reading (List (List ℕ))
names_at p key low high ms = do
  ds ← array_at p key ms
  kinds ← wanted p WrongKind (all_items is_text ds)
  names ← each_item (name_item p) ds
  length ← counted p low high ds
  Ok names

-- a list of offsets
unfoldable pub offsets_at : TablePlace → List ℕ → (low high : ℕ) → Members → Reading (List ℕ)
offsets_at p key low high ms = do
  ds ← array_at p key ms
  kinds ← wanted p WrongKind (all_items is_number ds)
  offsets ← each_item (number_item p 0 LAST_OFFSET) ds
  length ← counted p low high ds
  Ok offsets

-- a list of tables, before its members are looked at
unfoldable pub tables_at : TablePlace → List ℕ → (low high : ℕ) → Members → Reading Items
tables_at p key low high ms = do
  ds ← array_at p key ms
  length ← counted p low high ds
  Ok ds

-- one that may be absent
abbrev pub if_there : Option Data → Reading Items → Reading Items
if_there None reading = Ok no_items
if_there (Some d) reading = reading

-- a list of at most so many tables, empty where its key is absent
abbrev pub optional_at : TablePlace → List ℕ → (high : ℕ) → Members → Reading Items
optional_at p key high ms = if_there (get_member key ms) (tables_at p key 0 high ms)
