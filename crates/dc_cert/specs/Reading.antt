-- What a certificate's text says, or its first fault: key by key, in the order in which they are looked at.
use Rattle.std.specs.Prelude.{ℕ, ◌+◌, List, [], ◌∷◌, length, codes, Bool, true, false, not, ◌&&◌, ◌==◌, nat_le, if◌then◌else◌, Option, Some, None, is_some, option_and_then, Result, Ok, Err}
use Rattle.std.specs.List.{list_any}
use Rattle.std.specs.Str.{is_utf8}
use Rattle.std.specs.Ordering.{nat_cmp, is_eq}
use Rattle.std.specs.Cmp.Lexicographic.{slice_cmp}
use Rattle.serde_json.specs.Data.{Data, Items, no_items, item, Members, no_members, member}
use Rattle.serde_json.specs.Read.{read}
use Rattle.serde_json.specs.Find.{get_member, as_object, as_array, as_str, as_number, as_u64}
use Rattle.serde_json.specs.Events.{items_len}
use Rattle.dc_cert.specs.declared.fault.CertRule.{CertRule}
use Rattle.dc_cert.specs.declared.fault.CertRule.TheVariants.{NotJson, VersionUnknown, KeyAbsent, KeyUnknown, WrongKind, ListOrNameOutOfBounds}
use Rattle.dc_cert.specs.declared.fault.TextPlace.{TextPlace}
use Rattle.dc_cert.specs.declared.fault.TextPlace.TheVariants.{Top, Inputs, Outputs, Labels}
use Rattle.dc_cert.specs.declared.fault.Fault.{Fault}
use Rattle.dc_cert.specs.NamedRows.{NamedInput, NamedOutput, NamedLabel, NamedRows}
use Rattle.dc_cert.specs.declared.read.TheConstants.{LIST_LIMIT}
use Rattle.dc_cert.specs.declared.keys.TheConstants.{GREATEST_NUMBER}
use Rattle.dc_document.specs.Names.{is_spelled}
use Rattle.dc_document.specs.declared.limits.TheConstants.{TEXT_LIMIT}

-- ---- a value or a fault, and the steps that were good so far

-- what was read, or the first fault
abbrev pub Reading : Type 0 → Type 0
Reading A = Result A Fault

-- nothing is read: this rule is broken at this place
abbrev pub refused : {A : Type 0} → CertRule → TextPlace → Reading A
refused rule place = Err (record { rule = rule; place = place })

-- goes on where nothing was refused
infixl 10 ◌>>=◌
abbrev pub ◌>>=◌ : {A B : Type 0} → Reading A → (A → Reading B) → Reading B
(Ok x) >>= rest = rest x
(Err fault) >>= rest = Err fault

-- goes on where the test holds
abbrev pub wanted : Bool → CertRule → TextPlace → Reading (Unit {0})
wanted true rule place = Ok tt
wanted false rule place = refused rule place

-- what is there, or a fault
abbrev pub found : {A : Type 0} → Option A → CertRule → TextPlace → Reading A
found (Some x) rule place = Ok x
found None rule place = refused rule place

-- ---- objects and their keys

-- whether two keys are the same
abbrev pub same_key : List ℕ → List ℕ → Bool
same_key k l = is_eq (slice_cmp nat_cmp k l)

-- each key of the object is one of these
abbrev pub only_keys : List (List ℕ) → Members → Bool
only_keys keys no_members = true
only_keys keys (member k d ms) = list_any (same_key k) keys && only_keys keys ms

-- each of these keys is in the object
abbrev pub all_keys : List (List ℕ) → Members → Bool
all_keys [] ms = true
all_keys (k ∷ ks) ms = is_some (get_member k ms) && all_keys ks ms

-- the members of a value that is an object, else K5
abbrev pub object_of : TextPlace → Data → Reading Members
object_of place d = found (as_object d) WrongKind place

-- no key is unknown, else K4; none is absent, else K3
abbrev pub shape_of : TextPlace → List (List ℕ) → Members → Reading (Unit {0})
shape_of place keys ms = if not (only_keys keys ms) then refused KeyUnknown place else wanted (all_keys keys ms) KeyAbsent place

-- ---- the kinds of values

-- a whole number up to the greatest, else K5
abbrev pub number_in : TextPlace → Option ℕ → Reading ℕ
number_in place None = refused WrongKind place
number_in place (Some n) = if nat_le n GREATEST_NUMBER then Ok n else refused WrongKind place

-- the number at a key
abbrev pub number_at : TextPlace → List ℕ → Members → Reading ℕ
number_at place key ms = number_in place (option_and_then as_u64 (option_and_then as_number (get_member key ms)))

-- a text, else K5, in the spelling of names, else K6
abbrev pub name_in : TextPlace → Option (List ℕ) → Reading (List ℕ)
name_in place None = refused WrongKind place
name_in place (Some s) = if is_spelled s then Ok s else refused ListOrNameOutOfBounds place

-- the name at a key
abbrev pub name_at : TextPlace → List ℕ → Members → Reading (List ℕ)
name_at place key ms = name_in place (option_and_then as_str (get_member key ms))

-- a list, else K5, within its limit, else K6; both at the top
abbrev pub list_in : Option Items → Reading Items
list_in None = refused WrongKind Top
list_in (Some ds) = if nat_le (items_len ds) LIST_LIMIT then Ok ds else refused ListOrNameOutOfBounds Top

-- the list at a key of the top
abbrev pub list_at : List ℕ → Members → Reading Items
list_at key ms = list_in (option_and_then as_array (get_member key ms))

-- ---- the rows

-- the keys of an input
abbrev pub input_keys : List (List ℕ)
input_keys = codes "bus" ∷ codes "window" ∷ codes "backlog" ∷ codes "delay" ∷ []

-- the claim for the input with this index
unfoldable pub input_of : ℕ → Data → Reading NamedInput
input_of i d = do
  ms ← object_of (Inputs i) d
  shape ← shape_of (Inputs i) input_keys ms
  bus ← name_at (Inputs i) (codes "bus") ms
  window ← number_at (Inputs i) (codes "window") ms
  backlog ← number_at (Inputs i) (codes "backlog") ms
  delay ← number_at (Inputs i) (codes "delay") ms
  Ok (record { bus = bus; window = window; backlog = backlog; delay = delay })

-- the keys of an output
abbrev pub output_keys : List (List ℕ)
output_keys = codes "output" ∷ codes "window" ∷ codes "delay" ∷ []

-- the claim for the output with this index
unfoldable pub output_of : ℕ → Data → Reading NamedOutput
output_of i d = do
  ms ← object_of (Outputs i) d
  shape ← shape_of (Outputs i) output_keys ms
  output ← name_at (Outputs i) (codes "output") ms
  window ← number_at (Outputs i) (codes "window") ms
  delay ← number_at (Outputs i) (codes "delay") ms
  Ok (record { output = output; window = window; delay = delay })

-- the keys of a label
abbrev pub label_keys : List (List ℕ)
label_keys = codes "label" ∷ codes "age" ∷ []

-- the claim for the label with this index
unfoldable pub label_of : ℕ → Data → Reading NamedLabel
label_of i d = do
  ms ← object_of (Labels i) d
  shape ← shape_of (Labels i) label_keys ms
  label ← name_at (Labels i) (codes "label") ms
  age ← number_at (Labels i) (codes "age") ms
  Ok (record { label = label; age = age })

-- each member of a list in order, numbered from n, up to the first fault
abbrev pub rows_of : {A : Type 0} → (ℕ → Data → Reading A) → ℕ → Items → Reading (List A)
rows_of row n no_items = Ok []
rows_of row n (item d ds) = row n d >>= (λ x. rows_of row (n + 1) ds >>= (λ xs. Ok (x ∷ xs)))

-- ---- the whole text

-- the keys of the top
abbrev pub top_keys : List (List ℕ)
top_keys = codes "version" ∷ codes "inputs" ∷ codes "outputs" ∷ codes "labels" ∷ []

-- whether a number is there, and is 1
abbrev pub is_one : Option ℕ → Bool
is_one None = false
is_one (Some n) = n == 1

-- the number 1 at `version`, else K2
abbrev pub version_of : Members → Reading (Unit {0})
version_of ms = wanted (is_one (option_and_then as_u64 (option_and_then as_number (get_member (codes "version") ms)))) VersionUnknown Top

-- the certificate that a JSON value is
unfoldable pub claims_in : Data → Reading NamedRows
claims_in d = do
  ms ← object_of Top d
  version ← version_of ms
  shape ← shape_of Top top_keys ms
  inputs ← list_at (codes "inputs") ms
  outputs ← list_at (codes "outputs") ms
  labels ← list_at (codes "labels") ms
  input_claims ← rows_of input_of 0 inputs
  output_claims ← rows_of output_of 0 outputs
  label_claims ← rows_of label_of 0 labels
  Ok (record { inputs = input_claims; outputs = output_claims; labels = label_claims })

-- the JSON value that a text is: within its limit, in UTF-8, by the reading of `serde_json`, else K1
unfoldable pub document_of : List ℕ → Reading Data
document_of text = if nat_le (length text) TEXT_LIMIT && is_utf8 text then found (read text) NotJson Top else refused NotJson Top

-- the certificate of a text
abbrev pub certificate_of : List ℕ → Reading NamedRows
certificate_of text = document_of text >>= claims_in
