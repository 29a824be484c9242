-- Which kind of line fields are: the kind, a name, and then the words of that kind, each with a number behind it.
use Rattle.std.specs.Prelude.{ℕ, ◌+◌, ◌*◌, ◌==◌, ◌&&◌, Bool, true, if◌then◌else◌, List, [], ◌∷◌, length, slice_index_or, codes, Result, Ok, Err}
use Rattle.std.specs.Str.{bytes_eq}
use Rattle.dc_seen.specs.declared.fault.SeenRule.{SeenRule}
use Rattle.dc_seen.specs.declared.fault.SeenRule.TheVariants.{FieldsWrong, KindUnknown, NotNext}
use Rattle.dc_seen.specs.declared.kind.Kind.{Kind}
use Rattle.dc_seen.specs.declared.kind.Kind.TheVariants.{Input, Output, Label}

-- ---- fields

-- the field of this number, from 0; an empty one past the last
abbrev pub field : List (List ℕ) → ℕ → List ℕ
field fields k = slice_index_or fields k []

-- whether it is this word
abbrev pub is_word : List (List ℕ) → ℕ → List ℕ → Bool
is_word fields k word = bytes_eq (field fields k) word

-- 1 for a space, 0 for each other byte
abbrev pub spaces : ℕ → ℕ
spaces c = if c == 32 then 1 else 0

-- ---- the words of each kind

abbrev pub input_words : List (List ℕ)
input_words = codes "backlog" ∷ codes "of" ∷ codes "wait" ∷ codes "of" ∷ []

abbrev pub output_words : List (List ℕ)
output_words = codes "late" ∷ codes "of" ∷ []

abbrev pub label_words : List (List ℕ)
label_words = codes "sent" ∷ codes "fallback" ∷ codes "age" ∷ codes "of" ∷ codes "least" ∷ codes "of" ∷ codes "greatest" ∷ codes "of" ∷ []

-- ---- forms

-- every other field from this one on is one of these words
abbrev pub are_words : List (List ℕ) → ℕ → List (List ℕ) → Bool
are_words fields k [] = true
are_words fields k (word ∷ words) = is_word fields k word && are_words fields (k + 2) words

-- two fields, and these words with a field behind each
unfoldable pub has_form : List (List ℕ) → List (List ℕ) → Bool
has_form fields words = (length fields == 2 + 2 * length words) && are_words fields 2 words

-- a kind, where the fields have its form
abbrev pub formed : Kind → Bool → Result Kind SeenRule
formed kind well = if well then Ok kind else Err FieldsWrong

-- the kind that the first field names, where the others are those of that kind
unfoldable pub kind_of : List (List ℕ) → Result Kind SeenRule
kind_of fields =
    if is_word fields 0 (codes "input") then formed Input (has_form fields input_words)
    else if is_word fields 0 (codes "output") then formed Output (has_form fields output_words)
    else if is_word fields 0 (codes "label") then formed Label (has_form fields label_words)
    else Err KindUnknown

-- the rule that is broken where no line of the kind is next
abbrev pub surplus : Result Kind SeenRule → SeenRule
surplus (Ok kind) = NotNext
surplus (Err rule) = rule
