-- Names. A name is kept in as many bytes as the longest has: its characters, and zeros after them.
use Rattle.std.specs.Prelude.{◌≡◌, ℕ, ◌-◌, ◌≤◌, Bool, ◌||◌, ◌&&◌, ◌==◌, nat_le, List, ◌++◌, length, take_while, replicate, IsTrue, if◌then◌else◌, Option, Some, None, position}
use Rattle.std.specs.List.{list_all}
use Rattle.std.specs.Str.{bytes_eq}
use Rattle.dc_document.specs.declared.limits.TheConstants.{NAME_LIMIT}

-- a letter, a digit, an underscore or a dash
abbrev pub is_name_byte : ℕ → Bool
is_name_byte c =
    (nat_le 65 c && nat_le c 90) || (nat_le 97 c && nat_le c 122) || (nat_le 48 c && nat_le c 57) || c == 95 || c == 45

-- a text that is a name: one or more of these, at most as many as the longest name has
pub record IsSpelled (text : List ℕ) : Type 0 where
  pub some : 1 ≤ length text
  pub most : length text ≤ NAME_LIMIT
  pub each : IsTrue (list_all is_name_byte text)

-- the same as a test
abbrev pub is_spelled : List ℕ → Bool
is_spelled text = nat_le 1 (length text) && nat_le (length text) NAME_LIMIT && list_all is_name_byte text

-- the bytes of a text, with zeros after them
abbrev pub padded : List ℕ → List ℕ
padded text = text ++ replicate (NAME_LIMIT - length text) 0

-- the text of a name
abbrev pub text_of : List ℕ → List ℕ
text_of name = take_while is_name_byte name

-- bytes that are a name
pub record IsName (name : List ℕ) : Type 0 where
  pub spelled : IsSpelled (text_of name)
  pub rest : name ≡ padded (text_of name)

-- the name with this text, if it is spelled as one
abbrev pub name_of : List ℕ → Option (List ℕ)
name_of text = if is_spelled text then Some (padded text) else None

-- the number of this name among these
abbrev pub number_of : List (List ℕ) → List ℕ → Option ℕ
number_of names name = position (bytes_eq name) names
