-- The words of a capture, each as (time, (bus, word)), in order; a word's line is its place, from 1.
use Rattle.std.specs.Prelude.{ℕ, suc, Bool, false, cond, ◌==◌, ◌&&◌, not, is_some, Option, Some, None, List, [], ◌∷◌}
use Rattle.dc_word.specs.Word.{is_odd}
use Rattle.dc_tables.specs.Declares.{stream_of}
use Rattle.dc_tables.specs.TableRows.{TableRows}

-- those that pass a test, as (time, line), where the first is of this line
unfoldable pub picked_from : (ℕ × (ℕ × ℕ) → Bool) → ℕ → List (ℕ × (ℕ × ℕ)) → List (ℕ × ℕ)
picked_from p line [] = []
picked_from p line (x ∷ xs) = cond (p x) ((x.0, line) ∷ picked_from p (suc line) xs) (picked_from p (suc line) xs)

-- lines are counted from 1
abbrev pub picked : (ℕ × (ℕ × ℕ) → Bool) → List (ℕ × (ℕ × ℕ)) → List (ℕ × ℕ)
picked p capture = picked_from p 1 capture

-- the stream to which a word is offered: it is odd, and a stream of its bus declares it
abbrev pub offered_stream : TableRows → ℕ × (ℕ × ℕ) → Option ℕ
offered_stream t x = cond (is_odd x.1.1) (stream_of t x.1.0 x.1.1) None

-- whether there is a number, and it is s
abbrev pub is_it : ℕ → Option ℕ → Bool
is_it s None = false
is_it s (Some k) = k == s

-- whether the word is offered to the stream
abbrev pub of_stream : TableRows → ℕ → ℕ × (ℕ × ℕ) → Bool
of_stream t s x = is_it s (offered_stream t x)

-- whether it is offered to some stream of the bus
abbrev pub offered_on : TableRows → ℕ → ℕ × (ℕ × ℕ) → Bool
offered_on t b x = (x.1.0 == b) && is_some (offered_stream t x)

-- whether it is an even word of the bus
abbrev pub even_on : ℕ → ℕ × (ℕ × ℕ) → Bool
even_on b x = (x.1.0 == b) && not (is_odd x.1.1)

-- whether it is an odd word of the bus that no stream declares
abbrev pub undeclared_on : TableRows → ℕ → ℕ × (ℕ × ℕ) → Bool
undeclared_on t b x = (x.1.0 == b) && (is_odd x.1.1 && not (is_some (stream_of t x.1.0 x.1.1)))
