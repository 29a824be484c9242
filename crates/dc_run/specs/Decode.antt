-- What `decode` writes for a text of words.
use Rattle.std.specs.Prelude.{◌≡◌, ◌≤◌, IfSome, ℕ, ◌+◌, ◌-◌, slice_index_or, take, List, [], ◌∷◌, length, ◌||◌, Bool, nat_lt, if◌then◌else◌, Option, Some, None, codes}
use Rattle.dc_word.specs.declared.format.Format.{Format}
use Rattle.std.specs.Io.KnownBytes.{Appends}
use Rattle.dc_device.specs.Lines.{Held, lines_of, spelled}
use Rattle.dc_event.specs.WordText.{word_of}
use Rattle.dc_event.specs.TraceFaults.{line_rule_code}
use Rattle.dc_event.specs.declared.trace.LineRule.TheVariants.{LineTooLong, NotAWord, LineNotEnded}
use Rattle.dc_run.specs.declared.decode.TheConstants.{STREAM_LIMIT}
use Rattle.dc_answer.specs.Answer.{Answer, after_all, fault, nothing}
use Rattle.dc_print.specs.Words.{line_of}
use Rattle.dc_device.specs.declared.reader.TheConstants.{LINE_LIMIT}

-- the answer to a line with its number, where `rest` answers the lines after it
abbrev pub answer_word : Format → ℕ → Option ℕ → Answer → Answer
answer_word format number None rest = fault (line_rule_code NotAWord) number
answer_word format number (Some w) rest = after_all (line_of format w ∷ []) rest

-- the answer where the text ends after these bytes of a line
abbrev pub answer_end : ℕ → List ℕ → Answer
answer_end number [] = nothing
answer_end number (b ∷ bs) = fault (line_rule_code LineNotEnded) number

-- whether a line or the text is too long with so many bytes of the one and of the other
abbrev pub too_long : ℕ → ℕ → ℕ → Bool
too_long room line text = nat_lt LINE_LIMIT line || nat_lt room text

-- the answer to what stands after the last line feed
abbrev pub answer_rest : ℕ → ℕ → List ℕ → Answer
answer_rest room number rest = if too_long room (length rest) (length rest) then fault (line_rule_code LineTooLong) number else answer_end number rest

-- the answer to lines from a number on, where the text may have so many bytes from there on
abbrev pub answer_lines : Format → ℕ → ℕ → List (List ℕ) → List ℕ → Answer
answer_lines format room number [] rest = answer_rest room number rest
answer_lines format room number (l ∷ ls) rest =
    if too_long room (length l) (length l + 1) then fault (line_rule_code LineTooLong) number
    else answer_word format number (word_of l) (answer_lines format (room - (length l + 1)) (number + 1) ls rest)

-- the answer to a text whose first line has this number, and which may have so many bytes
abbrev pub answer_text : Format → ℕ → ℕ → List ℕ → Answer
answer_text format room number text = answer_lines format room number (lines_of text).0 (lines_of text).1

-- what `decode` writes for a text: within its limit
abbrev pub decode_text : Format → List ℕ → Answer
decode_text format text = answer_text format STREAM_LIMIT 1 text

-- the lines that are due where a text has come up to here: all of its answer but what is said of its end
abbrev pub AreDue : Format → List ℕ → List (List ℕ) → Type 0
AreDue format text lines = (number : ℕ) × (rest : List ℕ) × (decode_text format text ≡ after_all lines (answer_end number rest))

-- What everyone saw when the source of a text was asked for more behind its end: the lines that are due. Any beginning of
-- a text is a text that ends there, so each line is seen before what follows it is asked for.
abbrev pub IsPrompt : Format → List ℕ → Option (List ℕ) → Option (List ℕ) → Type 0
IsPrompt format text old seen = (lines : List (List ℕ)) × AreDue format text lines × IfSome seen (λ bytes. Appends old (Some bytes) (spelled lines))

-- nothing of a line was gathered, and the held bytes begin with this word's eight digits and a line feed
abbrev pub IsAhead : Held → List ℕ → ℕ → Type 0
IsAhead held line word =
    (line ≡ []) × (9 ≤ length held.bytes) × (9 ≤ held.room) × (slice_index_or held.bytes 8 0 ≡ 10) × (word_of (take 8 held.bytes) ≡ Some word)
