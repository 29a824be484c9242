-- The printed line of a word.
use Rattle.std.specs.Prelude.{ℕ, List, [], ◌∷◌, ◌++◌, Result, Ok, Err, Bool, true, false, codes}
use Rattle.std.specs.Fmt.{signed_decimal}
use Rattle.dc_word.specs.declared.format.Format.{Format}
use Rattle.dc_word.specs.declared.format.Format.TheVariants.{Bnr, Bcd, Disc}
use Rattle.dc_word.specs.declared.format.Status.{Status}
use Rattle.dc_word.specs.declared.format.Status.TheVariants.{FailureWarning, NoComputedData, FunctionalTest, Normal, Plus, Minus, Verified}
use Rattle.dc_word.specs.declared.word.DigitPlace.{DigitPlace}
use Rattle.dc_word.specs.Bcd.{bcd_of, number_of}
use Rattle.dc_word.specs.Format.{status_of}
use Rattle.dc_word.specs.Word.{bnr_of, data_of, is_odd, label_of, sdi_of, ssm_of}
use Rattle.dc_print.specs.Text.{five_decimal, five_hex, three_octal}
use Rattle.dc_event.specs.WordText.{digit, eight_hex}

-- the five digits of a decimal word, or its first place above 9
abbrev pub bcd_text : Result ℕ DigitPlace → List ℕ
bcd_text (Ok n) = five_decimal n
bcd_text (Err place) = codes "bad" ++ digit (number_of place) ∷ []

-- the data of a word, read by the format
abbrev pub data_text : Format → ℕ → List ℕ
data_text Bnr w = signed_decimal (bnr_of w)
data_text Bcd w = bcd_text (bcd_of w)
data_text Disc w = five_hex (data_of w)

-- what the SSM says
abbrev pub status_text : Status → List ℕ
status_text FailureWarning = codes "failure_warning"
status_text NoComputedData = codes "no_computed_data"
status_text FunctionalTest = codes "functional_test"
status_text Normal = codes "normal"
status_text Plus = codes "plus"
status_text Minus = codes "minus"
status_text Verified = codes "verified"

-- the parity of the whole word
abbrev pub parity_text : Bool → List ℕ
parity_text true = codes "odd"
parity_text false = codes "even"

-- the line of a word in a format
unfoldable pub line_of : Format → ℕ → List ℕ
line_of format w =
    eight_hex w ++ codes " label=" ++ three_octal (label_of w) ++ codes " sdi=" ++ digit (sdi_of w) ∷ [] ++ codes " data="
    ++ data_text format w ++ codes " status=" ++ status_text (status_of format (ssm_of w)) ++ codes " parity="
    ++ parity_text (is_odd w)
