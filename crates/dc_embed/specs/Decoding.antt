-- The fields of a word as numbers.
use Rattle.std.specs.Prelude.{◌≡◌, ◌==◌, if◌then◌else◌, ℕ, Bool, true, false, Option, Some, None, Result, Ok, Err}
use Rattle.dc_word.specs.Bcd.{bcd_of, number_of}
use Rattle.dc_word.specs.Format.{status_of, is_usable}
use Rattle.dc_word.specs.Word.{label_of, sdi_of, data_of, ssm_of, is_odd, bnr_of}
use Rattle.dc_word.specs.declared.format.Format.{Format}
use Rattle.dc_word.specs.declared.format.Format.TheVariants.{Bnr, Bcd, Disc}
use Rattle.dc_word.specs.declared.format.Status.{Status}
use Rattle.dc_word.specs.declared.format.Status.TheVariants.{FailureWarning, NoComputedData, FunctionalTest, Normal, Plus, Minus, Verified}
use Rattle.dc_word.specs.declared.word.DigitPlace.{DigitPlace}
use Rattle.dc_embed.specs.declared.fields.Fields.{Fields}

-- the format of this number
abbrev pub format_at : ℕ → Option Format
format_at n =
    if n == 1 then Some Bnr
    else if n == 2 then Some Bcd
    else if n == 3 then Some Disc
    else None

-- the number of a status
abbrev pub status_number : Status → ℕ
status_number FailureWarning = 1
status_number NoComputedData = 2
status_number FunctionalTest = 3
status_number Normal = 4
status_number Plus = 5
status_number Minus = 6
status_number Verified = 7

-- the number that digits write, or 0
abbrev pub digits_of : Result ℕ DigitPlace → ℕ
digits_of (Ok n) = n
digits_of (Err place) = 0

-- the first place that is no digit, or 0
abbrev pub bad_digit_of : Result ℕ DigitPlace → ℕ
bad_digit_of (Ok n) = 0
bad_digit_of (Err place) = number_of place

-- the fields of a word in a format
abbrev pub fields_of : Format → ℕ → Fields
fields_of format w = record {
  label = label_of w;
  sdi = sdi_of w;
  ssm = ssm_of w;
  status = status_number (status_of format (ssm_of w));
  bits = data_of w;
  bnr = bnr_of w;
  bcd = digits_of (bcd_of w);
  bad_digit = bad_digit_of (bcd_of w);
  is_odd = is_odd w;
  is_usable = is_usable format w;
}

-- what is decoded in the format of a number, where there is one
abbrev pub Decodes : ℕ → Option Format → Fields → Fields → Bool → Type 0
Decodes w None old new answer = (new ≡ old) × (answer ≡ false)
Decodes w (Some format) old new answer = (new ≡ fields_of format w) × (answer ≡ true)
