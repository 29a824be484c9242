-- What the sign/status matrix says (ARINC Specification 429 Part 1, 2.1.5).
use Rattle.std.specs.Prelude.{ℕ, Bool, ◌==◌, ◌||◌, if◌then◌else◌}
use Rattle.dc_word.specs.Word.{ssm_of}
use Rattle.dc_word.specs.declared.format.Format.{Format}
use Rattle.dc_word.specs.declared.format.Format.TheVariants.{Bnr, Bcd, Disc}
use Rattle.dc_word.specs.declared.format.Status.{Status}
use Rattle.dc_word.specs.declared.format.Status.TheVariants.{FailureWarning, NoComputedData, FunctionalTest, Normal, Plus, Minus, Verified}

-- the meaning of the bits 31 and 30 where both are 0
abbrev pub status_of_00 : Format → Status
status_of_00 Bnr = FailureWarning
status_of_00 Bcd = Plus
status_of_00 Disc = Verified

-- the meaning of the bits 31 and 30 where both are 1
abbrev pub status_of_11 : Format → Status
status_of_11 Bnr = Normal
status_of_11 Bcd = Minus
status_of_11 Disc = FailureWarning

-- what an SSM says of data in a format
abbrev pub status_of : Format → ℕ → Status
status_of format ssm =
    if ssm == 0 then status_of_00 format
    else if ssm == 1 then NoComputedData
    else if ssm == 2 then FunctionalTest
    else status_of_11 format

-- whether data in a format may be used under this SSM: BNR 11, BCD 00 and 11, discrete 00. That functional test, 10, is not usable is this
-- project's profile
abbrev pub is_usable_ssm : Format → ℕ → Bool
is_usable_ssm Bnr ssm = ssm == 3
is_usable_ssm Bcd ssm = ssm == 0 || ssm == 3
is_usable_ssm Disc ssm = ssm == 0

-- whether a word may be used in a format
abbrev pub is_usable : Format → ℕ → Bool
is_usable format w = is_usable_ssm format (ssm_of w)
