-- Words worked out by hand, on which the definitions compute to what the standard says.
use Rattle.std.proofs.Common.{◌≡◌, true, false, pos, negsuc, Ok, Err, refl}
use Rattle.dc_word.specs.Word.{reversed, label_of, ssm_of, ones_in, is_odd, bnr_of, body_of, composed_word, copied_word, fallback_word}
use Rattle.dc_word.specs.Bcd.{bcd_of}
use Rattle.dc_word.specs.Format.{status_of}
use Rattle.dc_word.specs.declared.format.Format.TheVariants.{Bnr, Bcd, Disc}
use Rattle.dc_word.specs.declared.format.Status.TheVariants.{FailureWarning, NoComputedData, Normal, Plus, Minus}
use Rattle.dc_word.specs.declared.word.DigitPlace.TheVariants.{Second, Fifth}

-- labels 203, 204 and 201 octal
label_203 : label_of 0x600000C1 ≡ 131
unfolding reversed
label_203 = refl

label_204 : label_of 0xE0000021 ≡ 132
unfolding reversed
label_204 = refl

label_201 : label_of 0x048D1481 ≡ 129
unfolding reversed
label_201 = refl

-- the ones of each word, and so its parity
ones_of_normal_zero : ones_in 32 0x600000C1 ≡ 5
unfolding ones_in
ones_of_normal_zero = refl

ones_of_minus_one : ones_in 32 0xFFFFFCC1 ≡ 25
unfolding ones_in
ones_of_minus_one = refl

ones_of_minus : ones_in 32 0x648D1481 ≡ 11
unfolding ones_in
ones_of_minus = refl

even_is_refused : is_odd 0x200000C1 ≡ false
unfolding is_odd ones_in
even_is_refused = refl

odd_is_not : is_odd 0xA00000C1 ≡ true
unfolding is_odd ones_in
odd_is_not = refl

-- the statuses
bnr_normal : status_of Bnr (ssm_of 0x600000C1) ≡ Normal
bnr_normal = refl

bcd_plus : status_of Bcd (ssm_of 0x048D1481) ≡ Plus
bcd_plus = refl

bcd_minus : status_of Bcd (ssm_of 0x648D1481) ≡ Minus
bcd_minus = refl

disc_failure : status_of Disc (ssm_of 0x600000C1) ≡ FailureWarning
disc_failure = refl

nothing_computed : status_of Bnr (ssm_of 0xA00000C1) ≡ NoComputedData
nothing_computed = refl

-- BNR
bnr_zero : bnr_of 0x600000C1 ≡ pos 0
unfolding bnr_of
bnr_zero = refl

bnr_minus_one : bnr_of 0xFFFFFCC1 ≡ negsuc 0
unfolding bnr_of
bnr_minus_one = refl

bnr_least : bnr_of 0xF00000C1 ≡ negsuc 262143
unfolding bnr_of
bnr_least = refl

bnr_greatest : bnr_of 0x0FFFFC00 ≡ pos 262143
unfolding bnr_of
bnr_greatest = refl

-- BCD
bcd_12345 : bcd_of 0x048D1481 ≡ Ok 12345
unfolding bcd_of
bcd_12345 = refl

bcd_place_five : bcd_of 0x048D2881 ≡ Err Fifth
unfolding bcd_of
bcd_place_five = refl

bcd_first_of_two : bcd_of 0x02802881 ≡ Err Second
unfolding bcd_of
bcd_first_of_two = refl

-- composed words
composed_normal_zero : composed_word 131 0 0 3 ≡ 0x600000C1
unfolding composed_word body_of ones_in reversed
composed_normal_zero = refl

copied_minus_one : copied_word 132 0 0xFFFFFCC1 ≡ 0x7FFFFC21
unfolding copied_word composed_word body_of ones_in reversed
copied_minus_one = refl

fallback_of_203 : fallback_word 131 0 ≡ 0xA00000C1
unfolding fallback_word composed_word body_of ones_in reversed
fallback_of_203 = refl
