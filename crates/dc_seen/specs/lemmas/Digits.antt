-- The digits of a number are read as that number.
use Rattle.std.proofs.Common.{◌≡◌, ℕ, ◌<◌, ◌^◌, ◌&&◌, List, Some, None, nat_lt, decimal, ap, ◌∙◌}
use Rattle.std.proofs.lemmas.Bool.{and_from, cond-true, lt-ltb}
use Rattle.std.proofs.lemmas.Fmt.{digits_value-decimal}
use Rattle.std.proofs.lemmas.Slice.Eq.{bytes_eq-Decides}
use Rattle.std.proofs.lemmas.Str.Parse.{IsNumeralModel, numerals_by_value, tells_digits}
use Rattle.std.specs.Str.Parse.{AllDigits, digits_value}
use Rattle.dc_seen.specs.Numbers.{is_decimal, number_if, number_of}

pub own : IsNumeralModel (AllDigits 10) (digits_value 10)
own = numerals_by_value (AllDigits 10) tells_digits

if_printed : (text : List ℕ) (n : ℕ) → n < 2 ^ 64 → text ≡ decimal n → number_if text n ≡ Some n
if_printed text n small is =
    cond-true (nat_lt n (2 ^ 64) && is_decimal text n) (Some n) None (and_from (nat_lt n (2 ^ 64)) (is_decimal text n) (lt-ltb n (2 ^ 64) small) ((bytes_eq-Decides text (decimal n)).1 is))

-- the digits of a number are read as that number
pub number_is : (text : List ℕ) (n : ℕ) → n < 2 ^ 64 → text ≡ decimal n → number_of text ≡ Some n
unfolding number_of
number_is text n small is =
    let worth : digits_value 10 text ≡ n = ap (digits_value 10) is ∙ digits_value-decimal own n small in
    ap (number_if text) worth ∙ if_printed text n small is
