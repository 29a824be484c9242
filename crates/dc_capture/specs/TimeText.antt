-- A time as decimal digits.
use Rattle.std.specs.Prelude.{ℕ, ◌+◌, ◌*◌, ◌==◌, nat_lt, if◌then◌else◌, Option, Some, None, option_and_then, List, [], ◌∷◌, length}
use Rattle.dc_word.specs.Digits.{digit_in}
use Rattle.dc_capture.specs.declared.time.TheConstants.{LAST_TIME}

-- the number that decimal digits write, after n
abbrev pub decimal_behind : ℕ → List ℕ → Option ℕ
decimal_behind n [] = Some n
decimal_behind n (c ∷ cs) = option_and_then (λ d. decimal_behind (n * 10 + d) cs) (digit_in 10 c)

-- a time that is no later than the last
abbrev pub up_to_last : ℕ → Option ℕ
up_to_last time = if nat_lt LAST_TIME time then None else Some time

-- the time that a text of one or more digits writes
unfoldable pub time_of : List ℕ → Option ℕ
time_of text = if length text == 0 then None else option_and_then (λ time. up_to_last time) (decimal_behind 0 text)
