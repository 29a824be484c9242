use Rattle.std.proofs.Common.{◌<◌, ◌^◌, drop}
use Rattle.std.specs.Str.Parse.{AllDigits, digits_value}
use Rattle.dc_seen.proofs.Decimals.{IsWorth}
use Rattle.dc_seen.proofs.number.worth.Given as goal

abbrev pub invariant-loop-c : goal.invariant-loop-c
invariant-loop-c l = AllDigits 10 l.text → digits_value 10 l.text < 2 ^ 64 → IsWorth l.number (drop l.c-index l.text) (digits_value 10 l.text)
