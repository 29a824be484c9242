-- The code of a condition, as it is printed.
use Rattle.std.specs.Prelude.{ℕ, List, codes}
use Rattle.dc_check.specs.declared.fault.Condition.{Condition}
use Rattle.dc_check.specs.declared.fault.Condition.TheVariants.{NamesDiffer, WindowOutOfRange, WindowDoesNotClose, BacklogTooSmall, QueueTooShort, DelayTooSmall, DelayOutOfRange, SentTooSoon, SentTooLate, AgeTooSmall, AgeOverLimit, SourceGoesStale}

-- the code of a condition: C01 to C12
abbrev pub condition_code : Condition → List ℕ
condition_code NamesDiffer = codes "C01"
condition_code WindowOutOfRange = codes "C02"
condition_code WindowDoesNotClose = codes "C03"
condition_code BacklogTooSmall = codes "C04"
condition_code QueueTooShort = codes "C05"
condition_code DelayTooSmall = codes "C06"
condition_code DelayOutOfRange = codes "C07"
condition_code SentTooSoon = codes "C08"
condition_code SentTooLate = codes "C09"
condition_code AgeTooSmall = codes "C10"
condition_code AgeOverLimit = codes "C11"
condition_code SourceGoesStale = codes "C12"
