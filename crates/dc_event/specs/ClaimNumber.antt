-- The claims by number.
use Rattle.std.specs.Prelude.{ℕ}
use Rattle.dc_event.specs.declared.event.Claim.{Claim}
use Rattle.dc_event.specs.declared.event.Claim.TheVariants.{NoOverrun, DataAge, LiveSource, Interval}

-- the number of a claim, 1 to 4
abbrev pub claim_number : Claim → ℕ
claim_number NoOverrun = 1
claim_number DataAge = 2
claim_number LiveSource = 3
claim_number Interval = 4
