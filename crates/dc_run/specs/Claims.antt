-- The line of what is claimed of a run.
use Rattle.std.specs.Prelude.{ℕ, Option, Some, None, List, ◌++◌, codes, decimal}
use Rattle.dc_event.specs.ClaimNumber.{claim_number}
use Rattle.dc_event.specs.declared.event.Claim.{Claim}

-- as `claims hold` or `claim 4 fails at 21`
abbrev pub claims_text : Option (Claim × ℕ) → List ℕ
claims_text None = codes "claims hold"
claims_text (Some failure) = codes "claim " ++ decimal (claim_number failure.0) ++ codes " fails at " ++ decimal failure.1
