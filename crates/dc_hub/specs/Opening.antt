-- What is asked where a hub opens.
use Rattle.std.specs.Prelude.{◌≡◌, ℕ, ◌≤◌, Option, Some}
use Rattle.dc_check.specs.Lent.{tables_of}
use Rattle.dc_check.specs.declared.certified.Certified.{Certified}
use Rattle.dc_hub.specs.Closing.{actor_count}
use Rattle.dc_hub.specs.declared.limits.TheConstants.{LONGEST_TRACE}

-- the charter knows the certified tables, the trace limit, which is 1 to the longest, and all parts of the count, of which there is one for each actor
abbrev pub IsCharterOf : Option Certified → (limit whole parts : ℕ) → Certified → (trace_limit : ℕ) → Type 0
IsCharterOf known limit whole parts certified trace_limit =
    (known ≡ Some certified) × (limit ≡ trace_limit) × (whole ≡ parts) × (actor_count (tables_of certified) ≤ parts) × (1 ≤ trace_limit) × (trace_limit ≤ LONGEST_TRACE)
