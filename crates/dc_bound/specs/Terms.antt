-- What a walk along a sum keeps of its members.
use Rattle.std.specs.Prelude.{◌≡◌, ℕ, ◌/◌, ◌<◌, ◌≤◌, List, length, take, get_or}
use Rattle.std.specs.List.{sum}
use Rattle.dc_bound.specs.Window.{Shown}
use Rattle.dc_bound.specs.declared.limits.TheConstants.{LONGEST_SPAN}
use Rattle.dc_bound.specs.declared.terms.Terms.{Terms}

-- the cap is `count` in each number of ticks from `ticks` on and below `end`
abbrev pub IsTerm : (ℕ → ℕ) → (ticks count end : ℕ) → Type 0
IsTerm f ticks count end = (count ≤ f LONGEST_SPAN) × Shown f ticks end count

-- of each member its count and where it ends, as the quotient of a mark, are kept, beside the sum of the counts
abbrev pub AreKept : {B : Type 0} → (B → ℕ → ℕ) → List B → (ticks total : ℕ) → (counts marks : List ℕ) → Type 0
AreKept {B} cap members ticks total counts marks =
    (length counts ≡ 256) × (length marks ≡ 256) × (total ≡ sum (take (length members) counts))
    × ((i : ℕ) (d : B) → i < length members → IsTerm (cap (get_or members i d)) ticks (get_or counts i 0) (get_or marks i 0 / 256))

-- this is kept of the members of a sum
abbrev pub KeepsTerms : {B : Type 0} → (B → ℕ → ℕ) → List B → ℕ → Terms → Type 0
KeepsTerms cap members ticks t = AreKept cap members ticks t.total t.counts t.marks
