-- Walks along links between concentrators, rings, and the orders that exclude them.
use Rattle.std.specs.Prelude.{◌≡◌, ℕ, suc, ◌<◌, ◌⊎◌, ◌↔◌, Bool, true, false, List, [], ◌∷◌, length, slice_index_or}
use Rattle.dc_order.specs.declared.hop.Hop.{Hop}
use Rattle.dc_order.specs.declared.order.OrderError.{OrderError}
use Rattle.dc_order.specs.declared.order.OrderError.TheVariants.{Ring, Memory}

-- link k
abbrev pub hop_at : List Hop → ℕ → Hop
hop_at hops k = slice_index_or hops k (record { from = 0; to = 0 })

-- the ends of each link are numbers below count
abbrev pub AreNumbered : ℕ → List Hop → Type 0
AreNumbered count hops = (k : ℕ) → k < length hops → ((hop_at hops k).from < count) × ((hop_at hops k).to < count)

-- a link leads from i to j
abbrev pub HasHop : List Hop → (i j : ℕ) → Type 0
HasHop hops i j = (k : ℕ) × (k < length hops) × ((hop_at hops k).from ≡ i) × ((hop_at hops k).to ≡ j)

-- links lead from i to j, by these between them
abbrev pub IsWalk : List Hop → (i : ℕ) → List ℕ → (j : ℕ) → Type 0
IsWalk hops i [] j = HasHop hops i j
IsWalk hops i (k ∷ path) j = HasHop hops i k × IsWalk hops k path j

-- one or more links lead from i to j
abbrev pub Leads : List Hop → (i j : ℕ) → Type 0
Leads hops i j = (path : List ℕ) × IsWalk hops i path j

-- one or more links lead from it to it
abbrev pub IsOnRing : List Hop → ℕ → Type 0
IsOnRing hops i = Leads hops i i

-- each link leads from an earlier place to a later one
abbrev pub IsOrder : List Hop → (ℕ → ℕ) → Type 0
IsOrder hops place = (k : ℕ) → k < length hops → place (hop_at hops k).from < place (hop_at hops k).to

-- i is on a ring, and none before it
pub record IsFirstOnRing (count : ℕ) (hops : List Hop) (i : ℕ) : Type 0 where
  pub there : i < count
  pub ring : IsOnRing hops i
  pub first : (j : ℕ) → j < i → IsOnRing hops j → ⊥

-- where memory is not out, the fault is the first that is on a ring
abbrev pub IsRingFault : ℕ → List Hop → OrderError → Type 0
IsRingFault count hops (Ring i) = IsFirstOnRing count hops i
IsRingFault count hops (Memory e) = Unit {0}

-- ---- what is reached

-- of the numbers below count, those that links lead to from i
pub record AreReached (count : ℕ) (hops : List Hop) (i : ℕ) (reached : List Bool) : Type 0 where
  pub size : length reached ≡ count
  pub is : (j : ℕ) → j < count → (slice_index_or reached j true ≡ true) ↔ Leads hops i j

-- how many are false
abbrev pub missing : List Bool → ℕ
missing [] = 0
missing (true ∷ xs) = missing xs
missing (false ∷ xs) = suc (missing xs)

-- each that is true is led to
abbrev pub AreLed : List Hop → ℕ → List Bool → Type 0
AreLed hops start reached = (j : ℕ) → j < length reached → slice_index_or reached j true ≡ true → Leads hops start j

-- what link k leads to is true, where it begins at the start or at one that is true
abbrev pub IsTakenOn : List Hop → ℕ → List Bool → ℕ → Type 0
IsTakenOn hops start reached k = ((hop_at hops k).from ≡ start) ⊎ (slice_index_or reached (hop_at hops k).from true ≡ true) → slice_index_or reached (hop_at hops k).to true ≡ true

-- so many numbers are not led to from i
abbrev pub IsMissing : ℕ → List Hop → (i n : ℕ) → Type 0
IsMissing count hops i n = (reached : List Bool) × AreReached count hops i reached × (missing reached ≡ n)

-- where memory is not out, it is i, which is true
abbrev pub IsThere : List Bool → (i : ℕ) → OrderError → Type 0
IsThere reached i (Ring j) = (j ≡ i) × (slice_index_or reached i true ≡ true)
IsThere reached i (Memory e) = ⊥

-- where memory is not out, it is i, which is on a ring
abbrev pub IsRingOf : List Hop → (i : ℕ) → OrderError → Type 0
IsRingOf hops i (Ring j) = (j ≡ i) × IsOnRing hops i
IsRingOf hops i (Memory e) = Unit {0}
