-- Steps that go through a table in turn, and their ticks.
use Rattle.std.specs.Prelude.{◌≡◌, ℕ, suc, ◌%◌, ◌≤◌, cond, eqb, List, [], ◌∷◌, length, slice_index}
use Rattle.dc_bound.specs.Window.{HoldAtLeast}

-- of steps in these ticks, the first of number n, the ticks of those that visit `bus`
unfoldable pub visited : List ℕ → ℕ → ℕ → List ℕ → List ℕ
visited table bus n [] = []
visited table bus n (t ∷ ts) = cond (eqb (slice_index table (n % length table)) bus) (t ∷ visited table bus (suc n) ts) (visited table bus (suc n) ts)

-- ticks that never fall
unfoldable pub NeverFall : List ℕ → Type 0
NeverFall [] = Unit {0}
NeverFall (t ∷ []) = Unit {0}
NeverFall (t ∷ s ∷ ts) = (t ≤ s) × NeverFall (s ∷ ts)

-- these are the ticks of the visits of `bus` by steps that keep a pace and go through the table in turn, from some place of it
pub record VisitsInTurn (table : List ℕ) (bus steps per whole : ℕ) (ts : List ℕ) : Type 0 where
  pub all : List ℕ
  pub first : ℕ
  pub in_order : NeverFall all
  pub paced : HoldAtLeast steps per whole all
  pub visits : ts ≡ visited table bus first all
