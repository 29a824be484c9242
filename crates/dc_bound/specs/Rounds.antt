-- Weights that come again after each period, and the visits of a bus by steps that go round a table.
use Rattle.std.specs.Prelude.{ℕ, zero, suc, ◌+◌, ◌-◌, ◌%◌, max, cond, eqb, List, length, slice_index}
use Rattle.dc_bound.specs.Places.{least}

-- the weight of the k numbers from n on, where the weight of x is f (x mod period)
unfoldable pub among : (ℕ → ℕ) → ℕ → ℕ → ℕ → ℕ
among f period n zero = 0
among f period n (suc k) = among f period n k + f ((n + k) % period)

-- the least weight of k consecutive numbers
abbrev pub fewest_among : (ℕ → ℕ) → ℕ → ℕ → ℕ
fewest_among f period k = least (λ n. among f period n k) (period - 1)

-- the greatest of f 0, f 1, .., f n
unfoldable pub greatest_to : ℕ → (ℕ → ℕ) → ℕ
greatest_to zero f = f 0
greatest_to (suc n) f = max (greatest_to n f) (f (suc n))

-- the greatest weight of k consecutive numbers
abbrev pub most_among : (ℕ → ℕ) → ℕ → ℕ → ℕ
most_among f period k = greatest_to (period - 1) (λ n. among f period n k)

-- 1 where a place of a table is `bus`, else 0
abbrev pub is_at : List ℕ → ℕ → ℕ → ℕ
is_at table bus i = cond (eqb (slice_index table i) bus) 1 0

-- the fewest visits of `bus` among k consecutive steps through the table, again and again
abbrev pub fewest_visits : List ℕ → ℕ → ℕ → ℕ
fewest_visits table bus k = fewest_among (λ i. is_at table bus i) (length table) k
