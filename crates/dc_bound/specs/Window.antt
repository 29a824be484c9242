-- Windows of consecutive ticks.
use Rattle.std.specs.Prelude.{◌≡◌, ℕ, ◌+◌, ◌-◌, ◌*◌, ◌/◌, ◌<◌, ◌≤◌, min, max, Option, Some, None, MatchOption, ◌&&◌, nat_le, nat_lt, cond, zero, suc, List, [], ◌∷◌}
use Rattle.dc_bound.specs.declared.limits.TheConstants.{LONGEST_SPAN}

-- 1 if tick t is one of the d consecutive ticks from u on, else 0
abbrev pub one_in : ℕ → ℕ → ℕ → ℕ
one_in u d t = cond (nat_le u t && nat_lt t (u + d)) 1 0

-- how many of these ticks are among the d consecutive ticks from u on
unfoldable pub count_in : ℕ → ℕ → List ℕ → ℕ
count_in u d [] = 0
count_in u d (t ∷ ts) = one_in u d t + count_in u d ts

-- the ticks of a list of (tick, tag)
abbrev pub ticks_of : {X : Type 0} → List (ℕ × X) → List ℕ
ticks_of [] = []
ticks_of (x ∷ xs) = x.0 ∷ ticks_of xs

-- neighbours are at least m ticks apart
unfoldable pub Spaced : ℕ → List (ℕ × ℕ) → Type 0
Spaced m [] = Unit {0}
Spaced m (x ∷ []) = Unit {0}
Spaced m (x ∷ y ∷ xs) = (x.0 + m ≤ y.0) × Spaced m (y ∷ xs)

-- f is the same from d to e
abbrev pub FlatTo : (ℕ → ℕ) → ℕ → ℕ → Type 0
FlatTo f d e = (k : ℕ) → d ≤ k → k ≤ e → f k ≡ f d

-- j is the first after d at which f is more than at d
abbrev pub JumpsAt : (ℕ → ℕ) → ℕ → ℕ → Type 0
JumpsAt f d j = (d < j) × (j ≤ LONGEST_SPAN) × FlatTo f d (j - 1) × (f d < f j)

-- the first jump of f after d, up to the longest span, or None where f stays
abbrev pub IsNextJump : (ℕ → ℕ) → ℕ → Option ℕ → Type 0
IsNextJump f d jump = MatchOption jump (FlatTo f d LONGEST_SPAN) (λ j. JumpsAt f d j)

-- a jump that is kept as a number: past the longest span where there is none
abbrev pub IsKept : ℕ → Option ℕ → Type 0
IsKept n jump = MatchOption jump (LONGEST_SPAN < n) (λ j. (j ≡ n) × (j ≤ LONGEST_SPAN))

-- the earlier of two jumps
abbrev pub earlier_jump : Option ℕ → Option ℕ → Option ℕ
earlier_jump None other = other
earlier_jump (Some i) None = Some i
earlier_jump (Some i) (Some j) = Some (min i j)

-- the later of two jumps, where there are two
abbrev pub later_jump : Option ℕ → Option ℕ → Option ℕ
later_jump None other = None
later_jump (Some i) None = None
later_jump (Some i) (Some j) = Some (max i j)

-- the cap is `most` in each number of ticks from `ticks` on and below `until`
abbrev pub Shown : (ℕ → ℕ) → (ticks until most : ℕ) → Type 0
Shown cap ticks until most = (k : ℕ) → ticks ≤ k → k < until → cap k ≡ most

-- each d consecutive whole ticks hold at least n of these, of which `whole` ticks are whole
abbrev pub HoldAtLeast : (n d whole : ℕ) → List ℕ → Type 0
HoldAtLeast n d whole ts = (u : ℕ) → u + d ≤ whole → n ≤ count_in u d ts

-- each d consecutive ticks hold at most n of these
abbrev pub HoldAtMost : (n d : ℕ) → List ℕ → Type 0
HoldAtMost n d ts = (u : ℕ) → count_in u d ts ≤ n

-- the tick of the last of these up to the tick after `whole` whole ones, None where there is none
abbrev pub IsLast : Option ℕ → ℕ → List ℕ → Type 0
IsLast None whole ts = count_in 0 (suc whole) ts ≡ 0
IsLast (Some k) whole ts = (k ≤ whole) × (1 ≤ count_in k 1 ts) × (count_in (suc k) (whole - k) ts ≡ 0)

-- any d consecutive ticks, d at least 1, hold at most d * tick / spacing + 1 of these
abbrev pub HoldsWire : (tick spacing : ℕ) → List ℕ → Type 0
HoldsWire tick spacing ts = (d : ℕ) → 1 ≤ d → HoldAtMost (d * tick / spacing + 1) d ts

-- the most that a wire carries in so many ticks: nothing in none, else d * tick / spacing and one more
abbrev pub wire_cap : (tick spacing : ℕ) → ℕ → ℕ
wire_cap tick spacing zero = 0
wire_cap tick spacing (suc d) = suc d * tick / spacing + 1
