-- What words say by their times, over the whole list. A word is (time, line): the line, a number of a recording, is carried alone.
use Rattle.std.specs.Prelude.{◌≡◌, ℕ, ◌-◌, ◌≤◌, ◌↔◌, nat_lt, Option, Some, None, List, [], ◌∷◌, ◌++◌, count_by}
use Rattle.std.specs.List.{All, Contains}
use Rattle.dc_bound.specs.Window.{ticks_of}
use Rattle.dc_bound.specs.Early.{HoldsCap, jitter_cap}

-- the intervals between neighbours
unfoldable pub intervals_of : List ℕ → List ℕ
intervals_of [] = []
intervals_of (t ∷ []) = []
intervals_of (t ∷ u ∷ ts) = (u - t) ∷ intervals_of (u ∷ ts)

-- the last of some times, 0 where there is none
abbrev pub last_time : List ℕ → ℕ
last_time [] = 0
last_time (t ∷ []) = t
last_time (t ∷ u ∷ ts) = last_time (u ∷ ts)

-- the least of some numbers; none where there are none
abbrev pub IsLeastOf : List ℕ → Option ℕ → Type 0
IsLeastOf xs None = xs ≡ []
IsLeastOf xs (Some n) = Contains xs n × All (λ x. n ≤ x) xs

-- the greatest
abbrev pub IsGreatestOf : List ℕ → Option ℕ → Type 0
IsGreatestOf xs None = xs ≡ []
IsGreatestOf xs (Some n) = Contains xs n × All (λ x. x ≤ n) xs

-- how many of them are over this one
abbrev pub count_over : ℕ → List ℕ → ℕ
count_over most xs = count_by (λ x. nat_lt most x) xs

-- the least jitter with which times keep this minimum: with just the jitters from it on do they keep the cap
abbrev pub IsLeastJitter : (minimum : ℕ) → List ℕ → ℕ → Type 0
IsLeastJitter minimum ts least = (jitter : ℕ) → HoldsCap (jitter_cap minimum jitter) ts ↔ (least ≤ jitter)

-- the line of the first word with which the times up to it break the rule; none where they keep it
abbrev pub BreaksAt : (List ℕ → Type 0) → List (ℕ × ℕ) → Option ℕ → Type 0
BreaksAt Keeps came None = Keeps (ticks_of came)
BreaksAt Keeps came (Some line) =
    (before : List (ℕ × ℕ)) × (time : ℕ) × (after : List (ℕ × ℕ)) × (came ≡ before ++ ((time, line) ∷ after)) × Keeps (ticks_of before)
    × ¬ Keeps (ticks_of (before ++ (time, line) ∷ []))
