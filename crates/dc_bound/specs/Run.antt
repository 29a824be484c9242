-- Runs: lists of events, some of which end a tick.
use Rattle.std.specs.Prelude.{ℕ, ◌+◌, List, [], ◌∷◌, Option, Some, None}

-- an item with its tick, in front of others
abbrev pub stamp : {X : Type 0} → ℕ → Option X → List (ℕ × X) → List (ℕ × X)
stamp t None rest = rest
stamp t (Some x) rest = (t, x) ∷ rest

-- 1 where there is an item
abbrev pub one_if : {X : Type 0} → Option X → ℕ
one_if None = 0
one_if (Some x) = 1

-- how many ticks the events end, where `ends e` is 1 for an event that ends one, else 0
unfoldable pub ticks : {E : Type 0} (ends : E → ℕ) → List E → ℕ
ticks ends [] = 0
ticks ends (e ∷ es) = ends e + ticks ends es

-- how many events `pick` picks
unfoldable pub picks : {E X : Type 0} (pick : E → Option X) → List E → ℕ
picks pick [] = 0
picks pick (e ∷ es) = one_if (pick e) + picks pick es

-- what `pick` picks, each with its tick, where the first event is of tick t
unfoldable pub stamped : {E X : Type 0} (ends : E → ℕ) (pick : E → Option X) → ℕ → List E → List (ℕ × X)
stamped ends pick t [] = []
stamped ends pick t (e ∷ es) = stamp t (pick e) (stamped ends pick (t + ends e) es)
