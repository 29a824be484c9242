-- Lists of parts before any event.
use Rattle.std.specs.Prelude.{◌≡◌, ℕ, ◌<◌, List, length, slice_index_or}

-- there are n items, and each is f of its number
abbrev pub AllMade : {X : Type 0} → (ℕ → X) → X → ℕ → List X → Type 0
AllMade f none n xs = (length xs ≡ n) × ((k : ℕ) → k < n → slice_index_or xs k none ≡ f k)
