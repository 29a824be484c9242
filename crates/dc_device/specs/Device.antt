-- What a device's calls say.
use Rattle.std.specs.Prelude.{◌≡◌, ℕ, ◌+◌, ◌-◌, ◌^◌, ◌<◌, ◌≤◌, ◌==◌, if◌then◌else◌, min, Bool, true, false, List, length, take, IfOk, MatchResult, Option, None, Some, Result, Ok, Err}
use Rattle.std.specs.Io.KnownBytes.{Appends, Keeps}

-- how many failures a result counts
abbrev pub failures_of : {T E : Type 0} → Result T E → ℕ
failures_of (Ok x) = 0
failures_of (Err e) = 1

-- whether a result tells of a failure
abbrev pub is_failure : {T E : Type 0} → Result T E → Bool
is_failure (Ok x) = false
is_failure (Err e) = true

-- one more call, where calls are counted up to 2^64 - 1
abbrev pub count_on : ℕ → ℕ
count_on n = min (n + 1) (2 ^ 64 - 1)

-- how many pulls gave no byte, after one that answered so
abbrev pub dry_after : {E : Type 0} → ℕ → Result ℕ E → ℕ
dry_after dry (Ok given) = if given == 0 then count_on dry else dry
dry_after dry (Err e) = count_on dry

-- a push took the first n bytes at `Ok(n)`, at least one where there is one, and none at `Err`
abbrev pub PushAppends : {E : Type 0} → Option (List ℕ) → Option (List ℕ) → Result ℕ E → List ℕ → Type 0
PushAppends old new r bytes =
    MatchResult r (λ n. Appends old new (take n bytes) × (n ≤ length bytes) × (0 < length bytes → 0 < n)) (λ _. Keeps old new)

-- A push of a sink that anyone reads: where it took a byte, something is hidden, and what was hidden before is so still.
-- Of one that nobody reads no byte is known.
abbrev pub PushHides : {E : Type 0} → Bool → Option (List ℕ) → Bool → Bool → Result ℕ E → Type 0
PushHides true contents' hidden hidden' r = IfOk r (λ n. 0 < n → hidden' ≡ true) × (hidden ≡ true → hidden' ≡ true)
PushHides false contents' hidden hidden' r = contents' ≡ None

-- After calls of a sink that end in a flush: where they went well, nothing is hidden; where one failed, it was the last.
abbrev pub Settles : {T E : Type 0} → Result T E → Bool → Bool → Type 0
Settles (Ok x) last_failed hidden = hidden ≡ false
Settles (Err e) last_failed hidden = last_failed ≡ true

-- what was seen, where that is known, is all of these bytes
abbrev pub IsSnapshot : Option (List ℕ) → Option (List ℕ) → Type 0
IsSnapshot contents None = Unit {0}
IsSnapshot contents (Some seen) = contents ≡ Some seen

-- how many pulls give no byte in a call that says whether there are more
abbrev pub stops_in : {E : Type 0} → Result Bool E → ℕ
stops_in (Ok true) = 0
stops_in (Ok false) = 1
stops_in (Err e) = 1
