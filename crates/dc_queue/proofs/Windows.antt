-- Windows of counts.
use Rattle.std.proofs.Common.{◌≡◌, ℕ, zero, suc, ◌+◌, ◌-◌, ◌*◌, ◌<◌, ◌≤◌, ◌⊎◌, Bool, true, false, ltb, List, [], ◌∷◌, ◌++◌, length, take, drop, get_or, slice_get, Option, Some, None, sum, refl, sym, ap, ⊎_elim, ◌∙◌, arith, length-append, length-drop}
use Rattle.std.specs.Prelude.{if◌then◌else◌, unwrap_or}
use Rattle.std.specs.List.{All, sum_by}
use Rattle.std.proofs.lemmas.Bool.{cases_lt, lt-ltb, le-ltb}
use Rattle.std.proofs.lemmas.List.{length_push, get_or_append_left}
use Rattle.std.proofs.lemmas.List.Sums.{sum_by-le, sum_by-append}
use Rattle.circular_buffer.specs.Buffer.{keep_last}

pub sum-small : (room : ℕ) (xs : List ℕ) → All (λ n. n ≤ room) xs → room ≤ 1000 → length xs < 1000 → sum xs ≤ 1000000
sum-small room xs all few short =
    let each : All (λ n. n ≤ 1000) xs = λ k d l. (let h = all k d l in omega arith) in
    omega (arith, sum_by-le (λ (n : ℕ). n) 1000 xs each)

first-sum : (xs : List ℕ) (n : ℕ) → sum (drop 1 (xs ++ n ∷ [])) + unwrap_or (slice_get (xs ++ n ∷ []) 0) 0 ≡ sum xs + n
first-sum [] n = refl
first-sum (x ∷ xs) n = omega (arith, sum_by-append (λ (k : ℕ). k) (x ∷ []) xs, sum_by-append (λ (k : ℕ). k) xs (n ∷ []))

-- what the ring loses, and what it has then
pub turn-sum : (cap : ℕ) (xs : List ℕ) (n : ℕ) → length xs ≤ cap
    → sum (keep_last cap (xs ++ n ∷ [])) + unwrap_or (if ltb (length xs) cap then None else slice_get (xs ++ n ∷ []) 0) 0 ≡ sum xs + n
turn-sum cap xs n fits =
    ⊎_elim (λ (few : length xs < cap).
    (let yes_few : ltb (length xs) cap ≡ true = lt-ltb _ _ few in
    let all : length (xs ++ n ∷ []) - cap ≡ 0 = omega (arith, length_push xs n) in
    rw (yes_few, all) (omega (arith, sum_by-append (λ (k : ℕ). k) xs (n ∷ [])))))
    (λ (full : cap ≤ length xs).
    (let no_few : ltb (length xs) cap ≡ false = le-ltb _ _ full in
    let one : length (xs ++ n ∷ []) - cap ≡ 1 = omega (arith, length_push xs n) in
    rw (no_few, one) (first-sum xs n))) (cases_lt (length xs) cap)

All-drop : (P : ℕ → Type 0) (k : ℕ) (xs : List ℕ) → All P xs → All P (drop k xs)
All-drop P zero xs h = h
All-drop P (suc k) [] h = h
All-drop P (suc k) (x ∷ xs) h = All-drop P k xs (λ j d l. h (suc j) d (omega arith))

All-push : (room : ℕ) (xs : List ℕ) (n : ℕ) → All (λ n. n ≤ room) xs → n ≤ room → All (λ n. n ≤ room) (xs ++ n ∷ [])
All-push room [] n h here zero d l = here
All-push room [] n h here (suc k) d l = absurd (omega arith)
All-push room (x ∷ xs) n h here zero d l = h zero d (omega arith)
All-push room (x ∷ xs) n h here (suc k) d l = All-push room xs n (λ j d l. h (suc j) d (omega arith)) here k d (omega arith)

pub turn-all : (room cap : ℕ) (xs : List ℕ) (n : ℕ) → All (λ n. n ≤ room) xs → n ≤ room → All (λ n. n ≤ room) (keep_last cap (xs ++ n ∷ []))
turn-all room cap xs n h here = All-drop (λ n. n ≤ room) (length (xs ++ n ∷ []) - cap) (xs ++ n ∷ []) (All-push room xs n h here)

pub turn-length : (cap : ℕ) (xs : List ℕ) (n : ℕ) → length (keep_last cap (xs ++ n ∷ [])) ≤ cap
turn-length cap xs n = omega (arith, length-drop (length (xs ++ n ∷ []) - cap) (xs ++ n ∷ []))
