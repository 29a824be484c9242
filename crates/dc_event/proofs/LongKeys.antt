-- Lemmas on the keys of long names.
use Rattle.std.proofs.Common.{◌≡◌, ℕ, ◌+◌, ◌-◌, ◌<◌, ◌≤◌, zero, suc, List, [], ◌∷◌, ◌++◌, length, length-take, length-drop, take, take_all, drop, get_or, get_or-drop, set, replicate, length-set, take-append-drop, refl, sym, ap, subst, ◌∙◌, arith, Some, inl, inr}
use Rattle.std.specs.Int.{w64, to_le_bytes}
use Rattle.std.proofs.lemmas.List.{drop-drop, get_or-take, get_or_past, get_or-replicate, length-replicate, get_or-set_same, get_or-set_other}
use Rattle.std.proofs.lemmas.Bool.{cases_eq}
use Rattle.std.proofs.lemmas.Nat.{le_bytes_8}
use Rattle.dc_event.specs.LongNames.{AreLongFound, IsLongFound, StartsWithAnyName, eight_bytes_from, long_key_of}
use Rattle.dc_event.specs.Names.{AreLetters, StartsWithName}
use Rattle.dc_event.specs.TraceText.{number_named}
use Rattle.dc_event.specs.declared.long_names.LongKey.{LongKey}

-- each is a byte
abbrev AreBytes : List ℕ → Type 0
AreBytes xs = (i : ℕ) → get_or xs i 0 < 256

letters_are_bytes : (xs : List ℕ) → AreLetters xs → AreBytes xs
letters_are_bytes [] letters i = omega arith
letters_are_bytes (x ∷ xs) (above, byte, more) zero = byte
letters_are_bytes (x ∷ xs) (above, byte, more) (suc i) = letters_are_bytes xs more i

take_byte : (xs : List ℕ) (at i : ℕ) → i < 8 → get_or (take 8 (drop at xs)) i 0 ≡ get_or xs (at + i) 0
take_byte xs at i few = get_or-take 8 (drop at xs) i 0 few ∙ get_or-drop at xs i 0

take_past : (xs : List ℕ) (at i : ℕ) → 8 ≤ i → get_or (take 8 (drop at xs)) i 0 ≡ 0
take_past xs at i many = get_or_past (take 8 (drop at xs)) i 0 (omega (arith, length-take 8 (drop at xs)))

eight_bytes : (xs : List ℕ) (at : ℕ) → AreBytes xs → AreBytes (take 8 (drop at xs))
eight_bytes xs at bytes i = grind (arith, take_byte xs at i, bytes (at + i))

bytes_before : (xs : List ℕ) (n : ℕ) → AreBytes xs → AreBytes (take n xs)
bytes_before [] zero bytes i = bytes i
bytes_before [] (suc n) bytes i = bytes i
bytes_before (x ∷ xs) zero bytes i = omega arith
bytes_before (x ∷ xs) (suc n) bytes zero = bytes zero
bytes_before (x ∷ xs) (suc n) bytes (suc i) = bytes_before xs n (λ j. bytes (suc j)) i

-- eight bytes by their number
same_eight : (xs ys : List ℕ) (i j : ℕ) → i + 8 ≤ length xs → j + 8 ≤ length ys → AreBytes xs → AreBytes ys → eight_bytes_from xs i ≡ eight_bytes_from ys j
    → take 8 (drop i xs) ≡ take 8 (drop j ys)
unfolding eight_bytes_from
same_eight xs ys i j p q bytes more e =
    let n : length (take 8 (drop i xs)) ≡ 8 = omega (arith, length-take 8 (drop i xs), length-drop i xs) in
    let m : length (take 8 (drop j ys)) ≡ 8 = omega (arith, length-take 8 (drop j ys), length-drop j ys) in
    sym (le_bytes_8 (take 8 (drop i xs)) _ n (eight_bytes xs i bytes) refl) ∙ ap (to_le_bytes w64) e ∙ le_bytes_8 (take 8 (drop j ys)) _ m (eight_bytes ys j more) refl

-- from the eighth on, by the last eight
behind_eight : (xs : List ℕ) → 8 ≤ length xs → length xs ≤ 16 → drop 8 xs ≡ drop (16 - length xs) (take 8 (drop (length xs - 8) xs))
behind_eight xs long short =
    let few : length (drop (length xs - 8) xs) ≤ 8 = omega (arith, length-drop (length xs - 8) xs) in
    let eighth : (length xs - 8) + (16 - length xs) ≡ 8 = omega arith in
    ap (λ (n : ℕ). drop n xs) (sym eighth) ∙ sym (drop-drop (16 - length xs) (length xs - 8) xs) ∙ ap (drop (16 - length xs)) (sym (take_all 8 (drop (length xs - 8) xs) few))

-- two long names of one key are the same
same_long_key : (xs ys : List ℕ) → 8 < length xs → length ys ≤ 16 → AreBytes xs → AreBytes ys → long_key_of xs ≡ long_key_of ys → xs ≡ ys
unfolding long_key_of
same_long_key xs ys long short bytes more e =
    let n : length xs ≡ length ys = ap (λ (k : LongKey). k.letters) e in
    let first : take 8 xs ≡ take 8 ys = same_eight xs ys 0 0 (omega arith) (omega (arith, n)) bytes more (ap (λ (k : LongKey). k.first) e) in
    let last : take 8 (drop (length xs - 8) xs) ≡ take 8 (drop (length ys - 8) ys) =
    same_eight xs ys (length xs - 8) (length ys - 8) (omega arith) (omega (arith, n)) bytes more (ap (λ (k : LongKey). k.last) e) in
    let back : drop 8 xs ≡ drop 8 ys =
    behind_eight xs (omega arith) (omega (arith, n)) ∙ ap (λ (m : ℕ). drop (16 - m) (take 8 (drop (length xs - 8) xs))) n ∙ ap (drop (16 - length ys)) last
    ∙ sym (behind_eight ys (omega (arith, n)) short) in
    sym (take-append-drop 8 xs) ∙ ap (λ (l : List ℕ). l ++ drop 8 xs) first ∙ ap (λ (l : List ℕ). take 8 ys ++ l) back ∙ take-append-drop 8 ys

-- no long name has no letters
pub long_none : (names : List (List ℕ)) (number : ℕ) → IsLongFound names (record { letters = 0; first = 0; last = 0 }) number
unfolding IsLongFound long_key_of
long_none names number name long bytes e = let n : length name ≡ 0 = ap (λ (k : LongKey). k.letters) e in absurd (omega (arith, n))

-- a name that was looked up
pub long_name : (names : List (List ℕ)) (name : List ℕ) (key : LongKey) (number : ℕ) → length name ≤ 16 → AreLetters name → key ≡ long_key_of name → number_named names name ≡ Some number
    → IsLongFound names key number
unfolding IsLongFound long_key_of
long_name names name key number short letters is named = λ other long bytes e.
    let same : other ≡ name = same_long_key other name long short bytes (letters_are_bytes name letters) (e ∙ is) in
    (subst AreLetters (sym same) letters, ap (number_named names) same ∙ named)

-- a text begins with a name that was found
pub starts_long : (names : List (List ℕ)) (text : List ℕ) (key : LongKey) (letters number : ℕ) → 16 < length text → 8 < letters → letters ≤ 16 → AreBytes text
    → key ≡ long_key_of (take letters text) → IsLongFound names key number → StartsWithAnyName names text number letters
unfolding IsLongFound
starts_long names text key letters number window many few bytes is found =
    let n : length (take letters text) ≡ letters = omega (arith, length-take letters text) in
    let (plain, named) = found (take letters text) (omega (arith, n)) (bytes_before text letters bytes) (sym is) in
    (omega arith, few, plain, named)

-- a short name is one of any length
pub starts_any : (names : List (List ℕ)) (text : List ℕ) (number letters : ℕ) → StartsWithName names text number letters → StartsWithAnyName names text number letters
starts_any names text number letters (within, few, plain, named) = (within, omega (arith, few), plain, named)

-- numbers without keys
pub long_none_each : (names : List (List ℕ)) (many : ℕ) → AreLongFound names (replicate many (record { letters = 0; first = 0; last = 0 }))
long_none_each names many number key within =
    let none : LongKey = record { letters = 0; first = 0; last = 0 } in
    rw (get_or-replicate many number none key (omega (arith, length-replicate many none))) (long_none names number)

-- a key that is put
pub long_put : (names : List (List ℕ)) (keys : List LongKey) (key : LongKey) (number : ℕ) → number < length keys → AreLongFound names keys → IsLongFound names key number
    → AreLongFound names (set keys number key)
long_put names keys key number within found is other at inside = elim (cases_eq other number) [
  | inl same ↦ subst (λ (n : ℕ). IsLongFound names (get_or (set keys number key) n at) n) (sym same) (rw (get_or-set_same keys number key at within) is)
  | inr apart ↦ rw (get_or-set_other keys number other key at apart) (found other at (omega (arith, length-set keys number key)))
]
