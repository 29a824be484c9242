-- Lemmas on the keys of names.
use Rattle.std.proofs.Common.{◌≡◌, ◌≢◌, ℕ, ◌+◌, ◌*◌, ◌^◌, ◌%◌, ◌<◌, ◌≤◌, List, [], ◌∷◌, ◌++◌, length, take, get_or, refl, sym, ap, subst, ◌∙◌, arith, Some, reverse}
use Rattle.std.proofs.lemmas.List.{reverse-append, reverse-reverse, take_more}
use Rattle.std.proofs.lemmas.Nat.{pow-add}
use Rattle.std.proofs.Math.Pow.{pow_mono}
use Rattle.dc_event.specs.TraceText.{number_named}
use Rattle.dc_event.specs.Names.{AreLetters, IsFound, key_of, number_in_bytes}

pub AreLetters-push : (xs : List ℕ) (c : ℕ) → AreLetters xs → 32 < c → c < 256 → AreLetters (xs ++ c ∷ [])
AreLetters-push [] c p above byte = (above, byte, tt)
AreLetters-push (x ∷ xs) c (p, q, more) above byte = (p, q, AreLetters-push xs c more above byte)

AreLetters-reverse : (xs : List ℕ) → AreLetters xs → AreLetters (reverse xs)
AreLetters-reverse [] p = tt
AreLetters-reverse (x ∷ xs) (above, byte, more) =
    subst AreLetters (sym (reverse-append (x ∷ []) xs)) (AreLetters-push (reverse xs) x (AreLetters-reverse xs more) above byte)

-- one letter more
pub key-push : (xs : List ℕ) (c : ℕ) → key_of (xs ++ c ∷ []) ≡ key_of xs * 256 + c
unfolding key_of
key-push xs c =
    let e : number_in_bytes (reverse (xs ++ c ∷ [])) ≡ c + 256 * number_in_bytes (reverse xs) = ap number_in_bytes (reverse-append xs (c ∷ [])) in
    omega (arith, e)

pub key-none : key_of [] ≡ 0
unfolding key_of
key-none = refl

same_bytes : (xs ys : List ℕ) → AreLetters xs → AreLetters ys → number_in_bytes xs ≡ number_in_bytes ys → xs ≡ ys
same_bytes [] [] p q e = refl
same_bytes [] (y ∷ ys) p (above, byte, more) e = absurd (omega (arith, e))
same_bytes (x ∷ xs) [] (above, byte, more) q e = absurd (omega (arith, e))
same_bytes (x ∷ xs) (y ∷ ys) (above, byte, p) (above', byte', q) e =
    let front : x ≡ y = omega (arith, e) in
    let back : number_in_bytes xs ≡ number_in_bytes ys = omega (arith, e) in
    ap (λ (l : List ℕ). x ∷ l) (same_bytes xs ys p q back) ∙ ap (λ (n : ℕ). n ∷ ys) front

-- two names of one key are the same
same_key : (xs ys : List ℕ) → AreLetters xs → AreLetters ys → key_of xs ≡ key_of ys → xs ≡ ys
unfolding key_of
same_key xs ys p q e =
    sym (reverse-reverse xs) ∙ ap reverse (same_bytes (reverse xs) (reverse ys) (AreLetters-reverse xs p) (AreLetters-reverse ys q) e) ∙ reverse-reverse ys

above_1 : (xs : List ℕ) → AreLetters xs → number_in_bytes xs ≢ 1
above_1 [] p e = absurd (omega (arith, e))
above_1 (x ∷ xs) (above, byte, more) e = absurd (omega (arith, e))

-- no name has the key 1
pub found_none : (names : List (List ℕ)) (number : ℕ) → IsFound names 1 number
unfolding key_of
found_none names number name letters e = absurd (above_1 (reverse name) (AreLetters-reverse name letters) e)

-- a name that was looked up
pub found_name : (names : List (List ℕ)) (name : List ℕ) (key number : ℕ) → AreLetters name → key ≡ key_of name → number_named names name ≡ Some number → IsFound names key number
found_name names name key number letters is named = λ other p e.
    ap (number_named names) (same_key other name p letters (e ∙ is)) ∙ named

-- ---- a key that is read letter by letter

pub room_more : (key i c : ℕ) → key < 2 ^ (8 * i) → c < 256 → key * 256 + c < 2 ^ (8 * (i + 1))
room_more key i c small byte =
    let e : 2 ^ (8 * i + 8) ≡ 2 ^ (8 * i) * 2 ^ 8 = pow-add 2 (8 * i) 8 in
    let f : 8 * (i + 1) ≡ 8 * i + 8 = omega arith in
    rw (f, e) (omega arith)

pub fits_key : (key i c : ℕ) → key < 2 ^ (8 * i) → c < 256 → i < 8 → key * 256 + c < 2 ^ 64
fits_key key i c small byte few =
    let h : 2 ^ (8 * i) ≤ 2 ^ 56 = pow_mono {i = 8 * i} {j = 56} (omega arith) in
    omega arith

pub letters_more : (text : List ℕ) (i : ℕ) → i < length text → 32 < get_or text i 0 → get_or text i 0 < 256 → AreLetters (take i text) → AreLetters (take (i + 1) text)
letters_more text i p above byte letters = rw (take_more text i 0 p) (AreLetters-push (take i text) (get_or text i 0) letters above byte)

pub key_more : (text : List ℕ) (key i b : ℕ) → i < length text → b ≡ get_or text i 0 → key ≡ key_of (take i text) → key * 256 + b ≡ key_of (take (i + 1) text)
key_more text key i b p read is =
    rw (read, take_more text i 0 p) (ap (λ (k : ℕ). k * 256 + get_or text i 0) is ∙ sym (key-push (take i text) (get_or text i 0)))

-- the same by sums that wrap, where they do not

wrapped : (key b : ℕ) → key * 256 + b < 2 ^ 64 → (key * 256 % 18446744073709551616 + b) % 18446744073709551616 ≡ key * 256 + b
wrapped key b small = omega arith

pub room_wrapped : (key i b : ℕ) → (i ≤ 8 → key < 2 ^ (8 * i)) → b < 256 → i + 1 ≤ 8 → (key * 256 % 18446744073709551616 + b) % 18446744073709551616 < 2 ^ (8 * (i + 1))
room_wrapped key i b small byte few =
    let fits : key * 256 + b < 2 ^ 64 = fits_key key i b (small (omega arith)) byte (omega arith) in
    rw (wrapped key b fits) (room_more key i b (small (omega arith)) byte)

pub key_wrapped : (text : List ℕ) (key i b : ℕ) → i < length text → b ≡ get_or text i 0 → (i ≤ 8 → key < 2 ^ (8 * i)) → b < 256 → (i ≤ 8 → key ≡ key_of (take i text)) → i + 1 ≤ 8
    → (key * 256 % 18446744073709551616 + b) % 18446744073709551616 ≡ key_of (take (i + 1) text)
key_wrapped text key i b p read small byte is few =
    let fits : key * 256 + b < 2 ^ 64 = fits_key key i b (small (omega arith)) byte (omega arith) in
    wrapped key b fits ∙ key_more text key i b p read (is (omega arith))
