-- Texts as pages write them.
use Rattle.std.proofs.Common.{◌≡◌, ℕ, suc, ◌<◌, ◌≤◌, Bool, true, false, ◌&&◌, List, [], ◌∷◌, ◌++◌, length, get_or, map, inl, inr, refl, sym, ap, ◌∙◌, append_assoc, append-nil, codes, arith}
use Rattle.std.specs.Prelude.{nat_eq, if◌then◌else◌}
use Rattle.std.specs.Fmt.{HasWritten, IsPlainFormatter}
use Rattle.std.specs.List.{list_all}
use Rattle.std.specs.declared.fmt.Formatter.{Formatter}
use Rattle.std.proofs.lemmas.Bool.{cases_lt, ne_eqb}
use Rattle.std.proofs.lemmas.List.Folds.{list_all-append}
use Rattle.std.proofs.lemmas.Str.{encode_ascii, inside_one}
use lib.Utf8.{encode}
use Rattle.dc_page_text.specs.Text.{entity, escaped, is_harmless, letter_shown}

-- two texts in one
escaped-append : (xs ys : List ℕ) → escaped (xs ++ ys) ≡ escaped xs ++ escaped ys
unfolding escaped
escaped-append [] ys = refl
escaped-append (x ∷ xs) ys = ap (λ l. entity (letter_shown x) ++ l) (escaped-append xs ys) ∙ sym (append_assoc (entity (letter_shown x)) (escaped xs) (escaped ys))

-- one character more
pub escaped-more : (xs : List ℕ) (x : ℕ) → escaped xs ++ entity (letter_shown x) ≡ escaped (xs ++ x ∷ [])
unfolding escaped
escaped-more xs x = ap (λ z. escaped xs ++ z) (sym (append-nil (entity (letter_shown x)))) ∙ sym (escaped-append xs (x ∷ []))

pub map-same : (xs : List ℕ) → map (λ x. x) xs ≡ xs
map-same [] = refl
map-same (x ∷ xs) = ap (λ l. x ∷ l) (map-same xs)

-- nothing is written yet
pub none-written : {W : Type 0} (took : W → List ℕ → W → Type 0) (f : Formatter W) → IsPlainFormatter f → HasWritten took f (escaped []) f
unfolding escaped
none-written took f plain = record { wrote = record { parts = []; calls = refl; whole = refl }; plain = plain }

-- ---- what stays inside

above-harmless : (x : ℕ) → 128 ≤ x → is_harmless x ≡ true
above-harmless x h = rw (ne_eqb x 60 (λ e. omega (arith, e, h)), ne_eqb x 62 (λ e. omega (arith, e, h)), ne_eqb x 34 (λ e. omega (arith, e, h)), ne_eqb x 39 (λ e. omega (arith, e, h))) refl

all-harmless : (xs : List ℕ) → ((k : ℕ) → k < length xs → 128 ≤ get_or xs k 0) → list_all is_harmless xs ≡ true
all-harmless [] h = refl
all-harmless (x ∷ xs) h = rw (above-harmless x (h 0 (omega arith))) (all-harmless xs (λ k l. h (suc k) (omega (arith, l))))

-- the bytes of a character that has no entity
encoded-harmless : (c : ℕ) → nat_eq c 60 ≡ false → nat_eq c 62 ≡ false → nat_eq c 34 ≡ false → nat_eq c 39 ≡ false → list_all is_harmless (encode c) ≡ true
encoded-harmless c h i j k = elim (cases_lt c 128) [
  | inl small ↦ rw (encode_ascii c small, h, i, j, k) refl
  | inr big ↦ all-harmless (encode c) (λ n below. elim (cases_lt (get_or (encode c) n 0) 128) [
    | inl low ↦ absurd (omega (arith, inside_one c [] (encode c) n (sym (append-nil _)) below low))
    | inr high ↦ high
  ])
]

entity-cases : (c : ℕ) (a b d e f : Bool) → nat_eq c 60 ≡ b → nat_eq c 62 ≡ d → nat_eq c 34 ≡ e → nat_eq c 39 ≡ f →
    list_all is_harmless (if a then codes "&amp;" else if b then codes "&lt;" else if d then codes "&gt;" else if e then codes "&quot;" else if f then codes "&#39;" else encode c) ≡ true
entity-cases c true b d e f h i j k = refl
entity-cases c false true d e f h i j k = refl
entity-cases c false false true e f h i j k = refl
entity-cases c false false false true f h i j k = refl
entity-cases c false false false false true h i j k = refl
entity-cases c false false false false false h i j k = encoded-harmless c h i j k

entity-harmless : (c : ℕ) → list_all is_harmless (entity c) ≡ true
unfolding entity
entity-harmless c = entity-cases c (nat_eq c 38) (nat_eq c 60) (nat_eq c 62) (nat_eq c 34) (nat_eq c 39) refl refl refl refl

pub escaped-harmless : (text : List ℕ) → list_all is_harmless (escaped text) ≡ true
unfolding escaped
escaped-harmless [] = refl
escaped-harmless (c ∷ text) =
    list_all-append is_harmless (entity (letter_shown c)) (escaped text) ∙ ap (λ b. b && list_all is_harmless (escaped text)) (entity-harmless (letter_shown c))
    ∙ escaped-harmless text
