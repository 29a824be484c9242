-- Digits in groups of three, by how many groups there are.
use Rattle.std.proofs.Common.{◌≡◌, ℕ, zero, suc, ◌*◌, ◌/◌, ◌^◌, ◌<◌, ◌≤◌, true, false, List, ◌++◌, refl, sym, ap, ◌∙◌, codes, arith}
use Rattle.std.specs.Prelude.{nat_lt, if◌then◌else◌, decimal}
use Rattle.std.proofs.lemmas.Bool.Decides.{nat_tests}
use Rattle.dc_page_text.specs.Text.{grouped, groups_of, last_three}

below : (a b : ℕ) → a < b → nat_lt a b ≡ true
below a b l = grind (arith, nat_tests)

not-below : (a b : ℕ) → b ≤ a → nat_lt a b ≡ false
not-below a b l = grind (arith, nat_tests)

-- a number below a thousand is its digits
small-group : (commas n : ℕ) → n < 1000 → groups_of commas n ≡ decimal n
unfolding groups_of
small-group zero n l = refl
small-group (suc commas) n l = rw (below n 1000 l) refl

-- a greater one is its thousands, a comma, and its last three digits
group-more : (commas n : ℕ) → 1000 ≤ n → groups_of (suc commas) n ≡ groups_of commas (n / 1000) ++ codes "," ++ last_three n
unfolding groups_of
group-more commas n l = rw (not-below n 1000 l) refl

-- the same twice
two-more : (commas n : ℕ) → 1000000 ≤ n → groups_of (suc (suc commas)) n ≡ groups_of commas (n / 1000000) ++ codes "," ++ last_three (n / 1000) ++ codes "," ++ last_three n
two-more commas n l =
    let e : n / 1000 / 1000 ≡ n / 1000000 = omega arith in
    group-more (suc commas) n (omega (arith, l))
    ∙ ap (λ (t : List ℕ). t ++ codes "," ++ last_three n) (group-more commas (n / 1000) (omega (arith, l)) ∙ ap (λ (m : ℕ). groups_of commas m ++ codes "," ++ last_three (n / 1000)) e)

-- ---- one comma more than a number has changes nothing

deeper : (commas limit : ℕ) → ((m : ℕ) → m < limit → groups_of commas m ≡ groups_of (suc commas) m) → (n : ℕ) → n < limit * 1000 → groups_of (suc commas) n ≡ groups_of (suc (suc commas)) n
unfolding groups_of
deeper commas limit same n l = ap (λ (t : List ℕ). if nat_lt n 1000 then decimal n else t ++ codes "," ++ last_three n) (same (n / 1000) (omega (arith, l)))

none-or-one : (n : ℕ) → n < 1000 → groups_of 0 n ≡ groups_of 1 n
none-or-one n l = small-group 0 n l ∙ sym (small-group 1 n l)

one-or-two : (n : ℕ) → n < 1000000 → groups_of 1 n ≡ groups_of 2 n
one-or-two n l = deeper 0 1000 none-or-one n l

two-or-three : (n : ℕ) → n < 1000000000 → groups_of 2 n ≡ groups_of 3 n
two-or-three n l = deeper 1 1000000 one-or-two n l

three-or-four : (n : ℕ) → n < 1000000000000 → groups_of 3 n ≡ groups_of 4 n
three-or-four n l = deeper 2 1000000000 two-or-three n l

four-or-five : (n : ℕ) → n < 1000000000000000 → groups_of 4 n ≡ groups_of 5 n
four-or-five n l = deeper 3 1000000000000 three-or-four n l

five-or-six : (n : ℕ) → n < 1000000000000000000 → groups_of 5 n ≡ groups_of 6 n
five-or-six n l = deeper 4 1000000000000000 four-or-five n l

-- ---- by how great a number is

pub grouped-small : (n : ℕ) → n < 1000 → grouped n ≡ decimal n
unfolding grouped
grouped-small n l = small-group 6 n l

pub grouped-more : (n : ℕ) → n < 2 ^ 64 → 1000 ≤ n → grouped n ≡ grouped (n / 1000) ++ codes "," ++ last_three n
unfolding grouped
grouped-more n l big = group-more 5 n big ∙ ap (λ (t : List ℕ). t ++ codes "," ++ last_three n) (five-or-six (n / 1000) (omega (arith, l)))

pub long-short : (n : ℕ) → n < 1000000 → groups_of 4 n ≡ groups_of 2 n
long-short n l = sym (two-or-three n (omega (arith, l)) ∙ three-or-four n (omega (arith, l)))

pub long-more : (n : ℕ) → 1000000 ≤ n → groups_of 4 n ≡ groups_of 2 (n / 1000000) ++ codes "," ++ last_three (n / 1000) ++ codes "," ++ last_three n
long-more n big = two-more 2 n big

pub grouped-long : (n : ℕ) → n < 1000000000000000 → grouped n ≡ groups_of 4 n
unfolding grouped
grouped-long n l = sym (four-or-five n l ∙ five-or-six n (omega (arith, l)))

pub grouped-great : (n : ℕ) → 1000000 ≤ n → grouped n ≡ groups_of 4 (n / 1000000) ++ codes "," ++ last_three (n / 1000) ++ codes "," ++ last_three n
unfolding grouped
grouped-great n big = two-more 4 n big
