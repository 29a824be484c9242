-- The number that is read in what pages write of a number.
use Rattle.std.proofs.Common.{◌≡◌, ℕ, zero, suc, ◌+◌, ◌*◌, ◌-◌, ◌/◌, ◌%◌, ◌^◌, ◌<◌, Bool, true, false, List, [], ◌∷◌, ◌++◌, refl, sym, ap, ◌∙◌, append_assoc, append-nil, codes, arith, rules}
use Rattle.std.specs.Prelude.{nat_eq, nat_lt, if◌then◌else◌, decimal}
use Rattle.std.proofs.lemmas.Bool.{eqb-true}
use Rattle.std.proofs.lemmas.Fmt.{decimal_by_steps, decimal_digit}
use Rattle.dc_page_text.specs.Text.{behind_point, number_from, last_three, groups_of, grouped, tenths, hundredths, trimmed, thousandths, millionths}

-- a digit is no point and no comma
digit-plain : (d : ℕ) → d < 10 → (nat_eq (48 + d) 46 ≡ false) × (nat_eq (48 + d) 44 ≡ false)
digit-plain d l = search (rules, arith)

-- a digit more
read-digit : (unit v d : ℕ) (rest : List ℕ) → d < 10 → number_from unit v ((48 + d) ∷ rest) ≡ number_from unit (v * 10 + d) rest
unfolding number_from
read-digit unit v d rest l =
    let p = digit-plain d l in
    let e : 48 + d - 48 ≡ d = omega arith in
    rw (p.0, p.1, e) refl

-- a whole number, with anything behind it
read-decimal : (unit n : ℕ) (rest : List ℕ) → n < 2 ^ 64 → number_from unit 0 (decimal n ++ rest) ≡ number_from unit n rest
read-decimal unit n rest l =
    decimal_by_steps (λ k ds. (rest : List ℕ) → number_from unit 0 (ds ++ rest) ≡ number_from unit k rest)
    (λ k small rest. read-digit unit 0 k rest small ∙ ap (λ v. number_from unit v rest) (omega arith))
    (λ k ds big before rest.
    ap (number_from unit 0) (append_assoc ds ((48 + k % 10) ∷ []) rest) ∙ before ((48 + k % 10) ∷ rest)
    ∙ read-digit unit (k / 10) (k % 10) rest (omega arith) ∙ ap (λ v. number_from unit v rest) (omega arith))
    n l rest

-- three digits more
read-last : (unit v n : ℕ) (rest : List ℕ) → number_from unit v (last_three n ++ rest) ≡ number_from unit (v * 1000 + n % 1000) rest
unfolding last_three
read-last unit v n rest =
    rw (decimal_digit (n / 100 % 10) (omega arith), decimal_digit (n / 10 % 10) (omega arith), decimal_digit (n % 10) (omega arith))
    (read-digit unit v (n / 100 % 10) ((48 + n / 10 % 10) ∷ (48 + n % 10) ∷ rest) (omega arith)
    ∙ read-digit unit (v * 10 + n / 100 % 10) (n / 10 % 10) ((48 + n % 10) ∷ rest) (omega arith)
    ∙ read-digit unit ((v * 10 + n / 100 % 10) * 10 + n / 10 % 10) (n % 10) rest (omega arith)
    ∙ ap (λ w. number_from unit w rest) (omega arith))

-- a comma, a point, the end
read-comma : (unit v : ℕ) (rest : List ℕ) → number_from unit v (44 ∷ rest) ≡ number_from unit v rest
unfolding number_from
read-comma unit v rest = refl

read-point : (unit v : ℕ) (rest : List ℕ) → number_from unit v (46 ∷ rest) ≡ v * unit + behind_point unit rest
unfolding number_from
read-point unit v rest = refl

read-end : (unit v : ℕ) → number_from unit v [] ≡ v * unit
unfolding number_from
read-end unit v = refl

-- texts with something between them, and one behind
one-between : (xs ys rest : List ℕ) (mark : ℕ) → xs ++ (mark ∷ []) ++ ys ++ rest ≡ xs ++ mark ∷ (ys ++ rest)
one-between xs ys rest mark = append_assoc (xs ++ (mark ∷ [])) ys rest ∙ append_assoc xs (mark ∷ []) (ys ++ rest)

-- with commas between its thousands
groups-cases : (unit commas n : ℕ) (rest : List ℕ) (b : Bool) → n < 2 ^ 64
    → number_from unit 0 (groups_of commas (n / 1000) ++ 44 ∷ (last_three n ++ rest)) ≡ number_from unit (n / 1000) (44 ∷ (last_three n ++ rest))
    → number_from unit 0 ((if b then decimal n else groups_of commas (n / 1000) ++ codes "," ++ last_three n) ++ rest) ≡ number_from unit n rest
groups-cases unit commas n rest true l before = read-decimal unit n rest l
groups-cases unit commas n rest false l before =
    ap (number_from unit 0) (one-between (groups_of commas (n / 1000)) (last_three n) rest 44)
    ∙ before ∙ read-comma unit (n / 1000) (last_three n ++ rest)
    ∙ read-last unit (n / 1000) n rest ∙ ap (λ v. number_from unit v rest) (omega arith)

read-groups : (unit commas n : ℕ) (rest : List ℕ) → n < 2 ^ 64 → number_from unit 0 (groups_of commas n ++ rest) ≡ number_from unit n rest
unfolding groups_of
read-groups unit zero n rest l = read-decimal unit n rest l
read-groups unit (suc commas) n rest l =
    groups-cases unit commas n rest (nat_lt n 1000) l (read-groups unit commas (n / 1000) (44 ∷ (last_three n ++ rest)) (omega (arith, l)))

read-grouped : (unit n : ℕ) (rest : List ℕ) → n < 2 ^ 64 → number_from unit 0 (grouped n ++ rest) ≡ number_from unit n rest
unfolding grouped
read-grouped unit n rest l = read-groups unit 6 n rest l

-- where nothing stands behind it
whole-grouped : (unit n : ℕ) → n < 2 ^ 64 → number_from unit 0 (grouped n) ≡ n * unit
whole-grouped unit n l = ap (number_from unit 0) (sym (append-nil (grouped n))) ∙ read-grouped unit n [] l ∙ read-end unit n

pub grouped-read : (n : ℕ) → n < 2 ^ 64 → number_from 1 0 (grouped n) ≡ n
grouped-read n l = whole-grouped 1 n l ∙ omega arith

-- ---- behind the point

-- a digit
behind-digit : (unit d : ℕ) (rest : List ℕ) → d < 10 → behind_point unit ((48 + d) ∷ rest) ≡ d * (unit / 10) + behind_point (unit / 10) rest
unfolding behind_point
behind-digit unit d rest l =
    let e : 48 + d - 48 ≡ d = omega arith in
    rw e refl

behind-end : (unit : ℕ) → behind_point unit [] ≡ 0
unfolding behind_point
behind-end unit = refl

-- one digit, two, and three with something behind them
one-behind : (unit a : ℕ) → a < 10 → behind_point unit (decimal a) ≡ a * (unit / 10)
one-behind unit a la = rw (decimal_digit a la) (behind-digit unit a [] la ∙ ap (λ v. a * (unit / 10) + v) (behind-end (unit / 10)) ∙ omega arith)

two-behind : (unit a b : ℕ) → a < 10 → b < 10 → behind_point unit (decimal a ++ decimal b) ≡ a * (unit / 10) + b * (unit / 10 / 10)
two-behind unit a b la lb =
    rw (decimal_digit a la) (behind-digit unit a (decimal b) la ∙ ap (λ v. a * (unit / 10) + v) (one-behind (unit / 10) b lb))

three-behind : (unit a b c : ℕ) (rest : List ℕ) → a < 10 → b < 10 → c < 10 →
    behind_point unit ((decimal a ++ decimal b ++ decimal c) ++ rest)
    ≡ a * (unit / 10) + (b * (unit / 10 / 10) + (c * (unit / 10 / 10 / 10) + behind_point (unit / 10 / 10 / 10) rest))
three-behind unit a b c rest la lb lc =
    rw (decimal_digit a la, decimal_digit b lb, decimal_digit c lc)
    (behind-digit unit a ((48 + b) ∷ (48 + c) ∷ rest) la ∙ ap (λ v. a * (unit / 10) + v)
    (behind-digit (unit / 10) b ((48 + c) ∷ rest) lb ∙ ap (λ v. b * (unit / 10 / 10) + v) (behind-digit (unit / 10 / 10) c rest lc)))

-- three digits without the noughts at their end, as thousandths and as millionths
trimmed-thousandths : (n : ℕ) (b c : Bool) → nat_eq (n % 10) 0 ≡ b → nat_eq (n / 10 % 10) 0 ≡ c →
    behind_point 1000 (if b then (if c then decimal (n / 100 % 10) else decimal (n / 100 % 10) ++ decimal (n / 10 % 10))
    else decimal (n / 100 % 10) ++ decimal (n / 10 % 10) ++ decimal (n % 10)) ≡ n % 1000
trimmed-thousandths n true true h i =
    one-behind 1000 (n / 100 % 10) (omega arith) ∙ omega (arith, eqb-true (n % 10) 0 h, eqb-true (n / 10 % 10) 0 i)
trimmed-thousandths n true false h i =
    two-behind 1000 (n / 100 % 10) (n / 10 % 10) (omega arith) (omega arith) ∙ omega (arith, eqb-true (n % 10) 0 h)
trimmed-thousandths n false c h i =
    ap (behind_point 1000) (sym (append-nil (decimal (n / 100 % 10) ++ decimal (n / 10 % 10) ++ decimal (n % 10))))
    ∙ three-behind 1000 (n / 100 % 10) (n / 10 % 10) (n % 10) [] (omega arith) (omega arith) (omega arith)
    ∙ ap (λ v. n / 100 % 10 * 100 + (n / 10 % 10 * 10 + (n % 10 * 1 + v))) (behind-end 1) ∙ omega arith

trimmed-millionths : (n : ℕ) (b c : Bool) → nat_eq (n % 10) 0 ≡ b → nat_eq (n / 10 % 10) 0 ≡ c →
    behind_point 1000000 (if b then (if c then decimal (n / 100 % 10) else decimal (n / 100 % 10) ++ decimal (n / 10 % 10))
    else decimal (n / 100 % 10) ++ decimal (n / 10 % 10) ++ decimal (n % 10)) ≡ n % 1000 * 1000
trimmed-millionths n true true h i =
    one-behind 1000000 (n / 100 % 10) (omega arith) ∙ omega (arith, eqb-true (n % 10) 0 h, eqb-true (n / 10 % 10) 0 i)
trimmed-millionths n true false h i =
    two-behind 1000000 (n / 100 % 10) (n / 10 % 10) (omega arith) (omega arith) ∙ omega (arith, eqb-true (n % 10) 0 h)
trimmed-millionths n false c h i =
    ap (behind_point 1000000) (sym (append-nil (decimal (n / 100 % 10) ++ decimal (n / 10 % 10) ++ decimal (n % 10))))
    ∙ three-behind 1000000 (n / 100 % 10) (n / 10 % 10) (n % 10) [] (omega arith) (omega arith) (omega arith)
    ∙ ap (λ v. n / 100 % 10 * 100000 + (n / 10 % 10 * 10000 + (n % 10 * 1000 + v))) (behind-end 1000) ∙ omega arith

-- ---- numbers with a point

-- a whole number, and digits behind its point
pointed : (unit n : ℕ) (rest : List ℕ) → n < 2 ^ 64 → number_from unit 0 (grouped n ++ codes "." ++ rest) ≡ n * unit + behind_point unit rest
pointed unit n rest l = ap (number_from unit 0) (append_assoc (grouped n) (46 ∷ []) rest) ∙ read-grouped unit n (46 ∷ rest) l ∙ read-point unit n rest

tenths-cases : (n : ℕ) (b : Bool) → n < 2 ^ 64 → nat_eq (n % 10) 0 ≡ b →
    number_from 10 0 (if b then decimal (n / 10) else decimal (n / 10) ++ codes "." ++ decimal (n % 10)) ≡ n
tenths-cases n true l h =
    ap (number_from 10 0) (sym (append-nil (decimal (n / 10)))) ∙ read-decimal 10 (n / 10) [] (omega (arith, l)) ∙ read-end 10 (n / 10)
    ∙ omega (arith, eqb-true (n % 10) 0 h)
tenths-cases n false l h =
    ap (number_from 10 0) (append_assoc (decimal (n / 10)) (46 ∷ []) (decimal (n % 10)))
    ∙ read-decimal 10 (n / 10) (46 ∷ decimal (n % 10)) (omega (arith, l)) ∙ read-point 10 (n / 10) (decimal (n % 10))
    ∙ ap (λ v. n / 10 * 10 + v) (one-behind 10 (n % 10) (omega arith)) ∙ omega arith

pub tenths-read : (n : ℕ) → n < 2 ^ 64 → number_from 10 0 (tenths n) ≡ n
tenths-read n l = tenths-cases n (nat_eq (n % 10) 0) l refl

pub hundredths-read : (n : ℕ) → n < 2 ^ 64 → number_from 100 0 (hundredths n) ≡ n
hundredths-read n l =
    ap (number_from 100 0) (append_assoc (decimal (n / 100) ++ codes ".") (decimal (n / 10 % 10)) (decimal (n % 10)) ∙ append_assoc (decimal (n / 100)) (46 ∷ []) (decimal (n / 10 % 10) ++ decimal (n % 10)))
    ∙ read-decimal 100 (n / 100) (46 ∷ (decimal (n / 10 % 10) ++ decimal (n % 10))) (omega (arith, l))
    ∙ read-point 100 (n / 100) (decimal (n / 10 % 10) ++ decimal (n % 10))
    ∙ ap (λ v. n / 100 * 100 + v) (two-behind 100 (n / 10 % 10) (n % 10) (omega arith) (omega arith)) ∙ omega arith

thousandths-cases : (n : ℕ) (b : Bool) → n < 2 ^ 64 → nat_eq (n % 1000) 0 ≡ b →
    number_from 1000 0 (if b then grouped (n / 1000) else grouped (n / 1000) ++ codes "." ++ trimmed n) ≡ n
thousandths-cases n true l h = whole-grouped 1000 (n / 1000) (omega (arith, l)) ∙ omega (arith, eqb-true (n % 1000) 0 h)
thousandths-cases n false l h =
    pointed 1000 (n / 1000) (trimmed n) (omega (arith, l))
    ∙ ap (λ v. n / 1000 * 1000 + v) (trimmed-thousandths n (nat_eq (n % 10) 0) (nat_eq (n / 10 % 10) 0) refl refl) ∙ omega arith

pub thousandths-read : (n : ℕ) → n < 2 ^ 64 → number_from 1000 0 (thousandths n) ≡ n
unfolding thousandths
thousandths-read n l = thousandths-cases n (nat_eq (n % 1000) 0) l refl

-- thousandths that are read as millionths
thousandths-of-millionths : (n : ℕ) (b : Bool) → n < 2 ^ 64 → nat_eq (n % 1000) 0 ≡ b →
    number_from 1000000 0 (if b then grouped (n / 1000) else grouped (n / 1000) ++ codes "." ++ trimmed n) ≡ n * 1000
thousandths-of-millionths n true l h = whole-grouped 1000000 (n / 1000) (omega (arith, l)) ∙ omega (arith, eqb-true (n % 1000) 0 h)
thousandths-of-millionths n false l h =
    pointed 1000000 (n / 1000) (trimmed n) (omega (arith, l))
    ∙ ap (λ v. n / 1000 * 1000000 + v) (trimmed-millionths n (nat_eq (n % 10) 0) (nat_eq (n / 10 % 10) 0) refl refl) ∙ omega arith

millionths-cases : (n : ℕ) (b : Bool) → n < 2 ^ 64 → nat_eq (n % 1000) 0 ≡ b →
    number_from 1000000 0 (if b then thousandths (n / 1000) else grouped (n / 1000000) ++ codes "." ++ last_three (n / 1000) ++ trimmed n) ≡ n
unfolding thousandths last_three
millionths-cases n true l h =
    thousandths-of-millionths (n / 1000) (nat_eq (n / 1000 % 1000) 0) (omega (arith, l)) refl ∙ omega (arith, eqb-true (n % 1000) 0 h)
millionths-cases n false l h =
    ap (number_from 1000000 0) (append_assoc (grouped (n / 1000000) ++ codes ".") (last_three (n / 1000)) (trimmed n))
    ∙ pointed 1000000 (n / 1000000) (last_three (n / 1000) ++ trimmed n) (omega (arith, l))
    ∙ ap (λ v. n / 1000000 * 1000000 + v)
    (three-behind 1000000 (n / 1000 / 100 % 10) (n / 1000 / 10 % 10) (n / 1000 % 10) (trimmed n) (omega arith) (omega arith) (omega arith)
    ∙ ap (λ v. n / 1000 / 100 % 10 * 100000 + (n / 1000 / 10 % 10 * 10000 + (n / 1000 % 10 * 1000 + v)))
    (trimmed-thousandths n (nat_eq (n % 10) 0) (nat_eq (n / 10 % 10) 0) refl refl))
    ∙ omega arith

pub millionths-read : (n : ℕ) → n < 2 ^ 64 → number_from 1000000 0 (millionths n) ≡ n
millionths-read n l = millionths-cases n (nat_eq (n % 1000) 0) l refl
