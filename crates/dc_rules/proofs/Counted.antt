-- How many members each owner has, counted one member after another.
use Rattle.std.proofs.Common.{◌≡◌, ℕ, suc, ◌+◌, ◌<◌, ◌≤◌, ◌⊎◌, inl, inr, Bool, true, false, cond, ◌==◌, List, [], ◌∷◌, ◌++◌, length, get_or, take, set, replicate, refl, sym, ap, ◌∙◌, arith, subst, add-one}
use Rattle.std.specs.List.{count_by}
use Rattle.std.proofs.lemmas.List.{take_all, length-replicate, get_or-replicate, length-set, get_or-set_same, get_or-set_other}
use Rattle.std.proofs.lemmas.List.Sums.{sum_by-append, sum_by-cons, count_by-le-length}
use Rattle.std.proofs.Math.Seq.{take-suc}
use Rattle.std.proofs.lemmas.Bool.{cases_lt}
use Rattle.std.proofs.lemmas.Bool.Decides.{nat_tests}
use Rattle.dc_rules.specs.Rules.{counts}
use Rattle.dc_rules.specs.lemmas.Apart.{counts_length, counts_at}

abbrev pub at : ℕ → List ℕ → ℕ
at b xs = count_by (λ o. o == b) xs

-- the numbers are those of the members so far
pub record AreCounts (owners : List ℕ) (n : ℕ) (all : List ℕ) : Type 0 where
  pub there : length all ≡ n
  pub each : (o : ℕ) → o < n → get_or all o 0 ≡ at o owners

at_more : (o : ℕ) (xs : List ℕ) (x : ℕ) → at o (xs ++ (x ∷ [])) ≡ at o xs + cond (x == o) 1 0
at_more o xs x = omega (arith, sum_by-append (λ y. cond (y == o) 1 0) xs (x ∷ []), sum_by-cons (λ y. cond (y == o) 1 0) x [])

abbrev one : Bool → ℕ
one b = cond b 1 0

one_is : (x o : ℕ) → x ≡ o → one (x == o) ≡ 1
one_is x o h = let t : (x == o) ≡ true = grind (arith, nat_tests) in rw t refl

one_not : (x o : ℕ) → (x ≡ o → ⊥) → one (x == o) ≡ 0
one_not x o h = let t : (x == o) ≡ false = grind (arith, nat_tests) in rw t refl

pub counts_none : (n : ℕ) → AreCounts [] n (replicate n 0)
counts_none n = record {
  there = length-replicate n 0;
  each = λ o h. get_or-replicate n o 0 0 h;
}

more : (owners : List ℕ) (i : ℕ) → i < length owners → take (i + 1) owners ≡ take i owners ++ (get_or owners i 0 ∷ [])
more owners i h = rw add-one (take-suc owners i 0 h)

-- one more member of an owner that is there
pub counts_more : (owners : List ℕ) (n : ℕ) (all : List ℕ) (i v : ℕ) → i < length owners → get_or owners i 0 < n → v ≡ get_or all (get_or owners i 0) 0 + 1 → AreCounts (take i owners) n all
    → AreCounts (take (i + 1) owners) n (set all (get_or owners i 0) v)
counts_more owners n all i v l h same past =
    let x : ℕ = get_or owners i 0 in
    let t : take (i + 1) owners ≡ take i owners ++ (x ∷ []) = more owners i l in
    record {
      there = omega (arith, length-set all x v, past.there);
      each = λ o k. elim (cases_eq o x) [
        | inl s ↦
            let P : ℕ → Type 0 = λ w. get_or (set all x v) w 0 ≡ at w (take (i + 1) owners) in
            subst P (sym s) (omega (arith, get_or-set_same all x v 0 (omega (arith, past.there)), same, past.each x h, ap (λ w. at x w) t, at_more x (take i owners) x, one_is x x refl))
        | inr s ↦ omega (arith, get_or-set_other all x o v 0 s, past.each o k, ap (λ w. at o w) t, at_more o (take i owners) x, one_not x o (λ q. s (sym q)))
      ];
    }
  where
    cases_eq : (a b : ℕ) → (a ≡ b) ⊎ (a ≡ b → ⊥)
    cases_eq a b = elim (cases_lt a b) [
      | inl l ↦ inr (λ e. omega (arith, e, l))
      | inr g ↦ elim (cases_lt b a) [
        | inl l ↦ inr (λ e. omega (arith, e, l))
        | inr k ↦ inl (omega arith)
      ]
    ]

-- lists with the same items at each place
pub alike : (xs ys : List ℕ) → length xs ≡ length ys → ((o : ℕ) → o < length xs → get_or xs o 0 ≡ get_or ys o 0) → xs ≡ ys
alike [] [] h k = refl
alike [] (y ∷ ys) h k = absurd (omega (arith, h))
alike (x ∷ xs) [] h k = absurd (omega (arith, h))
alike (x ∷ xs) (y ∷ ys) h k =
    let e : x ≡ y = k 0 (omega arith) in
    let r : xs ≡ ys = alike xs ys (omega (arith, h)) (λ o l. k (suc o) (omega arith)) in
    λ i. e i ∷ r i

-- the numbers of all members
pub are_counts : (owners : List ℕ) (n : ℕ) (all : List ℕ) → AreCounts owners n all → all ≡ counts owners n
are_counts owners n all h = alike all (counts owners n) (h.there ∙ sym (counts_length owners n)) (λ o l. h.each o (omega (arith, h.there)) ∙ sym (counts_at owners n o (omega (arith, h.there))))

-- a number is at most that of the members
pub counts_small : (owners : List ℕ) (n : ℕ) (all : List ℕ) (o : ℕ) → o < n → AreCounts owners n all → get_or all o 0 ≤ length owners
counts_small owners n all o l h = omega (arith, h.each o l, count_by-le-length (λ w. w == o) owners)

-- all members are counted
pub all_counted : (owners : List ℕ) (n i : ℕ) (all : List ℕ) → length owners ≤ i → AreCounts (take i owners) n all → all ≡ counts owners n
all_counted owners n i all past h =
    let P : List ℕ → Type 0 = λ l. all ≡ counts l n in
    subst P (take_all i owners past) (are_counts (take i owners) n all h)
