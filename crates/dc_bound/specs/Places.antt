-- Places of a run: the textbook formula of a queue, first places, and functions of what stands before each place.
use Rattle.std.specs.Prelude.{ℕ, zero, suc, ◌+◌, ◌-◌, min, Bool, true, false, cond, Option, Some, None, List, [], ◌∷◌, ◌++◌, length, take}

-- the least of f 0, f 1, .., f n
abbrev pub least : (ℕ → ℕ) → ℕ → ℕ
least f zero = f 0
least f (suc n) = min (least f n) (f (suc n))

-- How many have been served by place i, where `come j` have come and `turns j` turns have been had by place j:
-- the least, over j from 0 to i, of those come by j and the turns after j
abbrev pub served : (ℕ → ℕ) → (ℕ → ℕ) → ℕ → ℕ
served come turns i = least (λ j. come j + (turns i - turns j)) i

-- the same along a run, for counts of its beginnings
unfoldable pub served_in : {X : Type 0} → (List X → ℕ) → (List X → ℕ) → List X → ℕ
served_in come turns run = served (λ j. come (take j run)) (λ j. turns (take j run)) (length run)

-- the first of two answers
abbrev pub or_else : Option ℕ → Option ℕ → Option ℕ
or_else None other = other
or_else (Some i) other = Some i

-- the place i, where the test holds
abbrev pub when : Bool → ℕ → Option ℕ
when true i = Some i
when false i = None

-- the least i from 0 to n that passes the test
abbrev pub least_where : (ℕ → Bool) → ℕ → Option ℕ
least_where p zero = when (p 0) 0
least_where p (suc n) = or_else (least_where p n) (when (p (suc n)) (suc n))

-- the place at which a run first passes a test of its beginnings
unfoldable pub first_place : {X : Type 0} → (List X → Bool) → List X → Option ℕ
first_place p run = least_where (λ i. p (take i run)) (length run)

-- f of each event of a run and of the events before it, where `past` stands before the run
abbrev pub each_from : {X A : Type 0} → (List X → X → A) → List X → List X → List A
each_from f past [] = []
each_from f past (e ∷ rest) = f past e ∷ each_from f (past ++ e ∷ []) rest

-- f of each event and of the events before it, in order
unfoldable pub each_place : {X A : Type 0} → (List X → X → A) → List X → List A
each_place f run = each_from f [] run

-- the greatest k below n that passes the test
abbrev pub last_below : (ℕ → Bool) → ℕ → Option ℕ
last_below p zero = None
last_below p (suc n) = cond (p n) (Some n) (last_below p n)

-- how many k below n pass the test
abbrev pub count_below : (ℕ → Bool) → ℕ → ℕ
count_below p zero = 0
count_below p (suc n) = count_below p n + cond (p n) 1 0
