-- When items come to a queue, and when they are taken.
use Rattle.std.proofs.Common.{◌≡◌, ℕ, zero, suc, ◌+◌, ◌-◌, ◌≤◌, ◌<◌, ◌⊎◌, Bool, true, false, ltb, Some, None, List, [], ◌∷◌, ◌++◌, length, take, drop, get_or, refl, sym, ap, inl, inr, ◌∙◌, subst, arith, add_assoc, add-zero, length-append, append_assoc, take-append-drop}
use Rattle.std.proofs.lemmas.List.{take_all, take_at, length_push, append-nil, take-take}
use Rattle.std.proofs.lemmas.Bool.{ltb-true, ltb-false, lt-ltb, le-ltb, cases_lt}
use Rattle.dc_bound.specs.Run.{ticks, picks, stamped}
use Rattle.dc_bound.specs.Places.{least, served_in, first_place}
use Rattle.dc_bound.specs.Moves.{Move, move_ends, came, tag_of, ticks_in, visits, ins, passed, is_overfull, latch, before, entered, taken, routed_tick, arrived_tick}
use Rattle.dc_bound.specs.Moves.Move.{Tick, In, Visit}
use Rattle.dc_bound.specs.lemmas.Segments.{ticks-append}
use Rattle.dc_bound.specs.lemmas.Least.{served_in-le}
use Rattle.dc_bound.specs.lemmas.Queued.{ins-append, passed-le}
use Rattle.dc_bound.specs.lemmas.KeepsUp.{NeverFull, HandsOn, KeepsUp}
use Rattle.dc_bound.specs.lemmas.FirstPlaces.{IsFirstPlace, first_place-none, first_place-found}

-- ---- cuts

pub ticks_in-append : (a b : List Move) → ticks_in (a ++ b) ≡ ticks_in a + ticks_in b
ticks_in-append a b = ticks-append move_ends tag_of a b

-- two ways to cut a list: the first cut is the later one, or not
pub split_sides : {X : Type 0} (p m x y : List X) → p ++ m ≡ x ++ y → ((q : List X) × (p ≡ x ++ q) × (y ≡ q ++ m)) ⊎ ((q : List X) × (x ≡ p ++ q) × (m ≡ q ++ y))
split_sides p m [] y e = inl (p, refl, sym e)
split_sides [] m (c ∷ x) y e = inr (c ∷ x, refl, e)
split_sides (d ∷ p) m (c ∷ x) y e =
    let same : d ≡ c = cc in
    let rest : p ++ m ≡ x ++ y = cc in
    elim (split_sides p m x y rest) [
      | inl (q, f, g) ↦ inl (q, (let r : d ∷ p ≡ c ∷ (x ++ q) = cc in r), g)
      | inr (q, f, g) ↦ inr (q, (let r : c ∷ x ≡ d ∷ (p ++ q) = cc in r), g)
    ]

-- a beginning of a beginning
pub ticks_in-take : (ms : List Move) (i j : ℕ) → i ≤ j → ticks_in (take i ms) ≤ ticks_in (take j ms)
ticks_in-take ms i j h =
    omega (arith, ap ticks_in (take-append-drop i (take j ms)), ticks_in-append (take i (take j ms)) (drop i (take j ms)), ap ticks_in (take-take i j ms h))

pub ins-take : (ms : List Move) (i j : ℕ) → i ≤ j → length (ins (take i ms)) ≤ length (ins (take j ms))
ins-take ms i j h =
    omega (arith, ap (λ z. length (ins z)) (take-append-drop i (take j ms)), ap length (ins-append (take i (take j ms)) (drop i (take j ms))), length-append (ins (take i (take j ms))) (ins (drop i (take j ms))), ap (λ z. length (ins z)) (take-take i j ms h))

-- ---- a queue that is never full

pub never_full-prefix : (room : ℕ) (a b : List Move) → NeverFull room (a ++ b) → NeverFull room a
never_full-prefix room a b h pre post e = h pre (post ++ b) (ap (λ z. z ++ b) e ∙ append_assoc pre post b)

never_full-take : (room j : ℕ) (ms : List Move) → NeverFull room ms → NeverFull room (take j ms)
never_full-take room j ms h = never_full-prefix room (take j ms) (drop j ms) (let P : List Move → Type 0 = λ z. NeverFull room z in subst P (sym (take-append-drop j ms)) h)

calm : (room : ℕ) (ms : List Move) → NeverFull room ms → is_overfull room ms ≡ false
unfolding is_overfull
calm room ms h = le-ltb _ _ (h ms [] (sym (append-nil ms)))

pub never_full-unlatched : (room : ℕ) (ms : List Move) → NeverFull room ms → latch room ms ≡ None
unfolding latch
never_full-unlatched room ms h = first_place-none (is_overfull room) ms (λ j k. calm room (take j ms) (never_full-take room j ms h))

pub never_full-entered : (room : ℕ) (ms : List Move) → NeverFull room ms → entered room ms ≡ ins ms
unfolding entered
never_full-entered room ms h = let e : latch room ms ≡ None = never_full-unlatched room ms h in rw e refl

least-same : (f g : ℕ → ℕ) (n : ℕ) → ((j : ℕ) → j ≤ n → f j ≡ g j) → least f n ≡ least g n
least-same f g zero same = same 0 (omega arith)
least-same f g (suc n) same =
    let rest : least f n ≡ least g n = least-same f g n (λ j h. same j (omega arith)) in
    let last : f (suc n) ≡ g (suc n) = same (suc n) (omega arith) in
    rw (rest, last) refl

pub never_full-taken : (room : ℕ) (ms : List Move) → NeverFull room ms → taken room ms ≡ passed ms
unfolding taken passed served_in
never_full-taken room ms h =
    least-same (λ j. length (entered room (take j ms)) + (visits (take (length ms) ms) - visits (take j ms))) (λ j. length (ins (take j ms)) + (visits (take (length ms) ms) - visits (take j ms))) (length ms)
    (λ j k. ap (λ xs. length xs + (visits (take (length ms) ms) - visits (take j ms))) (never_full-entered room (take j ms) (never_full-take room j ms h)))

-- ---- ticks of first places

-- the tick in which a test of the beginnings first passes
pub first_tick : (List Move → Bool) → List Move → ℕ
first_tick p ms = ticks_in (before (first_place p ms) ms)

pub first_tick-is : (p : List Move → Bool) (ms : List Move) (i : ℕ) → IsFirstPlace p ms i → first_tick p ms ≡ ticks_in (take (i - 1) ms)
unfolding first_tick
first_tick-is p ms i f = let e : first_place p ms ≡ Some i = f.found in rw e refl

-- what passes earlier has the earlier tick
pub first_tick-le : (p q : List Move → Bool) (ms : List Move) → ((j : ℕ) → j ≤ length ms → p (take j ms) ≡ true → q (take j ms) ≡ true) → p ms ≡ true → first_tick q ms ≤ first_tick p ms
first_tick-le p q ms h e =
    let whole : take (length ms) ms ≡ ms = take_all (length ms) ms (omega arith) in
    let there : q ms ≡ true = ap q (sym whole) ∙ h (length ms) (omega arith) (ap p whole ∙ e) in
    let a = first_place-found p ms e in
    let b = first_place-found q ms there in
    elim (cases_lt a.0 b.0) [
      | inl l ↦ (let yes' : q (take a.0 ms) ≡ true = h a.0 a.1.bound a.1.passes in let no' : q (take a.0 ms) ≡ false = b.1.earlier a.0 l in absurd cc)
      | inr l ↦ omega (arith, first_tick-is p ms a.0 a.1, first_tick-is q ms b.0 b.1, ticks_in-take ms (b.0 - 1) (a.0 - 1) (omega arith))
    ]

-- ---- arrivals

came_more : ℕ → List Move → Bool
came_more n past = ltb n (length (ins past))

arrived-is_first : (n : ℕ) (ms : List Move) → arrived_tick n ms ≡ first_tick (came_more n) ms
unfolding arrived_tick first_tick came_more
arrived-is_first n ms = refl

-- the move with which item n comes in
pub record ComesAt (n : ℕ) (ms x y : List Move) (z : ℕ × ℕ) : Type 0 where
  pub cut : ms ≡ x ++ (In z ∷ y)
  pub earlier : length (ins x) ≡ n

-- item n comes in somewhere
pub comes : (ms : List Move) (n : ℕ) → n < length (ins ms) → (x : List Move) × (y : List Move) × (z : ℕ × ℕ) × ComesAt n ms x y z
unfolding ins
comes [] n h = absurd (omega arith)
comes (Tick ∷ ms) n h = let r = comes ms n h in (Tick ∷ r.0, r.1, r.2, record { cut = ap (λ q. Tick ∷ q) r.3.cut; earlier = r.3.earlier })
comes (Visit ∷ ms) n h = let r = comes ms n h in (Visit ∷ r.0, r.1, r.2, record { cut = ap (λ q. Visit ∷ q) r.3.cut; earlier = r.3.earlier })
comes (In z ∷ ms) zero h = ([], ms, z, record { cut = refl; earlier = refl })
comes (In z ∷ ms) (suc n) h = let r = comes ms n (omega arith) in (In z ∷ r.0, r.1, r.2, record { cut = ap (λ q. In z ∷ q) r.3.cut; earlier = omega (arith, r.3.earlier) })

ins_in : (x y : List Move) (z : ℕ × ℕ) → length (ins (x ++ (In z ∷ y))) ≡ suc (length (ins x) + length (ins y))
unfolding ins
ins_in x y z = omega (arith, ap length (ins-append x (In z ∷ y)), length-append (ins x) (ins (In z ∷ y)))

ticks_in_in : (x y : List Move) (z : ℕ × ℕ) → ticks_in (x ++ (In z ∷ y)) ≡ ticks_in x + ticks_in y
unfolding ticks
ticks_in_in x y z = omega (arith, ticks_in-append x (In z ∷ y))

-- and its tick is the tick of that move
pub comes-tick : (n : ℕ) (ms x y : List Move) (z : ℕ × ℕ) → ComesAt n ms x y z → arrived_tick n ms ≡ ticks_in x
unfolding came_more
comes-tick n ms x y z at =
    let long : length ms ≡ length x + suc (length y) = omega (arith, ap length at.cut, length-append x (In z ∷ y)) in
    let more : came_more n ms ≡ true = lt-ltb n (length (ins ms)) (omega (arith, ap (λ q. length (ins q)) at.cut, ins_in x y z, at.earlier)) in
    let f = first_place-found (came_more n) ms more in
    let cut : ms ≡ (x ++ (In z ∷ [])) ++ y = at.cut ∙ simp append_assoc in
    let here : take (length x) ms ≡ x = ap (λ q. take (length x) q) at.cut ∙ take_at x (In z ∷ y) (length x) refl in
    let next : take (suc (length x)) ms ≡ x ++ (In z ∷ []) = ap (λ q. take (suc (length x)) q) cut ∙ take_at (x ++ (In z ∷ [])) y (suc (length x)) (omega (arith, length_push x (In z))) in
    -- not before the move
    let low : length x < f.0 = elim (cases_lt (length x) f.0) [
      | inl l ↦ l
      | inr l ↦
          let less : length (ins (take f.0 ms)) ≤ length (ins (take (length x) ms)) = ins-take ms f.0 (length x) l in
          let over : n < length (ins (take f.0 ms)) = ltb-true _ _ f.1.passes in
          absurd (omega (arith, less, over, ap (λ q. length (ins q)) here, at.earlier))
    ] in
    let high : f.0 ≤ suc (length x) = elim (cases_lt (suc (length x)) f.0) [
      | inl l ↦
          let no' : length (ins (take (suc (length x)) ms)) ≤ n = ltb-false _ _ (f.1.earlier (suc (length x)) l) in
          absurd (omega (arith, no', ap (λ q. length (ins q)) next, ins_in x [] z, at.earlier))
      | inr l ↦ l
    ] in
    let k : f.0 - 1 ≡ length x = omega arith in
    arrived-is_first n ms ∙ first_tick-is (came_more n) ms f.0 f.1 ∙ ap (λ i. ticks_in (take i ms)) k ∙ ap ticks_in here

-- ticks of arrivals rise
pub arrived-rises : (i j : ℕ) (ms : List Move) → i ≤ j → j < length (ins ms) → arrived_tick i ms ≤ arrived_tick j ms
unfolding came_more
arrived-rises i j ms h k =
    let le = first_tick-le (came_more j) (came_more i) ms (λ l b p. lt-ltb i (length (ins (take l ms))) (omega (arith, ltb-true j (length (ins (take l ms))) p))) (lt-ltb j (length (ins ms)) k) in
    omega (arith, le, arrived-is_first i ms, arrived-is_first j ms)

-- what comes after a beginning does not change the tick
pub arrived-earlier : (n : ℕ) (a b : List Move) → n < length (ins a) → arrived_tick n (a ++ b) ≡ arrived_tick n a
arrived-earlier n a b h =
    let r = comes a n h in
    comes-tick n (a ++ b) r.0 (r.1 ++ b) r.2 (record { cut = ap (λ q. q ++ b) r.3.cut ∙ append_assoc r.0 (In r.2 ∷ r.1) b; earlier = r.3.earlier })
    ∙ sym (comes-tick n a r.0 r.1 r.2 r.3)

-- ---- taken items

more_taken : ℕ → ℕ → List Move → Bool
more_taken room n past = ltb n (taken room past)

routed-is_first : (room n : ℕ) (ms : List Move) → routed_tick room n ms ≡ first_tick (more_taken room n) ms
unfolding routed_tick first_tick more_taken
routed-is_first room n ms = refl

passed-le_came : (ms : List Move) → passed ms ≤ length (ins ms)
unfolding picks
passed-le_came ms = omega (arith, passed-le ms [], ap passed (append-nil ms))

-- what entered had come, and what was taken had entered
pub entered-le : (room : ℕ) (ms : List Move) → length (entered room ms) ≤ length (ins ms)
unfolding entered
entered-le room ms =
    elim (latch room ms) as (λ o. length (ins (before o ms)) ≤ length (ins ms)) [
      | None ↦ omega arith
      | Some i ↦ omega (arith, ap (λ z. length (ins z)) (take-append-drop (i - 1) ms), ap length (ins-append (take (i - 1) ms) (drop (i - 1) ms)), length-append (ins (take (i - 1) ms)) (ins (drop (i - 1) ms)))
    ]

pub taken-le : (room : ℕ) (ms : List Move) → taken room ms ≤ length (entered room ms)
unfolding taken
taken-le room ms =
    let le = served_in-le (λ past. length (entered room past)) visits ms [] in
    omega (arith, le, ap (served_in (λ past. length (entered room past)) visits) (append-nil ms), ap visits (append-nil ms))

-- no item is taken before it came
pub arrived-le-routed : (room n : ℕ) (ms : List Move) → n < taken room ms → arrived_tick n ms ≤ routed_tick room n ms
unfolding came_more more_taken
arrived-le-routed room n ms h =
    let le = first_tick-le (more_taken room n) (came_more n) ms
    (λ l b p. lt-ltb n (length (ins (take l ms))) (omega (arith, ltb-true n (taken room (take l ms)) p, taken-le room (take l ms), entered-le room (take l ms))))
    (lt-ltb n (taken room ms) h) in
    omega (arith, le, arrived-is_first n ms, routed-is_first room n ms)

-- ---- a queue that hands on in time

pub hands_on-in_time : (delay : ℕ) (ms : List Move) → HandsOn delay ms → (n : ℕ) → n < length (ins ms) → arrived_tick n ms + delay < ticks_in ms → n < passed ms
hands_on-in_time delay ms h n there late =
    let r = comes ms n there in
    let t : arrived_tick n ms ≡ ticks_in r.0 = comes-tick n ms r.0 r.1 r.2 r.3 in
    let cut : ms ≡ (r.0 ++ (In r.2 ∷ [])) ++ r.1 = r.3.cut ∙ simp append_assoc in
    let got : length (ins (r.0 ++ (In r.2 ∷ []))) ≤ passed ((r.0 ++ (In r.2 ∷ [])) ++ r.1) =
    h (r.0 ++ (In r.2 ∷ [])) r.1 [] (cut ∙ simp append-nil) (omega (arith, ap ticks_in r.3.cut, ticks_in_in r.0 r.1 r.2)) in
    omega (arith, got, ap passed cut, ins_in r.0 [] r.2, r.3.earlier)

nothing : (ms : List Move) → ticks_in (take 0 ms) ≡ 0
unfolding ticks
nothing [] = refl
nothing (m ∷ ms) = refl

-- a beginning that ends late has handed on the item
in_between : (n delay : ℕ) (ms x y : List Move) (z : ℕ × ℕ) (w after q : List Move) → HandsOn delay ms → ComesAt n ms x y z
    → w ≡ x ++ q → In z ∷ y ≡ q ++ after → ms ≡ w ++ after → ticks_in x + delay < ticks_in w → passed w ≤ n → ⊥
in_between n delay ms x y z w after [] h at e g cut late few = omega (arith, ap ticks_in (e ∙ append-nil x))
in_between n delay ms x y z w after (c ∷ q) h at e g cut late few =
    let same : c ≡ In z = cc in
    let there : w ≡ (x ++ (In z ∷ [])) ++ q = e ∙ ap (λ d. x ++ (d ∷ q)) same ∙ simp append_assoc in
    let whole : ms ≡ (x ++ (In z ∷ [])) ++ (q ++ after) = cut ∙ ap (λ v. v ++ after) there ∙ append_assoc (x ++ (In z ∷ [])) q after in
    let got : length (ins (x ++ (In z ∷ []))) ≤ passed ((x ++ (In z ∷ [])) ++ q) =
    h (x ++ (In z ∷ [])) q after whole (omega (arith, ap ticks_in (e ∙ ap (λ d. x ++ (d ∷ q)) same), ticks_in_in x q z)) in
    omega (arith, got, ap passed there, ins_in x [] z, at.earlier)

pub hands_on-routed : (room delay : ℕ) (ms : List Move) → NeverFull room ms → HandsOn delay ms → (n : ℕ) → n < taken room ms → routed_tick room n ms ≤ arrived_tick n ms + delay
unfolding more_taken
hands_on-routed room delay ms never h n there =
    let came_in : n < length (ins ms) = omega (arith, never_full-taken room ms never, passed-le_came ms) in
    let r = comes ms n came_in in
    let t : arrived_tick n ms ≡ ticks_in r.0 = comes-tick n ms r.0 r.1 r.2 r.3 in
    let f = first_place-found (more_taken room n) ms (lt-ltb n (taken room ms) there) in
    let at : routed_tick room n ms ≡ ticks_in (take (f.0 - 1) ms) = routed-is_first room n ms ∙ first_tick-is (more_taken room n) ms f.0 f.1 in
    elim (cases_lt (ticks_in r.0 + delay) (ticks_in (take (f.0 - 1) ms))) [
      | inr l ↦ omega arith
      | inl l ↦ elim (cases_lt 0 f.0) [
        | inr z ↦ (let e : f.0 - 1 ≡ 0 = omega arith in let none : ticks_in (take (f.0 - 1) ms) ≡ 0 = ap (λ i. ticks_in (take i ms)) e ∙ nothing ms in absurd (omega arith))
        | inl pos ↦
            let w : List Move = take (f.0 - 1) ms in
            let few : taken room (take (f.0 - 1) ms) ≤ n = ltb-false _ _ (f.1.earlier (f.0 - 1) (omega arith)) in
            let same : taken room (take (f.0 - 1) ms) ≡ passed (take (f.0 - 1) ms) = never_full-taken room (take (f.0 - 1) ms) (never_full-take room (f.0 - 1) ms never) in
            elim (split_sides (take (f.0 - 1) ms) (drop (f.0 - 1) ms) r.0 (In r.2 ∷ r.1) (take-append-drop (f.0 - 1) ms ∙ r.3.cut)) [
              | inr (q, e, g) ↦ absurd (omega (arith, ap ticks_in e, ticks_in-append (take (f.0 - 1) ms) q))
              | inl (q, e, g) ↦ absurd (in_between n delay ms r.0 r.1 r.2 (take (f.0 - 1) ms) (drop (f.0 - 1) ms) q h r.3 e g (sym (take-append-drop (f.0 - 1) ms)) l (omega arith))
            ]
      ]
    ]

-- a queue that is never full and hands on in time keeps up
pub keeps_up : (room delay : ℕ) (ms : List Move) → NeverFull room ms → HandsOn delay ms → KeepsUp room delay ms
keeps_up room delay ms never h = record {
  unlatched = never_full-unlatched room ms never;
  all_entered = never_full-entered room ms never;
  in_time = λ n there late. omega (arith, hands_on-in_time delay ms h n there late, never_full-taken room ms never);
  routed = hands_on-routed room delay ms never h;
}

-- ---- the stamped items are the items with their ticks

got_stamped : (ms : List Move) (t : ℕ) (x y : List Move) (z : ℕ × ℕ) → ms ≡ x ++ (In z ∷ y) → get_or (stamped move_ends came t ms) (length (ins x)) (0, (0, 0)) ≡ (t + ticks_in x, z)
unfolding stamped ins ticks
got_stamped ms t [] y z e = ap (λ q. get_or (stamped move_ends came t q) 0 (0, (0, 0))) e ∙ ap (λ k. (k, z)) (sym (add-zero t))
got_stamped ms t (Tick ∷ x) y z e = ap (λ q. get_or (stamped move_ends came t q) (length (ins x)) (0, (0, 0))) e ∙ got_stamped (x ++ (In z ∷ y)) (t + 1) x y z refl ∙ ap (λ k. (k, z)) (add_assoc t 1 (ticks_in x))
got_stamped ms t (Visit ∷ x) y z e = ap (λ q. get_or (stamped move_ends came t q) (length (ins x)) (0, (0, 0))) e ∙ got_stamped (x ++ (In z ∷ y)) (t + 0) x y z refl ∙ ap (λ k. (k, z)) (add_assoc t 0 (ticks_in x))
got_stamped ms t (In w ∷ x) y z e = ap (λ q. get_or (stamped move_ends came t q) (suc (length (ins x))) (0, (0, 0))) e ∙ got_stamped (x ++ (In z ∷ y)) (t + 0) x y z refl ∙ ap (λ k. (k, z)) (add_assoc t 0 (ticks_in x))

got_in : (x y : List Move) (z : ℕ × ℕ) → get_or (ins (x ++ (In z ∷ y))) (length (ins x)) (0, 0) ≡ z
unfolding ins
got_in [] y z = refl
got_in (Tick ∷ x) y z = got_in x y z
got_in (Visit ∷ x) y z = got_in x y z
got_in (In w ∷ x) y z = got_in x y z

pub stamped-arrived : (ms : List Move) (n : ℕ) → n < length (ins ms) → get_or (stamped move_ends came 0 ms) n (0, (0, 0)) ≡ (arrived_tick n ms, get_or (ins ms) n (0, 0))
stamped-arrived ms n h =
    let r = comes ms n h in
    let number : length (ins r.0) ≡ n = r.3.earlier in
    let item_is : get_or (ins ms) n (0, 0) ≡ r.2 = ap (λ k. get_or (ins ms) k (0, 0)) (sym number) ∙ ap (λ q. get_or (ins q) (length (ins r.0)) (0, 0)) r.3.cut ∙ got_in r.0 r.1 r.2 in
    let tick_is : arrived_tick n ms ≡ 0 + ticks_in r.0 = omega (arith, comes-tick n ms r.0 r.1 r.2 r.3) in
    ap (λ k. get_or (stamped move_ends came 0 ms) k (0, (0, 0))) (sym number) ∙ got_stamped ms 0 r.0 r.1 r.2 r.3.cut
    ∙ ap (λ k. (k, r.2)) (sym tick_is) ∙ ap (λ z. (arrived_tick n ms, z)) (sym item_is)

pub stamped-items : (ms : List Move) (t : ℕ) → length (stamped move_ends came t ms) ≡ length (ins ms)
unfolding stamped ins
stamped-items [] t = refl
stamped-items (Tick ∷ ms) t = stamped-items ms (t + 1)
stamped-items (Visit ∷ ms) t = stamped-items ms (t + 0)
stamped-items (In z ∷ ms) t = ap suc (stamped-items ms (t + 0))
