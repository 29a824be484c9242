-- What a trace brings.
use Rattle.std.proofs.Common.{◌≡◌, ℕ, zero, suc, ◌+◌, ◌-◌, ◌≤◌, ◌<◌, ◌==◌, true, false, cond, ltb, List, [], ◌∷◌, ◌++◌, filter, map, refl, sym, ap, ◌∙◌, arith, add-zero, inl, inr, eq-eqb}
use Rattle.std.proofs.lemmas.Bool.{cases_lt, lt-ltb, le-ltb, ne_eqb, eqb-true}
use Rattle.std.proofs.lemmas.List.{append-nil}
use Rattle.std.proofs.Math.Nat.{div-mul-le_self}
use Rattle.dc_bound.specs.Window.{ticks_of}
use Rattle.dc_bound.specs.Run.{ticks, stamped}
use Rattle.dc_bound.specs.Turns.{NeverFall}
use Rattle.dc_bound.specs.lemmas.Counts.{ceil_from}
use Rattle.dc_bound.specs.lemmas.Steps.{stamped-append}
use Rattle.dc_tables.specs.TableRows.{TableRows}
use Rattle.dc_event.specs.Time.{ends, tick_after}
use Rattle.dc_event.specs.Steady.{each_below, steady_tick, steady}
use Rattle.dc_event.specs.declared.event.Event.{Event}
use Rattle.dc_event.specs.declared.event.Event.TheVariants.{Tick, Arrive, Route, Send}
use Rattle.dc_trace.specs.Traces.{tick_at, arrive, words_in, traced_tick, last_of, traced_ticks, traced, brought}
use Rattle.dc_trace.specs.lemmas.Stepping.{steps, ticks-steps, tick-steps, traced-steps}

-- ---- ticks of times

module _ (from tick_us : ℕ) (some : 1 ≤ tick_us) where
  rises : (a b : ℕ) → a ≤ b → tick_at from tick_us a ≤ tick_at from tick_us b
  rises a b le = ceil_from tick_us (tick_at from tick_us a) (b - from) some (omega (arith, div-mul-le_self (a - from) tick_us))

  none_below : (n : ℕ) (x : ℕ × (ℕ × ℕ)) (xs : List (ℕ × (ℕ × ℕ))) → NeverFall (x.0 ∷ ticks_of xs) → n ≤ tick_at from tick_us x.0 → filter (λ y. ltb (tick_at from tick_us y.0) n) xs ≡ []
  unfolding NeverFall
  none_below n x [] order le = refl
  none_below n x (y ∷ ys) order le = rw (le-ltb (tick_at from tick_us y.0) n (omega (arith, le, rises x.0 y.0 order.0))) (none_below n y ys order.1 (omega (arith, le, rises x.0 y.0 order.0)))

  none_at : (n : ℕ) (x : ℕ × (ℕ × ℕ)) (xs : List (ℕ × (ℕ × ℕ))) → NeverFall (x.0 ∷ ticks_of xs) → n < tick_at from tick_us x.0 → filter (λ y. tick_at from tick_us y.0 == n) xs ≡ []
  unfolding NeverFall
  none_at n x [] order le = refl
  none_at n x (y ∷ ys) order le = rw (ne_eqb (tick_at from tick_us y.0) n (λ e. omega (arith, e, le, rises x.0 y.0 order.0))) (none_at n y ys order.1 (omega (arith, le, rises x.0 y.0 order.0)))

  order_tail : (x : ℕ × (ℕ × ℕ)) (xs : List (ℕ × (ℕ × ℕ))) → NeverFall (x.0 ∷ ticks_of xs) → NeverFall (ticks_of xs)
  unfolding NeverFall
  order_tail x [] order = tt
  order_tail x (y ∷ ys) order = order.1

  -- those of earlier ticks, and then those of this one
  split : (n : ℕ) (xs : List (ℕ × (ℕ × ℕ))) → NeverFall (ticks_of xs) → filter (λ y. ltb (tick_at from tick_us y.0) n) xs ++ filter (λ y. tick_at from tick_us y.0 == n) xs ≡ filter (λ y. ltb (tick_at from tick_us y.0) (suc n)) xs
  split n [] order = refl
  split n (x ∷ xs) order =
      let rest = split n xs (order_tail x xs order) in
      elim (cases_lt (tick_at from tick_us x.0) n) [
        | inl below ↦
            rw (lt-ltb (tick_at from tick_us x.0) n below, ne_eqb (tick_at from tick_us x.0) n (λ e. omega (arith, e, below)), lt-ltb (tick_at from tick_us x.0) (suc n) (omega (arith, below)))
            (ap (λ l. x ∷ l) rest)
        | inr from_it ↦ elim (cases_lt n (tick_at from tick_us x.0)) [
          | inl above ↦
              rw (le-ltb (tick_at from tick_us x.0) n from_it, ne_eqb (tick_at from tick_us x.0) n (λ e. omega (arith, e, above)), le-ltb (tick_at from tick_us x.0) (suc n) (omega (arith, above))) rest
          | inr same ↦
              let e : tick_at from tick_us x.0 ≡ n = omega (arith, from_it, same) in
              rw (le-ltb (tick_at from tick_us x.0) n from_it, eq-eqb (tick_at from tick_us x.0) n e, lt-ltb (tick_at from tick_us x.0) (suc n) (omega (arith, e)), none_below n x xs order from_it)
              (ap (λ l. x ∷ l) (ap (λ l. l ++ filter (λ y. tick_at from tick_us y.0 == n) xs) (sym (none_below n x xs order from_it)) ∙ rest))
        ]
      ]

  none_first : (xs : List (ℕ × (ℕ × ℕ))) → filter (λ y. ltb (tick_at from tick_us y.0) 0) xs ≡ []
  none_first [] = refl
  none_first (x ∷ xs) = rw (le-ltb (tick_at from tick_us x.0) 0 (omega arith)) (none_first xs)

  last_late : (x : ℕ × (ℕ × ℕ)) (xs : List (ℕ × (ℕ × ℕ))) → NeverFall (x.0 ∷ ticks_of xs) → x.0 ≤ last_of x.0 xs
  unfolding NeverFall
  last_late x [] order = omega arith
  last_late x (y ∷ ys) order = omega (arith, order.0, last_late y ys order.1)

  all_of_them : (n : ℕ) (x : ℕ × (ℕ × ℕ)) (xs : List (ℕ × (ℕ × ℕ))) → NeverFall (x.0 ∷ ticks_of xs) → tick_at from tick_us (last_of x.0 xs) < n → filter (λ y. ltb (tick_at from tick_us y.0) n) (x ∷ xs) ≡ x ∷ xs
  unfolding NeverFall
  all_of_them n x [] order lt = rw (lt-ltb (tick_at from tick_us x.0) n lt) refl
  all_of_them n x (y ∷ ys) order lt =
      let early : tick_at from tick_us x.0 < n = omega (arith, lt, rises x.0 (last_of y.0 ys) (omega (arith, order.0, last_late y ys order.1))) in
      rw (lt-ltb (tick_at from tick_us x.0) n early) (ap (λ l. x ∷ l) (all_of_them n y ys order.1 lt))

-- ---- what is stamped

abbrev stamp_at : ℕ → ℕ × (ℕ × ℕ) → ℕ × (ℕ × ℕ)
stamp_at n x = (n, x.1)

abbrev in_its_tick : (from tick_us : ℕ) → ℕ × (ℕ × ℕ) → ℕ × (ℕ × ℕ)
in_its_tick from tick_us x = (tick_at from tick_us x.0, x.1)

words-stamped : (n : ℕ) (xs : List (ℕ × (ℕ × ℕ))) → stamped ends brought n (map arrive xs) ≡ map (stamp_at n) xs
unfolding stamped
words-stamped n [] = refl
words-stamped n (x ∷ xs) = ap (λ l. stamp_at n x ∷ l) (ap (λ k. stamped ends brought k (map arrive xs)) (add-zero n) ∙ words-stamped n xs)

words-ticks : (xs : List (ℕ × (ℕ × ℕ))) → ticks ends (map arrive xs) ≡ 0
unfolding ticks
words-ticks [] = refl
words-ticks (x ∷ xs) = omega (arith, words-ticks xs)

steps-stamped : (n : ℕ) (run : List Event) → stamped ends brought n (steps run) ≡ []
unfolding stamped
steps-stamped n [] = refl
steps-stamped n (Tick ∷ run) = steps-stamped (n + 1) run
steps-stamped n (Arrive w b ∷ run) = steps-stamped n run
steps-stamped n (Route r ∷ run) = steps-stamped (n + 0) run
steps-stamped n (Send o ∷ run) = steps-stamped (n + 0) run

map-append : {X Y : Type 0} (f : X → Y) (xs ys : List X) → map f (xs ++ ys) ≡ map f xs ++ map f ys
map-append f [] ys = refl
map-append f (x ∷ xs) ys = ap (λ l. f x ∷ l) (map-append f xs ys)

-- those of one tick have this tick
of_tick : (from tick_us n : ℕ) (xs : List (ℕ × (ℕ × ℕ))) → map (stamp_at n) (filter (λ y. tick_at from tick_us y.0 == n) xs) ≡ map (in_its_tick from tick_us) (filter (λ y. tick_at from tick_us y.0 == n) xs)
of_tick from tick_us n [] = refl
of_tick from tick_us n (x ∷ xs) =
    elim (tick_at from tick_us x.0 == n) as (λ b. (tick_at from tick_us x.0 == n) ≡ b → map (stamp_at n) (cond b (x ∷ filter (λ y. tick_at from tick_us y.0 == n) xs) (filter (λ y. tick_at from tick_us y.0 == n) xs)) ≡ map (in_its_tick from tick_us) (cond b (x ∷ filter (λ y. tick_at from tick_us y.0 == n) xs) (filter (λ y. tick_at from tick_us y.0 == n) xs))) [
      | true ↦ λ e. (let same : tick_at from tick_us x.0 ≡ n = eqb-true (tick_at from tick_us x.0) n e in
          ap (λ k. stamp_at k x ∷ map (stamp_at n) (filter (λ y. tick_at from tick_us y.0 == n) xs)) (sym same) ∙ ap (λ l. in_its_tick from tick_us x ∷ l) (of_tick from tick_us n xs))
      | false ↦ λ e. of_tick from tick_us n xs
    ] refl

module _ (t : TableRows) (some : 1 ≤ t.tick_us) (steady_ticks : (n : ℕ) → tick_after (steady t n) ≡ n) (from : ℕ) (capture : List (ℕ × (ℕ × ℕ))) (order : NeverFall (ticks_of capture)) where
  whole : (n : ℕ) → ticks ends (each_below (traced_tick t from capture) n) ≡ n
  unfolding steady
  whole n = sym (ticks-steps (each_below (traced_tick t from capture) n)) ∙ ap (ticks ends) (traced-steps t from capture n) ∙ steady_ticks n

  tick-stamped : (n : ℕ) → stamped ends brought n (traced_tick t from capture n) ≡ map (in_its_tick from t.tick_us) (filter (λ y. tick_at from t.tick_us y.0 == n) capture)
  tick-stamped n =
      let none : stamped ends brought (n + ticks ends (words_in from t.tick_us capture n)) (steady_tick t n) ≡ [] = ap (stamped ends brought (n + ticks ends (words_in from t.tick_us capture n))) (sym (tick-steps t n)) ∙ steps-stamped (n + ticks ends (words_in from t.tick_us capture n)) (steady_tick t n) in
      stamped-append ends brought n (words_in from t.tick_us capture n) (steady_tick t n)
      ∙ ap (λ l. stamped ends brought n (words_in from t.tick_us capture n) ++ l) none ∙ append-nil _
      ∙ words-stamped n (filter (λ y. tick_at from t.tick_us y.0 == n) capture) ∙ of_tick from t.tick_us n capture

  below-stamped : (n : ℕ) → stamped ends brought 0 (each_below (traced_tick t from capture) n) ≡ map (in_its_tick from t.tick_us) (filter (λ y. ltb (tick_at from t.tick_us y.0) n) capture)
  unfolding stamped
  below-stamped zero = sym (ap (map (in_its_tick from t.tick_us)) (none_first from t.tick_us some capture))
  below-stamped (suc n) =
      let here : 0 + ticks ends (each_below (traced_tick t from capture) n) ≡ n = omega (arith, whole n) in
      stamped-append ends brought 0 (each_below (traced_tick t from capture) n) (traced_tick t from capture n)
      ∙ ap (λ k. stamped ends brought 0 (each_below (traced_tick t from capture) n) ++ stamped ends brought k (traced_tick t from capture n)) here
      ∙ ap (λ l. l ++ stamped ends brought n (traced_tick t from capture n)) (below-stamped n)
      ∙ ap (λ l. map (in_its_tick from t.tick_us) (filter (λ y. ltb (tick_at from t.tick_us y.0) n) capture) ++ l) (tick-stamped n)
      ∙ sym (map-append (in_its_tick from t.tick_us) (filter (λ y. ltb (tick_at from t.tick_us y.0) n) capture) (filter (λ y. tick_at from t.tick_us y.0 == n) capture))
      ∙ ap (map (in_its_tick from t.tick_us)) (split from t.tick_us some n capture order)

brings-all : (t : TableRows) → 1 ≤ t.tick_us → ((n : ℕ) → tick_after (steady t n) ≡ n) → (from : ℕ) (capture : List (ℕ × (ℕ × ℕ))) → NeverFall (ticks_of capture)
    → stamped ends brought 0 (each_below (traced_tick t from capture) (traced_ticks from t.tick_us capture)) ≡ map (in_its_tick from t.tick_us) capture
unfolding stamped
brings-all t some steady_ticks from [] order = refl
brings-all t some steady_ticks from (x ∷ xs) order =
    below-stamped t some steady_ticks from (x ∷ xs) order (suc (tick_at from t.tick_us (last_of x.0 xs)))
    ∙ ap (map (in_its_tick from t.tick_us)) (all_of_them from t.tick_us some (suc (tick_at from t.tick_us (last_of x.0 xs))) x xs order (omega arith))

pub traces-bring : (t : TableRows) → 1 ≤ t.tick_us → ((n : ℕ) → tick_after (steady t n) ≡ n) → (from : ℕ) (capture : List (ℕ × (ℕ × ℕ))) → NeverFall (ticks_of capture)
    → stamped ends brought 0 (traced t from capture) ≡ map (in_its_tick from t.tick_us) capture
unfolding traced
traces-bring t some steady_ticks from capture order = brings-all t some steady_ticks from capture order
