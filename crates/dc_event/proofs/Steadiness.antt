-- Steady runs are admissible.
use Rattle.std.proofs.Common.{◌≡◌, ℕ, zero, suc, ◌+◌, ◌-◌, ◌*◌, ◌/◌, ◌%◌, ◌≤◌, ◌<◌, ◌≢◌, ◌⊎◌, ◌==◌, min, Bool, true, false, cond, eqb, Option, Some, None, List, [], ◌∷◌, ◌++◌, length, replicate, refl, sym, ap, inl, inr, ◌∙◌, arith, append_assoc}
use Rattle.std.proofs.lemmas.List.{append-nil}
use Rattle.std.proofs.lemmas.Bool.{cases_lt, cases_eq, eq-eqb, ne_eqb}
use Rattle.std.proofs.Math.Nat.{mul-le-mul_left, mul-mod_right, mod-lt}
use Rattle.dc_bound.specs.Window.{HoldAtLeast, count_in, one_in, ticks_of}
use Rattle.dc_bound.specs.Run.{ticks, picks, one_if, stamp, stamped}
use Rattle.dc_bound.specs.lemmas.Counts.{one_in_cases}
use Rattle.dc_bound.specs.lemmas.Budget.{pace_times}
use Rattle.dc_bound.specs.lemmas.Segments.{ticks-append, picks-append}
use Rattle.dc_bound.specs.lemmas.Steps.{stamped-append, ticks_of-append, count-append, stamped-count}
use Rattle.dc_bound.specs.lemmas.Queued.{ins-append, ins-count}
use Rattle.dc_bound.specs.Moves.{move_ends, tag_of, ins}
use Rattle.dc_bound.specs.Moves.Move.{Visit}
use Rattle.dc_bound.specs.Tags.{with_tag}
use Rattle.dc_tables.specs.TableRows.{TableRows, AreValid, router_row, output_row, stream_row}
use Rattle.dc_event.specs.Time.{ends, route_of, send_of}
use Rattle.dc_event.specs.Buses.{visited_bus, move_of, moves, bus_arrivals, arrivals}
use Rattle.dc_event.specs.Admissible.{IsNumbered, IsRun, KeepsSources, KeepsBudgets}
use Rattle.dc_event.specs.Steady.{each_below, router_steps, output_steps, steady_tick, steady}
use Rattle.dc_event.specs.Laws.{SteadyAdmissible, SteadyTicks}
use Rattle.dc_event.specs.lemmas.RunPush.{moves-push}
use Rattle.dc_event.specs.lemmas.RunMoves.{moves-nil}
use Rattle.dc_event.specs.declared.event.Event.{Event}
use Rattle.dc_event.specs.declared.event.Event.TheVariants.{Tick, Arrive, Route, Send}

-- ---- how many events are picked

module _ (pick : Event → Option ℕ) where
  picks-replicate : (m : ℕ) (e : Event) → picks pick (replicate m e) ≡ m * one_if (pick e)
  unfolding picks
  picks-replicate zero e = omega arith
  picks-replicate (suc m) e = omega (arith, picks-replicate m e)

  picks-nil : picks pick [] ≡ 0
  unfolding picks
  picks-nil = refl

  -- where none but part i has picked events
  picks-none : (f : ℕ → List Event) (n : ℕ) → ((j : ℕ) → j < n → picks pick (f j) ≡ 0) → picks pick (each_below f n) ≡ 0
  picks-none f zero none = picks-nil
  picks-none f (suc n) none = omega (arith, picks-append ends pick (each_below f n) (f n), picks-none f n (λ j l. none j (omega arith)), none n (omega arith))

  picks-one : (f : ℕ → List Event) (i n : ℕ) → i < n → ((j : ℕ) → j ≢ i → picks pick (f j) ≡ 0) → picks pick (each_below f n) ≡ picks pick (f i)
  picks-one f i zero there none = absurd (omega arith)
  picks-one f i (suc n) there none =
      let all : picks pick (each_below f n ++ f n) ≡ picks pick (each_below f n) + picks pick (f n) = picks-append ends pick (each_below f n) (f n) in
      elim (cases_eq n i) [
        | inl same ↦ omega (arith, all, picks-none f n (λ j l. none j (λ e. absurd (omega arith))), ap (λ k. picks pick (f k)) same)
        | inr other ↦ omega (arith, all, picks-one f i n (let l : i < n = omega arith in l) none, none n other)
      ]

  -- the events of one tick are picked in it
  same_tick : (u d t : ℕ) (es : List Event) → ticks ends es ≡ 0 → count_in u d (ticks_of (stamped ends pick t es)) ≡ picks pick es * one_in u d t
  unfolding stamped count_in picks ticks
  same_tick u d t [] h = omega arith
  same_tick u d t (e ∷ es) h =
      let stays : t + ends e ≡ t = omega arith in
      let rest : count_in u d (ticks_of (stamped ends pick t es)) ≡ picks pick es * one_in u d t = same_tick u d t es (omega arith) in
      let moved : count_in u d (ticks_of (stamp t (pick e) (stamped ends pick (t + ends e) es))) ≡ count_in u d (ticks_of (stamp t (pick e) (stamped ends pick t es))) = ap (λ k. count_in u d (ticks_of (stamp t (pick e) (stamped ends pick k es)))) stays in
      moved ∙ elim (pick e) as (λ o. count_in u d (ticks_of (stamp t o (stamped ends pick t es))) ≡ (one_if o + picks pick es) * one_in u d t) [
        | None ↦ omega (arith, rest)
        | Some x ↦ omega (arith, rest)
      ]

-- ---- sums over ticks

-- the sum of c k over the ticks k below n in the window
total : (ℕ → ℕ) → ℕ → ℕ → ℕ → ℕ
total c u d zero = 0
total c u d (suc n) = total c u d n + c n * one_in u d n

overlap : ℕ → ℕ → ℕ → ℕ
overlap u d n = min n (u + d) - min n u

overlap-next : (u d n : ℕ) → overlap u d (suc n) ≡ overlap u d n + one_in u d n
unfolding overlap
overlap-next u d n = elim (one_in_cases u d n) [ inl w ↦ omega arith | inr v ↦ elim v [ inl w ↦ omega arith | inr w ↦ omega arith ] ]

total-const : (m u d n : ℕ) → total (λ _. m) u d n ≡ m * overlap u d n
unfolding total
total-const m u d zero = let z : overlap u d 0 ≡ 0 = unfold overlap in omega arith in omega (arith, ap (λ x. m * x) z)
total-const m u d (suc n) = omega (arith, total-const m u d n, ap (λ x. m * x) (overlap-next u d n))

overlap-full : (u d n : ℕ) → u + d ≤ n → overlap u d n ≡ d
unfolding overlap
overlap-full u d n h = omega arith

overlap-le : (u d n : ℕ) → overlap u d n ≤ d
unfolding overlap
overlap-le u d n = omega arith

-- ---- multiples of a gap

total-member : (c : ℕ → ℕ) (u d n k : ℕ) → k < n → c k * one_in u d k ≤ total c u d n
unfolding total
total-member c u d zero k h = absurd (omega arith)
total-member c u d (suc n) k h = elim (cases_eq k n) [
  | inl same ↦ omega (arith, ap (λ k. c k * one_in u d k) same)
  | inr other ↦ omega (arith, total-member c u d n k (let l : k < n = omega arith in l))
]

-- 1 at the multiples of the gap
abbrev at_gap : ℕ → ℕ → ℕ
at_gap g k = cond (k % g == 0) 1 0

at_gap-yes : (g k : ℕ) → k % g ≡ 0 → at_gap g k ≡ 1
at_gap-yes g k h = let e : eqb (k % g) 0 ≡ true = eq-eqb (k % g) 0 h in rw e refl

at_gap-no : (g k : ℕ) → (k % g ≡ 0 → ⊥) → at_gap g k ≡ 0
at_gap-no g k h = let e : eqb (k % g) 0 ≡ false = ne_eqb (k % g) 0 h in rw e refl

one_in-inside : (u d k : ℕ) → u ≤ k → k < u + d → one_in u d k ≡ 1
one_in-inside u d k h l = elim (one_in_cases u d k) [ inl w ↦ w.2 | inr v ↦ elim v [ inl w ↦ absurd (omega arith) | inr w ↦ absurd (omega arith) ] ]

-- the first multiple of the gap from u on
first_multiple : (g u : ℕ) → 1 ≤ g → (k : ℕ) × (u ≤ k) × (k < u + g) × (k % g ≡ 0)
first_multiple g u some =
    (g * ((u + (g - 1)) / g), omega (arith, mod-lt (u + (g - 1)) some), omega (arith, mod-lt (u + (g - 1)) some), mul-mod_right g ((u + (g - 1)) / g))

-- two multiples lie a gap apart
multiples_apart : (g a b : ℕ) → 1 ≤ g → a % g ≡ 0 → b % g ≡ 0 → a < b → a + g ≤ b
multiples_apart g a b some x y h =
    elim (cases_lt (a / g) (b / g)) [
      | inl l ↦ omega (arith, mul-le-mul_left g (let s : suc (a / g) ≤ b / g = omega arith in s))
      | inr l ↦ absurd (omega (arith, mul-le-mul_left g l))
    ]

gap-window : (g u n : ℕ) → 1 ≤ g → u + g ≤ n → 1 ≤ total (at_gap g) u g n
gap-window g u n some whole =
    let k = first_multiple g u some in
    omega (
      arith,
      total-member (at_gap g) u g n k.0 (omega (arith, k.2)),
      at_gap-yes g k.0 k.3,
      one_in-inside u g k.0 k.1 k.2,
      ap (λ x. x * one_in u g k.0) (at_gap-yes g k.0 k.3),
    )

-- none in the window yet, or one that is a multiple in it
OneSoFar : ℕ → ℕ → ℕ → Type 0
OneSoFar g u n = (total (at_gap g) u g n ≡ 0) ⊎ ((k : ℕ) × (k < n) × (u ≤ k) × (k % g ≡ 0) × (total (at_gap g) u g n ≡ 1))

one_so_far : (g u n : ℕ) → 1 ≤ g → OneSoFar g u n
unfolding OneSoFar total
one_so_far g u zero some = inl refl
one_so_far g u (suc n) some =
    let none : (at_gap g n * one_in u g n ≡ 0) → (total (at_gap g) u g n + at_gap g n * one_in u g n ≡ 0) ⊎ ((k : ℕ) × (k < suc n) × (u ≤ k) × (k % g ≡ 0) × (total (at_gap g) u g n + at_gap g n * one_in u g n ≡ 1)) =
    λ z. elim (one_so_far g u n some) [ inl w ↦ inl (omega arith) | inr (k, l, m, e, s) ↦ inr (k, omega arith, m, e, omega arith) ] in
    elim (cases_eq (n % g) 0) [
      | inr other ↦ none (omega (arith, ap (λ x. x * one_in u g n) (at_gap-no g n other)))
      | inl hit ↦ elim (one_in_cases u g n) [
        | inr v ↦ elim v [ inl w ↦ none (omega (arith, ap (λ x. at_gap g n * x) w.1)) | inr w ↦ none (omega (arith, ap (λ x. at_gap g n * x) w.1)) ]
        | inl w ↦ elim (one_so_far g u n some) [
          | inl z ↦ inr (n, omega arith, w.0, hit, omega (arith, ap (λ x. x * one_in u g n) (at_gap-yes g n hit), w.2))
          | inr (k, l, m, e, s) ↦ absurd (omega (arith, multiples_apart g k n some e hit l, w.1))
        ]
      ]
    ]

gap-most : (g u n : ℕ) → 1 ≤ g → total (at_gap g) u g n ≤ 1
unfolding OneSoFar
gap-most g u n some = elim (one_so_far g u n some) [ inl z ↦ omega arith | inr (k, l, m, e, s) ↦ omega arith ]

-- ---- the events of a tick

ticks-replicate : (m : ℕ) (e : Event) → ends e ≡ 0 → ticks ends (replicate m e) ≡ 0
unfolding ticks
ticks-replicate zero e h = refl
ticks-replicate (suc m) e h = omega (arith, ticks-replicate m e h)

ticks-below : (f : ℕ → List Event) (n : ℕ) → ((j : ℕ) → ticks ends (f j) ≡ 0) → ticks ends (each_below f n) ≡ 0
unfolding ticks
ticks-below f zero none = refl
ticks-below f (suc n) none = omega (arith, ticks-append ends (route_of 0) (each_below f n) (f n), ticks-below f n none, none n)

output_steps-ticks : (t : TableRows) (tick o : ℕ) → ticks ends (output_steps t tick o) ≡ 0
unfolding ticks
output_steps-ticks t tick o = elim (tick % (output_row t o).gap == 0) as (λ v. ticks ends (cond v (Send o ∷ []) []) ≡ 0) [ true ↦ refl | false ↦ refl ]

-- the steps before the Tick
abbrev steps_of : TableRows → ℕ → List Event
steps_of t tick = each_below (router_steps t) (length t.routers) ++ each_below (output_steps t tick) (length t.outputs)

steady_tick-is : (t : TableRows) (tick : ℕ) → steady_tick t tick ≡ steps_of t tick ++ Tick ∷ []
steady_tick-is t tick = sym (append_assoc (each_below (router_steps t) (length t.routers)) (each_below (output_steps t tick) (length t.outputs)) (Tick ∷ []))

steps_of-ticks : (t : TableRows) (tick : ℕ) → ticks ends (steps_of t tick) ≡ 0
steps_of-ticks t tick = omega (
  arith,
  ticks-append ends (route_of 0) (each_below (router_steps t) (length t.routers)) (each_below (output_steps t tick) (length t.outputs)),
  ticks-below (router_steps t) (length t.routers) (λ r. ticks-replicate (router_row t r).most (Route r) refl),
  ticks-below (output_steps t tick) (length t.outputs) (λ o. output_steps-ticks t tick o),
)

steady_tick-ticks : (t : TableRows) (tick : ℕ) → ticks ends (steady_tick t tick) ≡ 1
unfolding ticks
steady_tick-ticks t tick = omega (arith, ap (ticks ends) (steady_tick-is t tick), ticks-append ends (route_of 0) (steps_of t tick) (Tick ∷ []), steps_of-ticks t tick)

pub steady-ticks : (t : TableRows) → SteadyTicks t
unfolding steady ticks
steady-ticks t zero = refl
steady-ticks t (suc n) = omega (arith, ticks-append ends (route_of 0) (steady t n) (steady_tick t n), steady-ticks t n, steady_tick-ticks t n)

-- ---- steps in a window

module _ (t : TableRows) (pick : Event → Option ℕ) (no_tick : pick Tick ≡ None) (c : ℕ → ℕ) (each : (tick : ℕ) → picks pick (steps_of t tick) ≡ c tick) where
  abbrev held : ℕ → ℕ → ℕ → ℕ
  held u d n = count_in u d (ticks_of (stamped ends pick 0 (steady t n)))

  last_tick : (u d n : ℕ) → count_in u d (ticks_of (stamped ends pick n (steady_tick t n))) ≡ c n * one_in u d n
  unfolding stamped count_in
  last_tick u d n =
      let none : ticks_of (stamp (n + ticks ends (steps_of t n)) (pick Tick) []) ≡ [] = ap (λ o. ticks_of (stamp (n + ticks ends (steps_of t n)) o [])) no_tick in
      ap (λ es. count_in u d (ticks_of (stamped ends pick n es))) (steady_tick-is t n)
      ∙ ap (λ xs. count_in u d (ticks_of xs)) (stamped-append ends pick n (steps_of t n) (Tick ∷ []))
      ∙ ap (count_in u d) (ticks_of-append (stamped ends pick n (steps_of t n)) (stamped ends pick (n + ticks ends (steps_of t n)) (Tick ∷ [])))
      ∙ ap (λ xs. count_in u d (ticks_of (stamped ends pick n (steps_of t n)) ++ xs)) none
      ∙ ap (count_in u d) (append-nil (ticks_of (stamped ends pick n (steps_of t n))))
      ∙ same_tick pick u d n (steps_of t n) (steps_of-ticks t n)
      ∙ ap (λ x. x * one_in u d n) (each n)

  held-nil : (u d : ℕ) → count_in u d (ticks_of (stamped ends pick 0 [])) ≡ 0
  unfolding stamped count_in
  held-nil u d = refl

  held-total : (u d n : ℕ) → held u d n ≡ total c u d n
  unfolding steady total
  held-total u d zero = held-nil u d
  held-total u d (suc n) =
      let at : 0 + ticks ends (steady t n) ≡ n = omega (arith, steady-ticks t n) in
      ap (λ xs. count_in u d (ticks_of xs)) (stamped-append ends pick 0 (steady t n) (steady_tick t n))
      ∙ ap (count_in u d) (ticks_of-append (stamped ends pick 0 (steady t n)) (stamped ends pick (0 + ticks ends (steady t n)) (steady_tick t n)))
      ∙ count-append u d (ticks_of (stamped ends pick 0 (steady t n))) (ticks_of (stamped ends pick (0 + ticks ends (steady t n)) (steady_tick t n)))
      ∙ ap (λ k. held u d n + count_in u d (ticks_of (stamped ends pick k (steady_tick t n)))) at
      ∙ omega (arith, held-total u d n, last_tick u d n)

-- ---- a router's steps, an output's sends

route_other : (r q : ℕ) → q ≢ r → one_if (route_of r (Route q)) ≡ 0
route_other r q other = let no' : eqb q r ≡ false = ne_eqb q r other in rw no' refl

route_self : (r : ℕ) → one_if (route_of r (Route r)) ≡ 1
route_self r = let yes' : eqb r r ≡ true = eq-eqb r r refl in rw yes' refl

send_other : (o q : ℕ) → q ≢ o → one_if (send_of o (Send q)) ≡ 0
send_other o q other = let no' : eqb q o ≡ false = ne_eqb q o other in rw no' refl

send_self : (o : ℕ) → one_if (send_of o (Send o)) ≡ 1
send_self o = let yes' : eqb o o ≡ true = eq-eqb o o refl in rw yes' refl

output_steps-routes : (t : TableRows) (r tick o : ℕ) → picks (route_of r) (output_steps t tick o) ≡ 0
unfolding picks
output_steps-routes t r tick o = elim (tick % (output_row t o).gap == 0) as (λ v. picks (route_of r) (cond v (Send o ∷ []) []) ≡ 0) [ true ↦ refl | false ↦ refl ]

routers_in : (t : TableRows) (r tick : ℕ) → r < length t.routers → picks (route_of r) (steps_of t tick) ≡ (router_row t r).most
routers_in t r tick there =
    let part : picks (route_of r) (each_below (router_steps t) (length t.routers)) ≡ picks (route_of r) (router_steps t r) =
    picks-one (route_of r) (router_steps t) r (length t.routers) there (λ q other. picks-replicate (route_of r) (router_row t q).most (Route q) ∙ omega (arith, ap (λ x. (router_row t q).most * x) (route_other r q other))) in
    omega (
      arith,
      picks-append ends (route_of r) (each_below (router_steps t) (length t.routers)) (each_below (output_steps t tick) (length t.outputs)),
      part,
      picks-replicate (route_of r) (router_row t r).most (Route r),
      ap (λ x. (router_row t r).most * x) (route_self r),
      picks-none (route_of r) (output_steps t tick) (length t.outputs) (λ o l. output_steps-routes t r tick o),
    )

router_steps-sends : (t : TableRows) (o r : ℕ) → picks (send_of o) (router_steps t r) ≡ 0
router_steps-sends t o r = omega (arith, picks-replicate (send_of o) (router_row t r).most (Route r))

output_steps-sends : (t : TableRows) (o tick q : ℕ) → picks (send_of o) (output_steps t tick q) ≡ cond (tick % (output_row t q).gap == 0) (one_if (send_of o (Send q))) 0
unfolding picks
output_steps-sends t o tick q = elim (tick % (output_row t q).gap == 0) as (λ v. picks (send_of o) (cond v (Send q ∷ []) []) ≡ cond v (one_if (send_of o (Send q))) 0) [ true ↦ omega arith | false ↦ refl ]

never : (v : Bool) → cond {A = ℕ} v 0 0 ≡ 0
never true = refl
never false = refl

outputs_in : (t : TableRows) (o tick : ℕ) → o < length t.outputs → picks (send_of o) (steps_of t tick) ≡ at_gap (output_row t o).gap tick
outputs_in t o tick there =
    let part : picks (send_of o) (each_below (output_steps t tick) (length t.outputs)) ≡ picks (send_of o) (output_steps t tick o) =
    picks-one (send_of o) (output_steps t tick) o (length t.outputs) there (λ q other. output_steps-sends t o tick q ∙ ap (λ x. cond (tick % (output_row t q).gap == 0) x 0) (send_other o q other) ∙ never (tick % (output_row t q).gap == 0)) in
    let one : picks (send_of o) (output_steps t tick o) ≡ at_gap (output_row t o).gap tick = output_steps-sends t o tick o ∙ ap (λ x. cond (tick % (output_row t o).gap == 0) x 0) (send_self o) in
    omega (
      arith,
      picks-append ends (send_of o) (each_below (router_steps t) (length t.routers)) (each_below (output_steps t tick) (length t.outputs)),
      picks-none (send_of o) (router_steps t) (length t.routers) (λ r l. router_steps-sends t o r),
      part,
      one,
    )

-- ---- budgets

module _ (t : TableRows) (valid : AreValid t) (n : ℕ) where
  router_held : (r : ℕ) → r < length t.routers → (u d : ℕ) → count_in u d (ticks_of (stamped ends (route_of r) 0 (steady t n))) ≡ (router_row t r).most * overlap u d n
  router_held r there u d = held-total t (route_of r) refl (λ _. (router_row t r).most) (λ tick. routers_in t r tick there) u d n ∙ total-const (router_row t r).most u d n

  output_held : (o : ℕ) → o < length t.outputs → (u d : ℕ) → count_in u d (ticks_of (stamped ends (send_of o) 0 (steady t n))) ≡ total (at_gap (output_row t o).gap) u d n
  output_held o there u d = held-total t (send_of o) refl (at_gap (output_row t o).gap) (λ tick. outputs_in t o tick there) u d n

  one_a_gap : (o : ℕ) → o < length t.outputs → HoldAtLeast 1 (output_row t o).gap n (ticks_of (stamped ends (send_of o) 0 (steady t n)))
  one_a_gap o there = λ u whole. omega (arith, gap-window (output_row t o).gap u n (valid.gaps_some o there) whole, output_held o there u (output_row t o).gap)

  steady-budgets : KeepsBudgets t (steady t n)
  steady-budgets = record {
    routers_work = λ r there u whole. omega (
      arith,
      router_held r there u (router_row t r).within,
      ap (λ x. (router_row t r).most * x) (overlap-full u (router_row t r).within n (omega (arith, steady-ticks t n))),
      valid.routers_able r there,
    );
    routers_rest = λ r there u. omega (arith, router_held r there u 1, mul-le-mul_left (router_row t r).most (overlap-le u 1 n));
    outputs_work = λ o there u whole. omega (
      arith,
      pace_times 1 (output_row t o).gap n (ticks_of (stamped ends (send_of o) 0 (steady t n))) (one_a_gap o there) (output_row t o).steps u (output_row t o).within (valid.outputs_able o there) (omega (arith, steady-ticks t n)),
    );
    outputs_rest = λ o there u. omega (arith, output_held o there u (output_row t o).gap, gap-most (output_row t o).gap u n (valid.gaps_some o there));
  }

-- ---- no event arrives, and each has its number

-- an event of these tables that is no arrival
IsStep : TableRows → Event → Type 0
IsStep t Tick = Unit {0}
IsStep t (Arrive w b) = ⊥
IsStep t (Route r) = r < length t.routers
IsStep t (Send o) = o < length t.outputs

AreSteps : TableRows → List Event → Type 0
AreSteps t [] = Unit {0}
AreSteps t (e ∷ es) = IsStep t e × AreSteps t es

steps-append : (t : TableRows) (xs ys : List Event) → AreSteps t xs → AreSteps t ys → AreSteps t (xs ++ ys)
unfolding AreSteps
steps-append t [] ys h k = k
steps-append t (x ∷ xs) ys h k = (h.0, steps-append t xs ys h.1 k)

steps-replicate : (t : TableRows) (m : ℕ) (e : Event) → IsStep t e → AreSteps t (replicate m e)
unfolding AreSteps
steps-replicate t zero e h = tt
steps-replicate t (suc m) e h = (h, steps-replicate t m e h)

steps-below : (t : TableRows) (f : ℕ → List Event) (n : ℕ) → ((j : ℕ) → j < n → AreSteps t (f j)) → AreSteps t (each_below f n)
unfolding AreSteps
steps-below t f zero h = tt
steps-below t f (suc n) h = steps-append t (each_below f n) (f n) (steps-below t f n (λ j l. h j (omega arith))) (h n (omega arith))

output_steps-steps : (t : TableRows) (tick o : ℕ) → o < length t.outputs → AreSteps t (output_steps t tick o)
unfolding AreSteps IsStep
output_steps-steps t tick o there = elim (tick % (output_row t o).gap == 0) as (λ v. AreSteps t (cond v (Send o ∷ []) [])) [ true ↦ (there, tt) | false ↦ tt ]

router_steps-steps : (t : TableRows) (r : ℕ) → r < length t.routers → AreSteps t (router_steps t r)
unfolding IsStep
router_steps-steps t r there = steps-replicate t (router_row t r).most (Route r) there

tick-step : (t : TableRows) → AreSteps t (Tick ∷ [])
unfolding AreSteps IsStep
tick-step t = (tt, tt)

steady-steps : (t : TableRows) (n : ℕ) → AreSteps t (steady t n)
unfolding steady
steady-steps t n = steps-below t (steady_tick t) n (λ tick l.
    steps-append t (each_below (router_steps t) (length t.routers)) (each_below (output_steps t tick) (length t.outputs) ++ Tick ∷ [])
    (steps-below t (router_steps t) (length t.routers) (λ r there. router_steps-steps t r there))
    (steps-append t (each_below (output_steps t tick) (length t.outputs)) (Tick ∷ []) (steps-below t (output_steps t tick) (length t.outputs) (λ o there. output_steps-steps t tick o there)) (tick-step t)))

step-numbered : (t : TableRows) (e : Event) → IsStep t e → IsNumbered t e
unfolding IsStep
step-numbered t Tick h = tt
step-numbered t (Arrive w b) h = absurd h
step-numbered t (Route r) h = h
step-numbered t (Send o) h = h

steps-run-cons : (t : TableRows) (e : Event) (es : List Event) → IsStep t e → IsRun t es → IsRun t (e ∷ es)
steps-run-cons t e es h k zero d l = step-numbered t e h
steps-run-cons t e es h k (suc i) d l = k i d (omega arith)

steps-run : (t : TableRows) (es : List Event) → AreSteps t es → IsRun t es
unfolding AreSteps
steps-run t [] h = λ k d l. absurd (omega arith)
steps-run t (e ∷ es) h = steps-run-cons t e es h.0 (steps-run t es h.1)

step-ins : (t : TableRows) (b : ℕ) (past : List Event) (e : Event) → IsStep t e → ins (move_of t b past e) ≡ []
unfolding IsStep ins
step-ins t b past Tick h = refl
step-ins t b past (Arrive w a) h = absurd h
step-ins t b past (Route r) h = elim (visited_bus t r past == b) as (λ v. ins (cond v (Visit ∷ []) []) ≡ []) [ true ↦ refl | false ↦ refl ]
step-ins t b past (Send o) h = refl

steps-ins : (t : TableRows) (b : ℕ) (past es : List Event) → ins (moves t b past) ≡ [] → AreSteps t es → ins (moves t b (past ++ es)) ≡ []
unfolding AreSteps
steps-ins t b past [] none h = ap (λ run. ins (moves t b run)) (append-nil past) ∙ none
steps-ins t b past (e ∷ es) none h =
    let next : ins (moves t b (past ++ e ∷ [])) ≡ [] =
    ap ins (moves-push t b past e) ∙ ins-append (moves t b past) (move_of t b past e) ∙ ap (λ xs. xs ++ ins (move_of t b past e)) none ∙ step-ins t b past e h.0 in
    ap (λ run. ins (moves t b run)) (sym (append_assoc past (e ∷ []) es)) ∙ steps-ins t b (past ++ e ∷ []) es next h.1

no_ins : (t : TableRows) (b : ℕ) → ins (moves t b []) ≡ []
unfolding ins
no_ins t b = ap ins (moves-nil t b)

none_of_ticks : (xs : List (ℕ × ℕ)) → length (ticks_of xs) ≡ 0 → xs ≡ []
none_of_ticks [] h = refl
none_of_ticks (x ∷ xs) h = absurd (omega arith)

-- steps alone bring no arrival
steps-arrivals : (t : TableRows) (b : ℕ) (es : List Event) → AreSteps t es → bus_arrivals t b es ≡ []
steps-arrivals t b es h =
    let none : ins (moves t b es) ≡ [] = steps-ins t b [] es (no_ins t b) h in
    none_of_ticks (bus_arrivals t b es) (stamped-count move_ends tag_of 0 (moves t b es) ∙ sym (ins-count (moves t b es)) ∙ ap length none)

empty-most : (u d : ℕ) (xs : List (ℕ × ℕ)) → xs ≡ [] → count_in u d (ticks_of xs) ≡ 0
unfolding count_in
empty-most u d xs e = ap (λ z. count_in u d (ticks_of z)) e

steps-sources : (t : TableRows) (es : List Event) → AreSteps t es → KeepsSources t es
steps-sources t es h = record {
  streams_rest = λ s there unpoliced d u. omega (arith, empty-most u d (arrivals t s es) (ap (with_tag s) (steps-arrivals t (stream_row t s).bus es h)));
  wires_rest = λ b there unpoliced d some u. omega (arith, empty-most u d (bus_arrivals t b es) (steps-arrivals t b es h));
}

pub steady-admissible : (t : TableRows) → AreValid t → SteadyAdmissible t
steady-admissible t valid n = record {
  numbers = steps-run t (steady t n) (steady-steps t n);
  sources = steps-sources t (steady t n) (steady-steps t n);
  budgets = steady-budgets t valid n;
}
