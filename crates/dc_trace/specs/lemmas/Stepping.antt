-- A run without the words that come is the same for its actors.
use Rattle.std.proofs.Common.{◌≡◌, ℕ, zero, suc, ◌+◌, Bool, true, false, cond, Option, None, List, [], ◌∷◌, ◌++◌, ◌%◌, ◌==◌, length, filter, map, replicate, refl, sym, ap, ◌∙◌, subst, arith, add-zero}
use Rattle.std.proofs.lemmas.List.Elements.{filter-append}
use Rattle.dc_bound.specs.Window.{HoldAtLeast, HoldAtMost, ticks_of}
use Rattle.dc_bound.specs.Run.{ticks, stamp, stamped}
use Rattle.dc_tables.specs.TableRows.{TableRows, router_row, output_row}
use Rattle.dc_event.specs.Time.{ends, tick_after, route_of, send_of, route_ticks, send_ticks}
use Rattle.dc_event.specs.Admissible.{KeepsBudgets}
use Rattle.dc_event.specs.Steady.{each_below, router_steps, output_steps, steady_tick, steady}
use Rattle.dc_event.specs.declared.event.Event.{Event}
use Rattle.dc_event.specs.declared.event.Event.TheVariants.{Tick, Arrive, Route, Send}
use Rattle.dc_trace.specs.Traces.{tick_at, arrive, words_in, traced_tick, traced_ticks, traced}

-- whether the event is no word
abbrev pub is_step : Event → Bool
is_step Tick = true
is_step (Arrive w b) = false
is_step (Route r) = true
is_step (Send o) = true

abbrev pub steps : List Event → List Event
steps run = filter is_step run

pub stamped-steps : (pick : Event → Option ℕ) → ((w b : ℕ) → pick (Arrive w b) ≡ None) → (k : ℕ) (run : List Event) → stamped ends pick k (steps run) ≡ stamped ends pick k run
unfolding stamped
stamped-steps pick none k [] = refl
stamped-steps pick none k (Tick ∷ run) = ap (stamp k (pick Tick)) (stamped-steps pick none (k + 1) run)
stamped-steps pick none k (Route r ∷ run) = ap (stamp k (pick (Route r))) (stamped-steps pick none (k + 0) run)
stamped-steps pick none k (Send o ∷ run) = ap (stamp k (pick (Send o))) (stamped-steps pick none (k + 0) run)
stamped-steps pick none k (Arrive w b ∷ run) =
    stamped-steps pick none k run ∙ ap (λ n. stamped ends pick n run) (sym (add-zero k)) ∙ ap (λ o. stamp k o (stamped ends pick (k + 0) run)) (sym (none w b))

pub ticks-steps : (run : List Event) → ticks ends (steps run) ≡ ticks ends run
unfolding ticks
ticks-steps [] = refl
ticks-steps (Tick ∷ run) = ap (λ n. 1 + n) (ticks-steps run)
ticks-steps (Route r ∷ run) = ap (λ n. 0 + n) (ticks-steps run)
ticks-steps (Send o ∷ run) = ap (λ n. 0 + n) (ticks-steps run)
ticks-steps (Arrive w b ∷ run) = omega (arith, ticks-steps run)

-- so it keeps the budgets where that does
pub keeps-steps : (t : TableRows) (run : List Event) → KeepsBudgets t (steps run) → KeepsBudgets t run
keeps-steps t run k =
    let routes : (r : ℕ) → route_ticks r (steps run) ≡ route_ticks r run = λ r. ap (λ (xs : List (ℕ × ℕ)). ticks_of xs) (stamped-steps (route_of r) (λ w b. refl) 0 run) in
    let sends : (o : ℕ) → send_ticks o (steps run) ≡ send_ticks o run = λ o. ap (λ (xs : List (ℕ × ℕ)). ticks_of xs) (stamped-steps (send_of o) (λ w b. refl) 0 run) in
    record {
      routers_work = λ r l.
          let P : List ℕ → Type 0 = λ ts. HoldAtLeast (router_row t r).steps (router_row t r).within (tick_after run) ts in
          let Q : ℕ → Type 0 = λ n. HoldAtLeast (router_row t r).steps (router_row t r).within n (route_ticks r (steps run)) in
          subst P (routes r) (subst Q (ticks-steps run) (k.routers_work r l));
      routers_rest = λ r l. (let P : List ℕ → Type 0 = λ ts. HoldAtMost (router_row t r).most 1 ts in subst P (routes r) (k.routers_rest r l));
      outputs_work = λ o l.
          let P : List ℕ → Type 0 = λ ts. HoldAtLeast (output_row t o).steps (output_row t o).within (tick_after run) ts in
          let Q : ℕ → Type 0 = λ n. HoldAtLeast (output_row t o).steps (output_row t o).within n (send_ticks o (steps run)) in
          subst P (sends o) (subst Q (ticks-steps run) (k.outputs_work o l));
      outputs_rest = λ o l. (let P : List ℕ → Type 0 = λ ts. HoldAtMost 1 (output_row t o).gap ts in subst P (sends o) (k.outputs_rest o l));
    }

-- ---- the steps of a trace are those of the steady run

steps-append : (a b : List Event) → steps (a ++ b) ≡ steps a ++ steps b
steps-append a b = filter-append is_step a b

words-steps : (xs : List (ℕ × (ℕ × ℕ))) → steps (map arrive xs) ≡ []
words-steps [] = refl
words-steps (x ∷ xs) = words-steps xs

below-steps : (f : ℕ → List Event) (n : ℕ) → ((k : ℕ) → steps (f k) ≡ f k) → steps (each_below f n) ≡ each_below f n
below-steps f zero h = refl
below-steps f (suc n) h = steps-append (each_below f n) (f n) ∙ ap (λ l. l ++ steps (f n)) (below-steps f n h) ∙ ap (λ l. each_below f n ++ l) (h n)

replicate-steps : (n r : ℕ) → steps (replicate n (Route r)) ≡ replicate n (Route r)
replicate-steps zero r = refl
replicate-steps (suc n) r = ap (λ l. Route r ∷ l) (replicate-steps n r)

output-step : (b : Bool) (o : ℕ) → steps (cond b (Send o ∷ []) []) ≡ cond b (Send o ∷ []) []
output-step true o = refl
output-step false o = refl

pub tick-steps : (t : TableRows) (k : ℕ) → steps (steady_tick t k) ≡ steady_tick t k
tick-steps t k =
    let first : steps (each_below (router_steps t) (length t.routers)) ≡ each_below (router_steps t) (length t.routers) = below-steps (router_steps t) (length t.routers) (λ r. replicate-steps (router_row t r).most r) in
    let second : steps (each_below (output_steps t k) (length t.outputs) ++ Tick ∷ []) ≡ each_below (output_steps t k) (length t.outputs) ++ Tick ∷ [] =
    steps-append (each_below (output_steps t k) (length t.outputs)) (Tick ∷ []) ∙ ap (λ l. l ++ Tick ∷ []) (below-steps (output_steps t k) (length t.outputs) (λ o. output-step (k % (output_row t o).gap == 0) o)) in
    steps-append (each_below (router_steps t) (length t.routers)) (each_below (output_steps t k) (length t.outputs) ++ Tick ∷ [])
    ∙ ap (λ l. l ++ steps (each_below (output_steps t k) (length t.outputs) ++ Tick ∷ [])) first ∙ ap (λ l. each_below (router_steps t) (length t.routers) ++ l) second

pub traced-steps : (t : TableRows) (from : ℕ) (capture : List (ℕ × (ℕ × ℕ))) (n : ℕ) → steps (each_below (traced_tick t from capture) n) ≡ each_below (steady_tick t) n
traced-steps t from capture zero = refl
traced-steps t from capture (suc n) =
    steps-append (each_below (traced_tick t from capture) n) (traced_tick t from capture n)
    ∙ ap (λ l. l ++ steps (traced_tick t from capture n)) (traced-steps t from capture n)
    ∙ ap (λ l. each_below (steady_tick t) n ++ l) (steps-append (words_in from t.tick_us capture n) (steady_tick t n) ∙ ap (λ l. l ++ steps (steady_tick t n)) (words-steps (filter (λ x. tick_at from t.tick_us x.0 == n) capture)) ∙ tick-steps t n)

pub traces-keep_budgets : (t : TableRows) → ((n : ℕ) → KeepsBudgets t (steady t n)) → (from : ℕ) (capture : List (ℕ × (ℕ × ℕ))) → KeepsBudgets t (traced t from capture)
unfolding traced steady
traces-keep_budgets t kept from capture =
    let P : List Event → Type 0 = λ run. KeepsBudgets t run in
    keeps-steps t (each_below (traced_tick t from capture) (traced_ticks from t.tick_us capture)) (subst P (sym (traced-steps t from capture (traced_ticks from t.tick_us capture))) (kept (traced_ticks from t.tick_us capture)))
