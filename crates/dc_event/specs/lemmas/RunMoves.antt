-- The moves of a bus in a beginning of a run, and the steps of its router.
use Rattle.std.proofs.Common.{◌≡◌, ℕ, ◌+◌, ◌≤◌, true, false, cond, eqb, Some, None, List, [], ◌∷◌, ◌++◌, length, refl, sym, ap, inl, inr, ◌∙◌, subst, arith, append_assoc, zero-add}
use Rattle.std.proofs.lemmas.List.{append-nil}
use Rattle.std.proofs.lemmas.Bool.{cases_eq, eq-eqb, ne_eqb}
use Rattle.dc_bound.specs.Window.{count_in, ticks_of}
use Rattle.dc_bound.specs.Run.{ticks, stamp, stamped}
use Rattle.dc_bound.specs.Places.{each_place}
use Rattle.dc_bound.specs.Moves.{Move, move_ends, visit_of, visit_ticks}
use Rattle.dc_bound.specs.Moves.Move.{Visit}
use Rattle.dc_bound.specs.lemmas.Steps.{stamped-append, ticks_of-append, count-append, stamped-count}
use Rattle.dc_bound.specs.lemmas.Queued.{visit_ticks-push}
use Rattle.dc_bound.specs.Turns as V
use Rattle.dc_bound.specs.lemmas.Visited.{visited-append}
use Rattle.dc_tables.specs.TableRows.{TableRows, router_row, visited}
use Rattle.dc_event.specs.Time.{ends, tick_after, route_of, routes, route_ticks}
use Rattle.dc_event.specs.Buses.{move_of, moves}
use Rattle.dc_event.specs.declared.event.Event.{Event}
use Rattle.dc_event.specs.declared.event.Event.TheVariants.{Tick, Arrive, Route, Send}
use Rattle.dc_bound.specs.lemmas.FirstPlaces.{snoc_induction}
use Rattle.dc_event.specs.lemmas.RunPush.{moves-push, ticks_in-moves}

pub moves-nil : (t : TableRows) (b : ℕ) → moves t b [] ≡ []
unfolding moves each_place
moves-nil t b = refl

-- a beginning of the run has a beginning of the moves
pub moves-beginning : (t : TableRows) (b : ℕ) (past rest : List Event) → (after : List Move) × (moves t b (past ++ rest) ≡ moves t b past ++ after)
moves-beginning t b past [] = ([], ap (moves t b) (append-nil past) ∙ sym (append-nil (moves t b past)))
moves-beginning t b past (e ∷ rest) =
    let r = moves-beginning t b (past ++ e ∷ []) rest in
    (move_of t b past e ++ r.0, ap (moves t b) (sym (append_assoc past (e ∷ []) rest)) ∙ r.1 ∙ ap (λ z. z ++ r.0) (moves-push t b past e) ∙ append_assoc (moves t b past) (move_of t b past e) r.0)

-- ---- steps of a router and visits of a bus

-- the ticks of one more event's step
abbrev route_step : ℕ → ℕ → Event → List ℕ
route_step r k e = ticks_of (stamped ends (route_of r) k (e ∷ []))

route_ticks-push : (r : ℕ) (run : List Event) (e : Event) → route_ticks r (run ++ e ∷ []) ≡ route_ticks r run ++ route_step r (tick_after run) e
route_ticks-push r run e =
    ap ticks_of (stamped-append ends (route_of r) 0 run (e ∷ [])) ∙ ticks_of-append (stamped ends (route_of r) 0 run) (stamped ends (route_of r) (0 + ticks ends run) (e ∷ []))
    ∙ ap (λ k. ticks_of (stamped ends (route_of r) 0 run) ++ route_step r k e) (zero-add (ticks ends run))

-- one step of the router is a visit of the bus that its table names
one_step : (t : TableRows) (b r u d k : ℕ) (past : List Event) (e : Event)
    → count_in u d (V.visited (router_row t r).visits b (routes r past) (route_step r k e)) ≤ count_in u d (ticks_of (stamped move_ends visit_of k (move_of t b past e)))
unfolding stamped count_in V.visited
one_step t b r u d k past Tick = omega arith
one_step t b r u d k past (Arrive w a) = omega arith
one_step t b r u d k past (Send o) = omega arith
one_step t b r u d k past (Route q) =
    elim (cases_eq q r) [
      | inl same ↦
          let yes' : eqb q r ≡ true = eq-eqb q r same in
          let P : ℕ → Type 0 = λ q. count_in u d (V.visited (router_row t r).visits b (routes r past) (ticks_of (stamp k (cond true (Some q) None) []))) ≤ count_in u d (ticks_of (stamped move_ends visit_of k (cond (eqb (visited t q (routes q past)) b) (Visit ∷ []) []))) in
          rw yes' (subst P (sym same)
          (elim (eqb (visited t r (routes r past)) b) as (λ v. count_in u d (cond v (k ∷ []) []) ≤ count_in u d (ticks_of (stamped move_ends visit_of k (cond v (Visit ∷ []) [])))) [ true ↦ omega arith | false ↦ omega arith ]))
      | inr other ↦ let no' : eqb q r ≡ false = ne_eqb q r other in rw no' (omega arith)
    ]

no_steps : (t : TableRows) (b r u d : ℕ) → count_in u d (V.visited (router_row t r).visits b 0 (route_ticks r [])) ≤ count_in u d (visit_ticks (moves t b []))
unfolding stamped count_in V.visited
no_steps t b r u d = omega arith

-- the visits of the bus are no fewer than the steps of the router that visit it
pub router_visits : (t : TableRows) (b r u d : ℕ) (run : List Event) → count_in u d (V.visited (router_row t r).visits b 0 (route_ticks r run)) ≤ count_in u d (visit_ticks (moves t b run))
router_visits t b r u d run =
    let P : List Event → Type 0 = λ run. count_in u d (V.visited (router_row t r).visits b 0 (route_ticks r run)) ≤ count_in u d (visit_ticks (moves t b run)) in
    snoc_induction P (no_steps t b r u d) (λ run e h.
    let table : List ℕ = (router_row t r).visits in
    let left : V.visited (router_row t r).visits b 0 (route_ticks r (run ++ e ∷ [])) ≡ V.visited (router_row t r).visits b 0 (route_ticks r run) ++ V.visited (router_row t r).visits b (routes r run) (route_step r (tick_after run) e) =
    ap (λ ts. V.visited (router_row t r).visits b 0 ts) (route_ticks-push r run e) ∙ visited-append (router_row t r).visits b 0 (route_ticks r run) (route_step r (tick_after run) e)
    ∙ ap (λ n. V.visited (router_row t r).visits b 0 (route_ticks r run) ++ V.visited (router_row t r).visits b n (route_step r (tick_after run) e)) (zero-add (length (route_ticks r run)) ∙ stamped-count ends (route_of r) 0 run) in
    let right : visit_ticks (moves t b (run ++ e ∷ [])) ≡ visit_ticks (moves t b run) ++ ticks_of (stamped move_ends visit_of (tick_after run) (move_of t b run e)) =
    ap visit_ticks (moves-push t b run e) ∙ visit_ticks-push (moves t b run) (move_of t b run e) ∙ ap (λ k. visit_ticks (moves t b run) ++ ticks_of (stamped move_ends visit_of k (move_of t b run e))) (ticks_in-moves t b run) in
    omega (
      arith,
      ap (λ z. count_in u d z) left,
      count-append u d (V.visited (router_row t r).visits b 0 (route_ticks r run)) (V.visited (router_row t r).visits b (routes r run) (route_step r (tick_after run) e)),
      ap (λ z. count_in u d z) right,
      count-append u d (visit_ticks (moves t b run)) (ticks_of (stamped move_ends visit_of (tick_after run) (move_of t b run e))),
      one_step t b r u d (tick_after run) run e,
      h,
    )) run
