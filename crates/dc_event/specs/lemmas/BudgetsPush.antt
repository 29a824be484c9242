-- Budgets with one more event.
use Rattle.std.proofs.Common.{◌≡◌, ℕ, suc, ◌<◌, Option, Some, None, List, [], ◌∷◌, ◌++◌, length, refl, sym, ap, arith}
use Rattle.dc_bound.specs.Window.{HoldAtLeast, HoldAtMost, count_in, ticks_of}
use Rattle.dc_bound.specs.Run.{stamped}
use Rattle.dc_bound.specs.lemmas.Steps.{pace_step}
use Rattle.dc_tables.specs.TableRows.{TableRows, router_row, output_row}
use Rattle.dc_event.specs.Time.{ends, tick_after, route_of, send_of, route_ticks, send_ticks}
use Rattle.dc_event.specs.Admissible.{KeepsBudgets}
use Rattle.dc_event.specs.declared.event.Event.{Event}
use Rattle.dc_event.specs.declared.event.Event.TheVariants.{Tick}
use Rattle.dc_event.specs.declared.event.Actor.TheVariants as A
use Rattle.dc_event.specs.Works.{Works}
use Rattle.dc_event.specs.lemmas.RunPush.{tick-push, ticks-other, ticks-step}

work-same : (n d w v : ℕ) (ts us : List ℕ) → v ≡ w → us ≡ ts → HoldAtLeast n d w ts → HoldAtLeast n d v us
work-same n d w v ts us e f h = λ u k. omega (arith, h u (omega arith), ap (λ x. count_in u d x) f)

pub rest-same : (n d : ℕ) (ts us : List ℕ) → us ≡ ts → HoldAtMost n d ts → HoldAtMost n d us
rest-same n d ts us f h = λ u. omega (arith, h u, ap (λ x. count_in u d x) f)

pub calm : (run : List Event) (e : Event) → ends e ≡ 0 → tick_after (run ++ e ∷ []) ≡ tick_after run
calm run e h = omega (arith, tick-push run e)

-- an event that ends no tick keeps what whole ticks hold
work-step : (pick : Event → Option ℕ) (n d : ℕ) (run : List Event) (e : Event) → ends e ≡ 0
    → HoldAtLeast n d (tick_after run) (ticks_of (stamped ends pick 0 run)) → HoldAtLeast n d (tick_after (run ++ e ∷ [])) (ticks_of (stamped ends pick 0 (run ++ e ∷ [])))
work-step pick n d run e c h =
    elim (pick e) as (λ o. pick e ≡ o → HoldAtLeast n d (tick_after (run ++ e ∷ [])) (ticks_of (stamped ends pick 0 (run ++ e ∷ [])))) [
      | None ↦ λ p. work-same n d _ _ _ _ (calm run e c) (ticks-other pick run e p) h
      | Some x ↦ λ p. work-same n d _ _ _ _ (calm run e c) (ticks-step pick run e x p) ((pace_step n d (tick_after run) (ticks_of (stamped ends pick 0 run))).1 h)
    ] refl

pub keeps-step : (t : TableRows) (run : List Event) (e : Event) → KeepsBudgets t run → ends e ≡ 0
    → ((r : ℕ) → r < length t.routers → HoldAtMost (router_row t r).most 1 (route_ticks r (run ++ e ∷ [])))
    → ((o : ℕ) → o < length t.outputs → HoldAtMost 1 (output_row t o).gap (send_ticks o (run ++ e ∷ [])))
    → KeepsBudgets t (run ++ e ∷ [])
keeps-step t run e k c rests spaced = record {
  routers_work = λ r l. work-step (route_of r) (router_row t r).steps (router_row t r).within run e c (k.routers_work r l);
  routers_rest = rests;
  outputs_work = λ o l. work-step (send_of o) (output_row t o).steps (output_row t o).within run e c (k.outputs_work o l);
  outputs_rest = spaced;
}

pub keeps-nothing : (t : TableRows) (run : List Event) (e : Event) → KeepsBudgets t run → ends e ≡ 0 → ((r : ℕ) → route_of r e ≡ None) → ((o : ℕ) → send_of o e ≡ None) → KeepsBudgets t (run ++ e ∷ [])
keeps-nothing t run e k c nr ns =
    keeps-step t run e k c (λ r l. rest-same _ _ _ _ (ticks-other (route_of r) run e (nr r)) (k.routers_rest r l)) (λ o l. rest-same _ _ _ _ (ticks-other (send_of o) run e (ns o)) (k.outputs_rest o l))

-- ---- a Tick

next_tick : (run : List Event) → tick_after (run ++ Tick ∷ []) ≡ suc (tick_after run)
next_tick run = omega (arith, tick-push run Tick)

pub keeps-tick : (t : TableRows) (run : List Event) → KeepsBudgets t run → ((r : ℕ) → r < length t.routers → Works t run (A.Router r)) → ((o : ℕ) → o < length t.outputs → Works t run (A.Output o)) → KeepsBudgets t (run ++ Tick ∷ [])
keeps-tick t run k rw_all ow_all = record {
  routers_work = λ r l. work-same _ _ _ _ _ _ (next_tick run) (ticks-other (route_of r) run Tick refl) (rw_all r l);
  routers_rest = λ r l. rest-same _ _ _ _ (ticks-other (route_of r) run Tick refl) (k.routers_rest r l);
  outputs_work = λ o l. work-same _ _ _ _ _ _ (next_tick run) (ticks-other (send_of o) run Tick refl) (ow_all o l);
  outputs_rest = λ o l. rest-same _ _ _ _ (ticks-other (send_of o) run Tick refl) (k.outputs_rest o l);
}

pub tick-works_router : (t : TableRows) (run : List Event) (r : ℕ) → r < length t.routers → KeepsBudgets t (run ++ Tick ∷ []) → Works t run (A.Router r)
tick-works_router t run r l k = work-same _ _ _ _ _ _ (sym (next_tick run)) (sym (ticks-other (route_of r) run Tick refl)) (k.routers_work r l)

pub tick-works_output : (t : TableRows) (run : List Event) (o : ℕ) → o < length t.outputs → KeepsBudgets t (run ++ Tick ∷ []) → Works t run (A.Output o)
tick-works_output t run o l k = work-same _ _ _ _ _ _ (sym (next_tick run)) (sym (ticks-other (send_of o) run Tick refl)) (k.outputs_work o l)
