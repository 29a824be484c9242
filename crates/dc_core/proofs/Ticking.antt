-- The first lacking actor; what a send and a Tick find, from what the code's reads say.
use Rattle.std.proofs.Common.{◌≡◌, ℕ, ◌%◌, ◌<◌, true, false, cond, ltb, Option, List, [], ◌∷◌, ◌++◌, length, get_or, refl, sym, ap, ◌∙◌, arith}
use Rattle.std.proofs.Math.Nat.{mod-lt}
use Rattle.std.proofs.lemmas.List.{get_or_read}
use Rattle.dc_tables.specs.TableRows.{TableRows, AreValid, router_row, output_row}
use Rattle.dc_event.specs.Time.{tick_after, route_ticks, send_ticks}
use Rattle.dc_event.specs.Outputs.{due_by, entry_label, sent}
use Rattle.dc_event.specs.Admissible.{KeepsBudgets}
use Rattle.dc_event.specs.declared.event.Event.{Event}
use Rattle.dc_event.specs.declared.event.Event.TheVariants.{Tick}
use Rattle.dc_event.specs.declared.event.Actor.{Actor}
use Rattle.dc_event.specs.declared.event.Actor.TheVariants.{Router, Output, Wire, Clock}
use Rattle.dc_bound.specs.Frame as D
use Rattle.dc_event.specs.Outputs as O
use Rattle.dc_transmit.specs.Schedule.{schedule_of, due_count}
use Rattle.dc_core.specs.declared.states.RouterState.{RouterState}
use Rattle.dc_core.specs.declared.states.OutputState.{OutputState}
use Rattle.dc_core.specs.States.{BusData, no_router, no_output, output_sent}
use Rattle.dc_core.specs.Lacking.{router_lacks, output_lacks, NoneLacks, FirstLacks, too_soon}
use Rattle.dc_core.specs.Standing.{Standing}
use Rattle.dc_event.specs.Works.{Works, IsFirstLacking}
use Rattle.dc_event.specs.lemmas.BudgetsPush.{keeps-tick, tick-works_router, tick-works_output}
use Rattle.dc_core.proofs.Windows.{works-if, works-not}
use Rattle.dc_core.proofs.Sending.{IsSend, send-open, send-keeps}

module _ (t : TableRows) (now : ℕ) (buses : ℕ → BusData) (lasts : List (Option (ℕ × ℕ))) (routers : List RouterState) (outputs : List OutputState) (run : List Event) (v : AreValid t) (h : Standing t now buses lasts routers outputs run) where
  router_works : (r : ℕ) → r < length t.routers → router_lacks t routers r ≡ false → Works t run (Router r)
  router_works r l e = works-if (router_row t r).steps (router_row t r).within (router_row t r).most (tick_after run) (route_ticks r run) (get_or routers r no_router).window (v.routers_paced r l) (h.turns r l).window (h.kept.routers_work r l) e

  router_fails : (r : ℕ) → r < length t.routers → router_lacks t routers r ≡ true → Works t run (Router r) → ⊥
  router_fails r l e = works-not (router_row t r).steps (router_row t r).within (router_row t r).most (tick_after run) (route_ticks r run) (get_or routers r no_router).window (v.routers_paced r l) (h.turns r l).window e

  output_works : (o : ℕ) → o < length t.outputs → output_lacks t outputs o ≡ false → Works t run (Output o)
  output_works o l e = works-if (output_row t o).steps (output_row t o).within 1 (tick_after run) (send_ticks o run) (get_or outputs o no_output).window (v.outputs_paced o l) (h.sendings o l).window (h.kept.outputs_work o l) e

  output_fails : (o : ℕ) → o < length t.outputs → output_lacks t outputs o ≡ true → Works t run (Output o) → ⊥
  output_fails o l e = works-not (output_row t o).steps (output_row t o).within 1 (tick_after run) (send_ticks o run) (get_or outputs o no_output).window (v.outputs_paced o l) (h.sendings o l).window e

  pub first_lacking : (a : Actor) → FirstLacks t routers outputs a → IsFirstLacking t run a × (KeepsBudgets t (run ++ Tick ∷ []) → ⊥)
  first_lacking (Router r) f =
      ((f.0, router_fails r f.0 f.1, (λ q l. router_works q (omega (arith, l, f.0)) (f.2 q l))), (λ k. router_fails r f.0 f.1 (tick-works_router t run r f.0 k)))
  first_lacking (Output o) f =
      ((f.0, output_fails o f.0 f.1, (λ r l. router_works r l (f.2 r l)), (λ p l. output_works p (omega (arith, l, f.0)) (f.3 p l))), (λ k. output_fails o f.0 f.1 (tick-works_output t run o f.0 k)))
  first_lacking (Wire b) f = absurd f
  first_lacking Clock f = absurd f

  pub none_lacking : NoneLacks t routers outputs → KeepsBudgets t (run ++ Tick ∷ [])
  none_lacking n = keeps-tick t run h.kept (λ r l. router_works r l (n.all_routers r l)) (λ o l. output_works o l (n.all_outputs o l))

  -- a send that is not too soon
  pub send_from : (o more : ℕ) (output tested old : OutputState) → o < length t.outputs → length outputs ≡ length t.outputs
      → tested ≡ get_or outputs o tested → too_soon (output_row t o).gap now tested.last ≡ false
      → old ≡ get_or outputs o old → output ≡ output_sent old now more → more ≡ cond (ltb (get_or outputs o no_output).sent (due_by t o now)) 1 0
      → IsSend t now outputs run o more output
  send_from o more output tested old l sized was free is after count =
      let there : o < length outputs = omega arith in
      let tested' = get_or_read outputs o tested there was no_output in
      let old' = get_or_read outputs o old there is no_output in
      let free' = ap (λ (s : OutputState). too_soon (output_row t o).gap now s.last) (sym tested') ∙ free in
      record {
        output_there = l;
        outputs_sized = sized;
        keeps = send-keeps t run o h.kept (send-open t o now (get_or outputs o no_output) run (v.gaps_some o l) h.clock (h.sendings o l) (h.kept.outputs_rest o l) free');
        count = count;
        after = after ∙ ap (λ s. output_sent s now more) old';
      }

-- what the schedule counts is what is due
pub due-same : (t : TableRows) (o tick : ℕ) → due_count (schedule_of t o) tick ≡ due_by t o tick
unfolding D.due_so_far O.due_by
due-same t o tick = refl

pub label_there : (t : TableRows) (o n x : ℕ) → AreValid t → o < length t.outputs → x ≡ entry_label t o n → x < length t.labels
label_there t o n x v l e =
    let i = v.entries_labelled o (n % length (output_row t o).entries) l (mod-lt n (v.entries_some o l)) in
    omega (arith, e, i.0)
