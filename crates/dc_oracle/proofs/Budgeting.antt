-- One more event keeps what is carried of the actors.
use Rattle.std.proofs.Common.{◌≡◌, ℕ, ◌+◌, ◌≤◌, ◌<◌, Bool, true, false, cond, leb, Option, Some, None, List, [], ◌∷◌, ◌++◌, length, get_or, set, refl, sym, ap, ◌∙◌, subst, arith, inl, inr, eq-eqb}
use Rattle.std.proofs.lemmas.List.{get_or-set_same, get_or-set_other}
use Rattle.std.proofs.lemmas.Bool.{cases_eq, ne_eqb}
use Rattle.dc_bound.specs.Window.{HoldAtMost, count_in, ticks_of}
use Rattle.dc_bound.specs.Run.{ticks, stamped}
use Rattle.dc_bound.specs.lemmas.Recent.{recent, most_push}
use Rattle.dc_tables.specs.TableRows.{TableRows, AreValid, router_row, output_row}
use Rattle.dc_event.specs.Time.{ends, tick_after, route_of, send_of, route_ticks, send_ticks}
use Rattle.dc_event.specs.Admissible.{KeepsBudgets}
use Rattle.dc_event.specs.lemmas.RunPush.{tick-push, ticks-other, ticks-step, steps-none_later}
use Rattle.dc_event.specs.lemmas.BudgetsPush.{rest-same, calm, keeps-step, keeps-tick, tick-works_router, tick-works_output}
use Rattle.dc_event.specs.Works.{Works}
use Rattle.dc_event.specs.declared.event.Event.{Event}
use Rattle.dc_event.specs.declared.event.Event.TheVariants.{Tick, Route, Send}
use Rattle.dc_event.specs.declared.event.Actor.TheVariants as A
use Rattle.dc_oracle.specs.declared.budgets.BudgetWatch.{BudgetWatch}
use Rattle.dc_oracle.specs.Fresh.{AllMade}
use Rattle.dc_oracle.specs.History.{held, lacking}
use Rattle.circular_buffer.specs.Buffer.{keep_last}
use Rattle.dc_oracle.specs.RecentData.{RecentData}
use Rattle.dc_oracle.specs.Budgets.{Watches, RoutersLack, OutputsLack, last_steps, router_room, output_room, no_steps}
use Rattle.dc_oracle.proofs.Kept.{held-kept, lacking-kept, kept-push}
use Rattle.dc_oracle.proofs.Histories.{picked-up_to, held-recent, works-on, works-not}

-- ---- no events

keeps-new : (t : TableRows) → AreValid t → KeepsBudgets t []
unfolding ticks stamped count_in
keeps-new t v = record {
  routers_work = λ r l u h. absurd (omega (arith, h, v.routers_paced r l));
  routers_rest = λ r l u. omega arith;
  outputs_work = λ o l u h. absurd (omega (arith, h, v.outputs_paced o l));
  outputs_rest = λ o l u. omega arith;
}

none_picked : (pick : Event → Option ℕ) → ticks_of (stamped ends pick 0 []) ≡ []
unfolding stamped
none_picked pick = refl

no_ticks : tick_after [] ≡ 0
unfolding ticks
no_ticks = refl

pub watches-nothing : (t : TableRows) (w : BudgetWatch) → AreValid t → w.tick ≡ 0 → AllMade (λ r. last_steps (router_room t r) []) no_steps (length t.routers) w.routers.items → AllMade (λ o. last_steps (output_room t o) []) no_steps (length t.outputs) w.outputs.items → Watches t w []
watches-nothing t w v start routers outputs = record {
  kept = keeps-new t v;
  clock = start ∙ sym no_ticks;
  routes = λ r l. routers.1 r l ∙ ap (last_steps (router_room t r)) (sym (none_picked (route_of r)));
  sends = λ o l. outputs.1 o l ∙ ap (last_steps (output_room t o)) (sym (none_picked (send_of o)));
}

-- ---- an event that is no step of any actor

pub watches-other : (t : TableRows) (w : BudgetWatch) (run : List Event) (e : Event) → ends e ≡ 0 → ((r : ℕ) → r < length t.routers → route_of r e ≡ None) → ((o : ℕ) → o < length t.outputs → send_of o e ≡ None) → Watches t w run → Watches t w (run ++ e ∷ [])
watches-other t w run e c nr ns h = record {
  kept = keeps-step t run e h.kept c (λ r l. rest-same _ _ _ _ (ticks-other (route_of r) run e (nr r l)) (h.kept.routers_rest r l)) (λ o l. rest-same _ _ _ _ (ticks-other (send_of o) run e (ns o l)) (h.kept.outputs_rest o l));
  clock = h.clock ∙ sym (calm run e c);
  routes = λ r l. h.routes r l ∙ ap (last_steps (router_room t r)) (sym (ticks-other (route_of r) run e (nr r l)));
  sends = λ o l. h.sends o l ∙ ap (last_steps (output_room t o)) (sym (ticks-other (send_of o) run e (ns o l)));
}

route_here : (r : ℕ) → route_of r (Route r) ≡ Some r
route_here r = ap (λ b. cond b (Some r) None) (eq-eqb r r refl)

route_elsewhere : (q r : ℕ) → (r ≡ q → ⊥) → route_of q (Route r) ≡ None
route_elsewhere q r other = ap (λ b. cond b (Some r) None) (ne_eqb r q other)

send_here : (o : ℕ) → send_of o (Send o) ≡ Some o
send_here o = ap (λ b. cond b (Some o) None) (eq-eqb o o refl)

send_elsewhere : (q o : ℕ) → (o ≡ q → ⊥) → send_of q (Send o) ≡ None
send_elsewhere q o other = ap (λ b. cond b (Some o) None) (ne_eqb o q other)

pub watches-unknown_router : (t : TableRows) (w : BudgetWatch) (run : List Event) (r : ℕ) → length t.routers ≤ r → Watches t w run → Watches t w (run ++ Route r ∷ [])
watches-unknown_router t w run r far h = watches-other t w run (Route r) refl (λ q l. route_elsewhere q r (λ e. omega (arith, e))) (λ o l. refl) h

pub watches-unknown_output : (t : TableRows) (w : BudgetWatch) (run : List Event) (o : ℕ) → length t.outputs ≤ o → Watches t w run → Watches t w (run ++ Send o ∷ [])
watches-unknown_output t w run o far h = watches-other t w run (Send o) refl (λ r l. refl) (λ q l. send_elsewhere q o (λ e. omega (arith, e))) h

-- ---- the test of one actor

module _ (pick : Event → Option ℕ) (run : List Event) where
  steps : List ℕ
  steps = ticks_of (stamped ends pick 0 run)

  -- what the test of a history says of the run
  pub tested : (count window now room : ℕ) (history : RecentData) (answer : Bool) → 1 ≤ count → count ≤ room → now ≡ tick_after run → history ≡ last_steps room (ticks_of (stamped ends pick 0 run)) → answer ≡ held count window now history.ticks
      → answer ≡ leb count (recent window (tick_after run) (ticks_of (stamped ends pick 0 run)))
  tested count window now room history answer some fits clock is test =
      test ∙ ap (λ n. held count window n history.ticks) clock ∙ ap (λ (z : RecentData). held count window (tick_after run) z.ticks) is ∙ held-kept room count window (tick_after run) (ticks_of (stamped ends pick 0 run)) some fits ∙ held-recent count window (tick_after run) (ticks_of (stamped ends pick 0 run)) (picked-up_to ends pick run) some

  -- one more step keeps the cap on each window exactly where the last ticks have room
  pub more-fits : (n d x : ℕ) (e : Event) → 0 < d → pick e ≡ Some x → HoldAtMost n d (ticks_of (stamped ends pick 0 run)) → recent d (tick_after run) (ticks_of (stamped ends pick 0 run)) < n → HoldAtMost n d (ticks_of (stamped ends pick 0 (run ++ e ∷ [])))
  more-fits n d x e pos p old room = rest-same _ _ _ _ (ticks-step pick run e x p) ((most_push n d (tick_after run) (ticks_of (stamped ends pick 0 run)) pos (steps-none_later pick run)).1 (old, room))

  pub more-breaks : (n d x : ℕ) (e : Event) → 0 < d → pick e ≡ Some x → n ≤ recent d (tick_after run) (ticks_of (stamped ends pick 0 run)) → HoldAtMost n d (ticks_of (stamped ends pick 0 (run ++ e ∷ []))) → ⊥
  more-breaks n d x e pos p full all =
      let r = (most_push n d (tick_after run) (ticks_of (stamped ends pick 0 run)) pos (steps-none_later pick run)).0 (rest-same _ _ _ _ (sym (ticks-step pick run e x p)) all) in
      omega (arith, r.1)

step_more : (room : ℕ) (ts : List ℕ) (t : ℕ) → last_steps room (keep_last room ts ++ t ∷ []) ≡ last_steps room (ts ++ t ∷ [])
step_more room ts t = ap (λ l. record { ticks = l; room = room }) (kept-push room ts t)

-- ---- a step of a router

pub route-breaks : (t : TableRows) (run : List Event) (r : ℕ) → r < length t.routers → (router_row t r).most ≤ recent 1 (tick_after run) (route_ticks r run) → KeepsBudgets t (run ++ Route r ∷ []) → ⊥
route-breaks t run r l full k = more-breaks (route_of r) run (router_row t r).most 1 r (Route r) (omega arith) (route_here r) full (k.routers_rest r l)

pub watches-route : (t : TableRows) (old new : BudgetWatch) (run : List Event) (r : ℕ) (history : RecentData) → r < length t.routers → length old.routers.items ≡ length t.routers
    → new.tick ≡ old.tick → new.routers.items ≡ set old.routers.items r history → new.outputs.items ≡ old.outputs.items → history ≡ record { ticks = keep_last (get_or old.routers.items r no_steps).room ((get_or old.routers.items r no_steps).ticks ++ old.tick ∷ []); room = (get_or old.routers.items r no_steps).room }
    → recent 1 (tick_after run) (route_ticks r run) < (router_row t r).most → Watches t old run → Watches t new (run ++ Route r ∷ [])
watches-route t old new run r history l sized same_tick routers outputs history_is room h =
    let still : tick_after (run ++ Route r ∷ []) ≡ tick_after run = calm run (Route r) refl in
    record {
      kept = keeps-step t run (Route r) h.kept refl
          (λ q k. elim (cases_eq r q) [
            | inl same ↦
                let P : ℕ → Type 0 = λ q. HoldAtMost (router_row t q).most 1 (route_ticks q (run ++ Route r ∷ [])) in
                subst P same (more-fits (route_of r) run (router_row t r).most 1 r (Route r) (omega arith) (route_here r) (h.kept.routers_rest r l) room)
            | inr other ↦ rest-same _ _ _ _ (ticks-other (route_of q) run (Route r) (route_elsewhere q r other)) (h.kept.routers_rest q k)
          ])
          (λ o k. rest-same _ _ _ _ (ticks-other (send_of o) run (Route r) refl) (h.kept.outputs_rest o k));
      clock = same_tick ∙ h.clock ∙ sym still;
      routes = λ q k. ap (λ xs. get_or xs q no_steps) routers ∙ (elim (cases_eq r q) [
        | inl same ↦
            let P : ℕ → Type 0 = λ q. get_or (set old.routers.items r history) q no_steps ≡ last_steps (router_room t q) (route_ticks q (run ++ Route r ∷ [])) in
            subst P same (get_or-set_same old.routers.items r history no_steps (omega arith)
            ∙ history_is ∙ ap (λ (z : RecentData). last_steps z.room (z.ticks ++ old.tick ∷ [])) (h.routes r l) ∙ step_more (router_room t r) (route_ticks r run) old.tick
            ∙ ap (λ n. last_steps (router_room t r) (route_ticks r run ++ (n ∷ []))) h.clock ∙ ap (last_steps (router_room t r)) (sym (ticks-step (route_of r) run (Route r) r (route_here r))))
        | inr other ↦
            let ne : q ≡ r → ⊥ = λ e. other (sym e) in
            get_or-set_other old.routers.items r q history no_steps ne ∙ h.routes q k ∙ ap (last_steps (router_room t q)) (sym (ticks-other (route_of q) run (Route r) (route_elsewhere q r other)))
      ]);
      sends = λ o k. ap (λ xs. get_or xs o no_steps) outputs ∙ h.sends o k ∙ ap (last_steps (output_room t o)) (sym (ticks-other (send_of o) run (Route r) refl));
    }

-- ---- a send of an output

pub send-breaks : (t : TableRows) (v : AreValid t) (run : List Event) (o : ℕ) → o < length t.outputs → 1 ≤ recent (output_row t o).gap (tick_after run) (send_ticks o run) → KeepsBudgets t (run ++ Send o ∷ []) → ⊥
send-breaks t v run o l full k = more-breaks (send_of o) run 1 (output_row t o).gap o (Send o) (v.gaps_some o l) (send_here o) full (k.outputs_rest o l)

pub watches-send : (t : TableRows) (v : AreValid t) (old new : BudgetWatch) (run : List Event) (o : ℕ) (history : RecentData) → o < length t.outputs → length old.outputs.items ≡ length t.outputs
    → new.tick ≡ old.tick → new.outputs.items ≡ set old.outputs.items o history → new.routers.items ≡ old.routers.items → history ≡ record { ticks = keep_last (get_or old.outputs.items o no_steps).room ((get_or old.outputs.items o no_steps).ticks ++ old.tick ∷ []); room = (get_or old.outputs.items o no_steps).room }
    → recent (output_row t o).gap (tick_after run) (send_ticks o run) < 1 → Watches t old run → Watches t new (run ++ Send o ∷ [])
watches-send t v old new run o history l sized same_tick outputs routers history_is room h =
    let still : tick_after (run ++ Send o ∷ []) ≡ tick_after run = calm run (Send o) refl in
    record {
      kept = keeps-step t run (Send o) h.kept refl
          (λ r k. rest-same _ _ _ _ (ticks-other (route_of r) run (Send o) refl) (h.kept.routers_rest r k))
          (λ q k. elim (cases_eq o q) [
            | inl same ↦
                let P : ℕ → Type 0 = λ q. HoldAtMost 1 (output_row t q).gap (send_ticks q (run ++ Send o ∷ [])) in
                subst P same (more-fits (send_of o) run 1 (output_row t o).gap o (Send o) (v.gaps_some o l) (send_here o) (h.kept.outputs_rest o l) room)
            | inr other ↦ rest-same _ _ _ _ (ticks-other (send_of q) run (Send o) (send_elsewhere q o other)) (h.kept.outputs_rest q k)
          ]);
      clock = same_tick ∙ h.clock ∙ sym still;
      routes = λ r k. ap (λ xs. get_or xs r no_steps) routers ∙ h.routes r k ∙ ap (last_steps (router_room t r)) (sym (ticks-other (route_of r) run (Send o) refl));
      sends = λ q k. ap (λ xs. get_or xs q no_steps) outputs ∙ (elim (cases_eq o q) [
        | inl same ↦
            let P : ℕ → Type 0 = λ q. get_or (set old.outputs.items o history) q no_steps ≡ last_steps (output_room t q) (send_ticks q (run ++ Send o ∷ [])) in
            subst P same (get_or-set_same old.outputs.items o history no_steps (omega arith)
            ∙ history_is ∙ ap (λ (z : RecentData). last_steps z.room (z.ticks ++ old.tick ∷ [])) (h.sends o l) ∙ step_more (output_room t o) (send_ticks o run) old.tick
            ∙ ap (λ n. last_steps (output_room t o) (send_ticks o run ++ (n ∷ []))) h.clock ∙ ap (last_steps (output_room t o)) (sym (ticks-step (send_of o) run (Send o) o (send_here o))))
        | inr other ↦
            let ne : q ≡ o → ⊥ = λ e. other (sym e) in
            get_or-set_other old.outputs.items o q history no_steps ne ∙ h.sends q k ∙ ap (last_steps (output_room t q)) (sym (ticks-other (send_of q) run (Send o) (send_elsewhere q o other)))
      ]);
    }

-- ---- a Tick

module _ (t : TableRows) (v : AreValid t) (w : BudgetWatch) (run : List Event) (h : Watches t w run) where
  lacks-same : (steps width room : ℕ) (history : RecentData) (ts : List ℕ) → 1 ≤ steps → steps ≤ room → history ≡ last_steps room ts → lacking steps width w.tick history.ticks ≡ lacking steps width (tick_after run) ts
  lacks-same steps width room history ts some fits e = ap (λ n. lacking steps width n history.ticks) h.clock ∙ ap (λ (z : RecentData). lacking steps width (tick_after run) z.ticks) e ∙ lacking-kept room steps width (tick_after run) ts some fits

  router-lacks : (r : ℕ) → r < length t.routers → lacking (router_row t r).steps (router_row t r).within w.tick (get_or w.routers.items r no_steps).ticks ≡ true → Works t run (A.Router r) → ⊥
  router-lacks r l lack works =
      works-not (router_row t r).steps (router_row t r).within (tick_after run) (route_ticks r run) (picked-up_to ends (route_of r) run) ((v.routers_step r l).0) (sym (lacks-same _ _ (router_room t r) _ _ ((v.routers_step r l).0) (omega arith) (h.routes r l)) ∙ lack) works

  router-works : (r : ℕ) → r < length t.routers → lacking (router_row t r).steps (router_row t r).within w.tick (get_or w.routers.items r no_steps).ticks ≡ false → Works t run (A.Router r)
  router-works r l no_lack =
      works-on (router_row t r).steps (router_row t r).within (tick_after run) (route_ticks r run) (picked-up_to ends (route_of r) run) ((v.routers_step r l).0) (sym (lacks-same _ _ (router_room t r) _ _ ((v.routers_step r l).0) (omega arith) (h.routes r l)) ∙ no_lack) (h.kept.routers_work r l)

  output-lacks : (o : ℕ) → o < length t.outputs → lacking (output_row t o).steps (output_row t o).within w.tick (get_or w.outputs.items o no_steps).ticks ≡ true → Works t run (A.Output o) → ⊥
  output-lacks o l lack works =
      works-not (output_row t o).steps (output_row t o).within (tick_after run) (send_ticks o run) (picked-up_to ends (send_of o) run) (v.outputs_step o l) (sym (lacks-same _ _ (output_room t o) _ _ (v.outputs_step o l) (omega arith) (h.sends o l)) ∙ lack) works

  output-works : (o : ℕ) → o < length t.outputs → lacking (output_row t o).steps (output_row t o).within w.tick (get_or w.outputs.items o no_steps).ticks ≡ false → Works t run (A.Output o)
  output-works o l no_lack =
      works-on (output_row t o).steps (output_row t o).within (tick_after run) (send_ticks o run) (picked-up_to ends (send_of o) run) (v.outputs_step o l) (sym (lacks-same _ _ (output_room t o) _ _ (v.outputs_step o l) (omega arith) (h.sends o l)) ∙ no_lack) (h.kept.outputs_work o l)

  pub tick-breaks_router : RoutersLack t w true → KeepsBudgets t (run ++ Tick ∷ []) → ⊥
  tick-breaks_router lack k = router-lacks lack.0 lack.1 lack.2 (tick-works_router t run lack.0 lack.1 k)

  pub tick-breaks_output : OutputsLack t w true → KeepsBudgets t (run ++ Tick ∷ []) → ⊥
  tick-breaks_output lack k = output-lacks lack.0 lack.1 lack.2 (tick-works_output t run lack.0 lack.1 k)

  pub watches-tick : (new : BudgetWatch) → new.tick ≡ w.tick + 1 → new.routers ≡ w.routers → new.outputs ≡ w.outputs → RoutersLack t w false → OutputsLack t w false → Watches t new (run ++ Tick ∷ [])
  watches-tick new ticked routers outputs rs os =
      let n : tick_after (run ++ Tick ∷ []) ≡ tick_after run + 1 = omega (arith, tick-push run Tick) in
      record {
        kept = keeps-tick t run h.kept (λ r l. router-works r l (rs r l)) (λ o l. output-works o l (os o l));
        clock = omega (arith, h.clock, n);
        routes = λ r l. ap (λ x. get_or x.items r no_steps) routers ∙ h.routes r l ∙ ap (last_steps (router_room t r)) (sym (ticks-other (route_of r) run Tick refl));
        sends = λ o l. ap (λ x. get_or x.items o no_steps) outputs ∙ h.sends o l ∙ ap (last_steps (output_room t o)) (sym (ticks-other (send_of o) run Tick refl));
      }
