-- What policed buses let in.
use Rattle.std.proofs.Common.{◌≡◌, ℕ, ◌+◌, ◌<◌, ◌≤◌, ◌&&◌, Bool, true, false, Some, None, List, [], ◌∷◌, ◌++◌, length, get_or, set, refl, sym, ap, ◌∙◌, subst, arith, inl, inr}
use Rattle.std.proofs.lemmas.List.{get_or-set_same, get_or-set_other}
use Rattle.std.proofs.lemmas.Bool.{cases_eq, cases_Bool}
use Rattle.dc_bound.specs.Window.{ticks_of}
use Rattle.dc_bound.specs.Run.{ticks}
use Rattle.dc_word.specs.Word.{is_odd}
use Rattle.dc_tables.specs.Declares.{stream_of}
use Rattle.dc_tables.specs.TableRows.{TableRows, AreValid, stream_row, is_policed}
use Rattle.dc_event.specs.Time.{ends, tick_after}
use Rattle.dc_event.specs.Offers.{only, is_early, refuses_early}
use Rattle.dc_event.specs.Buses.{arrivals}
use Rattle.dc_event.specs.lemmas.RunPush.{tick-push}
use Rattle.dc_event.specs.lemmas.BudgetsPush.{calm}
use Rattle.dc_event.specs.lemmas.Arrivals.{arrival_on, arrivals-other, arrivals-push, arrivals-nil, early-paced, stream_of-there, even-none, elsewhere-none, undeclared-none, refused-none, arrival-own, arrival-others}
use Rattle.dc_event.specs.declared.event.Event.{Event}
use Rattle.dc_event.specs.declared.event.Event.TheVariants.{Tick, Arrive}
use Rattle.dc_oracle.specs.declared.pace.Pace.{Pace}
use Rattle.dc_oracle.specs.declared.police.Police.{Police}
use Rattle.dc_oracle.specs.Fresh.{AllMade}
use Rattle.dc_oracle.specs.Pace.{is_early_at, moved, IsPaceOf, no_pace}
use Rattle.dc_oracle.specs.Police.{is_refused, Polices, Judges}
use Rattle.dc_oracle.proofs.Sourcing.{pace-same, pace-test, pace-push, pace-new}

-- ---- no events, and an event that is no arrival on a policed bus

no_ticks : tick_after [] ≡ 0
unfolding ticks
no_ticks = refl

pub polices-new : (t : TableRows) (p : Police) → p.tick ≡ 0 → AllMade (λ _. no_pace) no_pace (length t.streams) p.paces.items → Polices t p []
polices-new t p start made = record {
  clock = start ∙ sym no_ticks;
  paces = λ s l policed. (
      let P : Pace → Type 0 = λ q. IsPaceOf (stream_row t s).minimum (tick_after []) (ticks_of (arrivals t s [])) q in
      subst P (sym (made.1 s l)) (pace-new (stream_row t s).minimum (tick_after []) _ (arrivals-nil t s)));
}

pub polices-other : (t : TableRows) (old new : Police) (run : List Event) (e : Event) → new.tick ≡ tick_after (run ++ e ∷ []) → ((s : ℕ) → get_or new.paces.items s no_pace ≡ get_or old.paces.items s no_pace)
    → ((s : ℕ) → is_policed t (stream_row t s).bus ≡ true → arrival_on t s run e ≡ None) → Polices t old run → Polices t new (run ++ e ∷ [])
polices-other t old new run e ticked same none h = record {
  clock = ticked;
  paces = λ s l policed. (
      let P : Pace → Type 0 = λ q. IsPaceOf (stream_row t s).minimum (tick_after (run ++ e ∷ [])) (ticks_of (arrivals t s (run ++ e ∷ []))) q in
      subst P (sym (same s))
      (pace-same (stream_row t s).minimum (tick_after run) _ _ _ _ (omega (arith, tick-push run e)) (arrivals-other t s run e (none s policed)) (h.paces s l policed)));
}

-- ---- an event that is no word

pub judges-step : (t : TableRows) (p : Police) (run : List Event) (e : Event) → ends e ≡ 0 → ((s : ℕ) → arrival_on t s run e ≡ None) → is_refused t run e ≡ false → Polices t p run → Judges t p run e false
judges-step t p run e c none no' h = record { holds = polices-other t p p run e (h.clock ∙ sym (calm run e c)) (λ s. refl) (λ s q. none s) h; answer = sym no' }

pub judges-tick : (t : TableRows) (old new : Police) (run : List Event) → new.tick ≡ old.tick + 1 → new.paces ≡ old.paces → Polices t old run → Judges t new run Tick false
judges-tick t old new run ticked same h = record {
  holds = polices-other t old new run Tick (omega (arith, ticked, h.clock, tick-push run Tick)) (λ s. ap (λ x. get_or x.items s no_pace) same) (λ s q. refl) h;
  answer = refl;
}

-- ---- words

module _ (t : TableRows) (old new : Police) (run : List Event) (b w : ℕ) (same_tick : new.tick ≡ old.tick) (h : Polices t old run) where
  ticked : new.tick ≡ tick_after (run ++ Arrive w b ∷ [])
  ticked = same_tick ∙ h.clock ∙ sym (calm run (Arrive w b) refl)

  pub judges-even : is_odd w ≡ false → new.paces.items ≡ old.paces.items → Judges t new run (Arrive w b) false
  judges-even even same = record { holds = polices-other t old new run (Arrive w b) ticked (λ s. ap (λ xs. get_or xs s no_pace) same) (λ s policed. ap (only s) (even-none t run b w even (stream_row t s).bus)) h; answer = rw even refl }

  pub judges-undeclared : is_odd w ≡ true → stream_of t b w ≡ None → new.paces.items ≡ old.paces.items → Judges t new run (Arrive w b) false
  judges-undeclared odd none same = record { holds = polices-other t old new run (Arrive w b) ticked (λ s. ap (λ xs. get_or xs s no_pace) same) (λ s policed. ap (only s) (undeclared-none t run b w none (stream_row t s).bus)) h; answer = rw (odd, none) refl }

  pub judges-free : is_odd w ≡ true → (k : ℕ) → stream_of t b w ≡ Some k → is_policed t b ≡ false → new.paces.items ≡ old.paces.items → Judges t new run (Arrive w b) false
  judges-free odd k some free same = record {
    holds = polices-other t old new run (Arrive w b) ticked (λ s. ap (λ xs. get_or xs s no_pace) same) (λ s policed. elim (cases_eq b (stream_row t s).bus) [
      | inl here ↦ absurd (let both : true ≡ false = sym policed ∙ ap (is_policed t) (sym here) ∙ free in cc)
      | inr other ↦ ap (only s) (elsewhere-none t run b w (stream_row t s).bus other)
    ]) h;
    answer = rw (odd, some, free) refl;
  }

  -- whatever the word is
  pub judges-unpoliced : is_policed t b ≡ false → new.paces.items ≡ old.paces.items → Judges t new run (Arrive w b) false
  judges-unpoliced free same = elim (cases_Bool (is_odd w)) [
    | inl odd ↦ elim (stream_of t b w) as (λ o. stream_of t b w ≡ o → Judges t new run (Arrive w b) false) [
      | None ↦ λ none. judges-undeclared odd none same
      | Some k ↦ λ some. judges-free odd k some free same
    ] refl
    | inr even ↦ judges-even even same
  ]

  module _ (v : AreValid t) (k : ℕ) (odd : is_odd w ≡ true) (some : stream_of t b w ≡ Some k) (policed : is_policed t b ≡ true) where
    own : (k < length t.streams) × ((stream_row t k).bus ≡ b)
    own = stream_of-there t b w k some

    own_policed : is_policed t (stream_row t k).bus ≡ true
    own_policed = ap (is_policed t) own.1 ∙ policed

    test : is_early_at (stream_row t k).jitter old.tick (get_or old.paces.items k no_pace) ≡ is_early t k run
    test =
        ap (λ n. is_early_at (stream_row t k).jitter n (get_or old.paces.items k no_pace)) h.clock
        ∙ pace-test (stream_row t k).minimum (stream_row t k).jitter (tick_after run) (ticks_of (arrivals t k run)) (get_or old.paces.items k no_pace) (h.paces k own.0 own_policed)
        ∙ sym (early-paced t k own_policed (v.minimums k own.0) run)

    refuses_early-is : refuses_early t b run (Some k) ≡ is_early t k run
    refuses_early-is = ap (λ x. x && is_early t k run) policed

    still : tick_after run ≤ tick_after (run ++ Arrive w b ∷ [])
    still = omega (arith, calm run (Arrive w b) refl)

    pub judges-refused : (refused : Bool) → refused ≡ is_early_at (stream_row t k).jitter old.tick (get_or old.paces.items k no_pace) → refused ≡ true → (p : Pace) → new.paces.items ≡ set old.paces.items k p → p ≡ get_or old.paces.items k no_pace → length old.paces.items ≡ length t.streams → Judges t new run (Arrive w b) refused
    judges-refused refused is yes' p same p_is sized =
        let early : is_early t k run ≡ true = sym test ∙ sym is ∙ yes' in
        let r : refuses_early t b run (Some k) ≡ true = refuses_early-is ∙ early in
        let kept : (s : ℕ) → get_or new.paces.items s no_pace ≡ get_or old.paces.items s no_pace = λ s. ap (λ xs. get_or xs s no_pace) same ∙ elim (cases_eq k s) [
          | inl mine ↦ (let R : ℕ → Type 0 = λ s. get_or (set old.paces.items k p) s no_pace ≡ get_or old.paces.items s no_pace in subst R mine (get_or-set_same old.paces.items k p no_pace (omega (arith, own.0)) ∙ p_is))
          | inr other ↦ (let ne : s ≡ k → ⊥ = λ e. other (sym e) in get_or-set_other old.paces.items k s p no_pace ne)
        ] in
        record { holds = polices-other t old new run (Arrive w b) ticked kept (λ s q. ap (only s) (refused-none t run b w k odd some r (stream_row t s).bus)) h; answer = yes' ∙ rw (odd, some, r) refl }

    pub judges-let_in : (refused : Bool) (p : Pace) → refused ≡ is_early_at (stream_row t k).jitter old.tick (get_or old.paces.items k no_pace) → refused ≡ false → length old.paces.items ≡ length t.streams
        → new.paces.items ≡ set old.paces.items k p → p ≡ moved (stream_row t k).minimum old.tick (get_or old.paces.items k no_pace) → Judges t new run (Arrive w b) refused
    judges-let_in refused p is no' sized same p_is =
        let free : is_early t k run ≡ false = sym test ∙ sym is ∙ no' in
        let r : refuses_early t b run (Some k) ≡ false = refuses_early-is ∙ free in
        let T : ℕ → Type 0 = λ n. p ≡ moved (stream_row t k).minimum n (get_or old.paces.items k no_pace) in
        let p' : p ≡ moved (stream_row t k).minimum (tick_after run) (get_or old.paces.items k no_pace) = subst T h.clock p_is in
        record {
          holds = record {
            clock = ticked;
            paces = λ s l q. elim (cases_eq k s) [
              | inl mine ↦
                  let R : ℕ → Type 0 = λ s. IsPaceOf (stream_row t s).minimum (tick_after (run ++ Arrive w b ∷ [])) (ticks_of (arrivals t s (run ++ Arrive w b ∷ []))) (get_or new.paces.items s no_pace) in
                  let S : Pace → Type 0 = λ x. IsPaceOf (stream_row t k).minimum (tick_after (run ++ Arrive w b ∷ [])) (ticks_of (arrivals t k (run ++ Arrive w b ∷ []))) x in
                  subst R mine (subst S (sym (ap (λ xs. get_or xs k no_pace) same ∙ get_or-set_same old.paces.items k p no_pace (omega (arith, own.0)) ∙ p'))
                  (pace-same (stream_row t k).minimum (tick_after run) _ _ _ _ still (arrivals-push t k k run (Arrive w b) (arrival-own t run b w k odd some r))
                  (pace-push (stream_row t k).minimum (tick_after run) (ticks_of (arrivals t k run)) (get_or old.paces.items k no_pace) (h.paces k own.0 own_policed))))
              | inr other ↦
                  let ne : s ≡ k → ⊥ = λ e. other (sym e) in
                  let S : Pace → Type 0 = λ x. IsPaceOf (stream_row t s).minimum (tick_after (run ++ Arrive w b ∷ [])) (ticks_of (arrivals t s (run ++ Arrive w b ∷ []))) x in
                  subst S (sym (ap (λ xs. get_or xs s no_pace) same ∙ get_or-set_other old.paces.items k s p no_pace ne))
                  (pace-same (stream_row t s).minimum (tick_after run) _ _ _ _ still (arrivals-other t s run (Arrive w b) (arrival-others t run b w k odd some r s other)) (h.paces s l q))
            ];
          };
          answer = no' ∙ rw (odd, some, r) refl;
        }
