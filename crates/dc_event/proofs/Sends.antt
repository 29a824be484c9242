-- What an output has sent: its entries, in their order, each when it was due.
use Rattle.std.proofs.Common.{◌≡◌, ℕ, zero, suc, ◌≤◌, ◌<◌, ◌⊎◌, true, false, ltb, Option, Some, None, List, [], ◌∷◌, ◌++◌, length, map, refl, sym, ap, inl, inr, ◌∙◌, subst, arith}
use Rattle.std.specs.List.{All, flat_map}
use Rattle.std.proofs.lemmas.List.{append-nil, map-append}
use Rattle.std.proofs.lemmas.List.Elements.{All-append}
use Rattle.std.proofs.lemmas.Grind.{flat_map-append}
use Rattle.std.proofs.lemmas.Bool.{cases_lt, lt-ltb, le-ltb}
use Rattle.dc_bound.specs.Run.{picks, one_if}
use Rattle.dc_bound.specs.Places.{each_place}
use Rattle.dc_bound.specs.lemmas.FirstPlaces.{each_place-push, snoc_induction}
use Rattle.dc_tables.specs.TableRows.{TableRows, AreValid}
use Rattle.dc_event.specs.Time.{tick_after, send_of}
use Rattle.dc_event.specs.Outputs.{due_tick, due_by, sent}
use Rattle.dc_event.specs.Steady.{each_below}
use Rattle.dc_event.specs.Laws.{sent_entry, sent_entries, SendsInOrder, SendInOrder}
use Rattle.dc_event.specs.lemmas.RunPush.{tick-push, sent-push, sent-le, sent-other}
use Rattle.dc_event.specs.lemmas.OutputMoves.{due_by-due}
use Rattle.dc_event.specs.declared.event.Event.{Event}
use Rattle.dc_event.specs.declared.event.Event.TheVariants.{Tick, Arrive, Route, Send}

-- an event sends nothing, or the next entry, which is due
Advances : TableRows → ℕ → List Event → Event → Type 0
Advances t o run e = (sent t o (run ++ e ∷ []) ≡ sent t o run) ⊎ ((sent t o (run ++ e ∷ []) ≡ suc (sent t o run)) × (sent t o run < due_by t o (tick_after run)))

one_if-le : (o : Option ℕ) → one_if o ≤ 1
one_if-le None = omega arith
one_if-le (Some x) = omega arith

advances-send : (t : TableRows) (o q : ℕ) (run : List Event) → Advances t o run (Send q)
unfolding Advances
advances-send t o q run =
    let same : tick_after (run ++ Send q ∷ []) ≡ tick_after run = omega (arith, tick-push run (Send q)) in
    let due : due_by t o (tick_after (run ++ Send q ∷ [])) ≡ due_by t o (tick_after run) = ap (due_by t o) same in
    let few : one_if (send_of o (Send q)) ≤ 1 = one_if-le (send_of o (Send q)) in
    elim (cases_lt (sent t o run) (sent t o (run ++ Send q ∷ []))) [
      | inl l ↦ inr (omega (arith, sent-push t o run (Send q), sent-le t o run, due, few), omega (arith, sent-push t o run (Send q), due))
      | inr l ↦ inl (omega (arith, sent-push t o run (Send q), sent-le t o run, due))
    ]

advances : (t : TableRows) (o : ℕ) (run : List Event) (e : Event) → Advances t o run e
unfolding Advances
advances t o run Tick = inl (sent-other t o run Tick refl)
advances t o run (Arrive w b) = inl (sent-other t o run (Arrive w b) refl)
advances t o run (Route r) = inl (sent-other t o run (Route r) refl)
advances t o run (Send q) = advances-send t o q run

sent_entries-push : (t : TableRows) (o : ℕ) (run : List Event) (e : Event) → sent_entries t o (run ++ e ∷ []) ≡ sent_entries t o run ++ sent_entry t o run e
sent_entries-push t o run e =
    ap (λ l. flat_map (λ xs. xs) l) (each_place-push (sent_entry t o) run e) ∙ flat_map-append (λ xs. xs) (each_place (sent_entry t o) run) (sent_entry t o run e ∷ [])
    ∙ ap (λ z. sent_entries t o run ++ z) (append-nil (sent_entry t o run e))

sent_entries-nil : (t : TableRows) (o : ℕ) → sent_entries t o [] ≡ []
unfolding each_place
sent_entries-nil t o = refl

sent-nil : (t : TableRows) (o : ℕ) → sent t o [] ≡ 0
unfolding sent picks
sent-nil t o = omega arith

All-one : {X : Type 0} (P : X → Type 0) (x : X) → P x → All P (x ∷ [])
All-one P x h zero d l = h
All-one P x h (suc k) d l = absurd (omega arith)

module _ (t : TableRows) (valid : AreValid t) (o : ℕ) (there : o < length t.outputs) where
  push-order : (run : List Event) (e : Event) → SendsInOrder t o run → SendsInOrder t o (run ++ e ∷ [])
  unfolding Advances
  push-order run e h =
      let P : List (ℕ × ℕ) → Type 0 = λ xs. All (λ x. due_tick t o x.1 ≤ x.0) xs in
      elim (advances t o run e) [
        | inl same ↦
            let none : sent_entry t o run e ≡ [] = (let no' : ltb (sent t o run) (sent t o (run ++ e ∷ [])) ≡ false = le-ltb _ _ (omega arith) in rw no' refl) in
            let all : sent_entries t o (run ++ e ∷ []) ≡ sent_entries t o run = sent_entries-push t o run e ∙ ap (λ z. sent_entries t o run ++ z) none ∙ append-nil (sent_entries t o run) in
            record {
              in_order = ap (λ l. map (λ x. x.1) l) all ∙ h.in_order ∙ ap (each_below (λ n. n ∷ [])) (sym same);
              when_due = subst P (sym all) h.when_due;
            }
        | inr more ↦
            let one : sent_entry t o run e ≡ (tick_after run, sent t o run) ∷ [] = (let yes' : ltb (sent t o run) (sent t o (run ++ e ∷ [])) ≡ true = lt-ltb _ _ (omega (arith, more.0)) in rw yes' refl) in
            let all : sent_entries t o (run ++ e ∷ []) ≡ sent_entries t o run ++ (tick_after run, sent t o run) ∷ [] = sent_entries-push t o run e ∙ ap (λ z. sent_entries t o run ++ z) one in
            record {
              in_order = ap (λ l. map (λ x. x.1) l) all ∙ map-append (λ x. x.1) (sent_entries t o run) ((tick_after run, sent t o run) ∷ []) ∙ ap (λ l. l ++ sent t o run ∷ []) h.in_order ∙ ap (each_below (λ n. n ∷ [])) (sym more.0);
              when_due = subst P (sym all) (All-append (λ x. due_tick t o x.1 ≤ x.0) (sent_entries t o run) ((tick_after run, sent t o run) ∷ []) h.when_due
                  (All-one (λ x. due_tick t o x.1 ≤ x.0) (tick_after run, sent t o run) (due_by-due t valid o there (sent t o run) (tick_after run) more.1)));
            }
      ]

  none-order : SendsInOrder t o []
  none-order =
      let P : List (ℕ × ℕ) → Type 0 = λ xs. All (λ x. due_tick t o x.1 ≤ x.0) xs in
      record {
        in_order = ap (λ l. map (λ x. x.1) l) (sent_entries-nil t o) ∙ ap (each_below (λ n. n ∷ [])) (sym (sent-nil t o));
        when_due = subst P (sym (sent_entries-nil t o)) (λ k d l. absurd (omega arith));
      }

  pub sends_in_order : (run : List Event) → SendsInOrder t o run
  sends_in_order run =
      let P : List Event → Type 0 = λ run. SendsInOrder t o run in
      snoc_induction P none-order (λ run e h. push-order run e h) run

pub send_in_order : (t : TableRows) → AreValid t → SendInOrder t
send_in_order t valid o there run = sends_in_order t valid o there run
