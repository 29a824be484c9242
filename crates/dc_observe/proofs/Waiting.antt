-- The waits of a bus's words, one more event, and at the end.
use Rattle.std.proofs.Common.{◌≡◌, ℕ, suc, ◌-◌, ◌≤◌, ◌<◌, max, List, [], ◌∷◌, ◌++◌, length, refl, sym, ap, ◌∙◌, arith, append_assoc}
use Rattle.std.proofs.lemmas.Bool.{lt-ltb, le-ltb}
use Rattle.std.proofs.lemmas.List.{append-nil}
use Rattle.dc_bound.specs.Moves.{Move, taken, arrived_tick, routed_tick}
use Rattle.dc_bound.specs.Moves.Move.{Visit}
use Rattle.dc_bound.specs.lemmas.QueuePush.{routed_tick-keeps, routed_tick-now, taken-grows, taken-le}
use Rattle.dc_bound.specs.lemmas.QueueTimes.{arrived-earlier, arrived-rises, entered-le}
use Rattle.dc_tables.specs.TableRows.{TableRows}
use Rattle.dc_event.specs.Time.{tick_after}
use Rattle.dc_event.specs.Buses.{moves, move_of, room, bus_entered, bus_taken}
use Rattle.dc_event.specs.lemmas.RunPush.{moves-push, ticks_in-moves}
use Rattle.dc_event.specs.declared.event.Event.{Event}
use Rattle.dc_observe.specs.Observed.{greatest_below, greatest_wait, wait_of}
use Rattle.dc_observe.specs.Carried.{taken_wait, longest_taken}
use Rattle.dc_observe.proofs.Greatest.{greatest_below-same, greatest_below-first}

-- ---- a word that was taken keeps its ticks

routed-more : (room n : ℕ) (ms more : List Move) → n < taken room ms → routed_tick room n (ms ++ more) ≡ routed_tick room n ms
routed-more room n ms [] h = ap (routed_tick room n) (append-nil ms)
routed-more room n ms (m ∷ more) h =
    ap (routed_tick room n) (sym (append_assoc ms (m ∷ []) more)) ∙ routed-more room n (ms ++ m ∷ []) more (omega (arith, h, taken-grows room ms m)) ∙ routed_tick-keeps room n ms m h

module _ (t : TableRows) (b : ℕ) (run : List Event) (e : Event) where
  ms : List Move
  ms = moves t b run

  kept : (n : ℕ) → n < bus_taken t b run → taken_wait t b (run ++ e ∷ []) n ≡ taken_wait t b run n
  kept n l =
      let more : moves t b (run ++ e ∷ []) ≡ moves t b run ++ move_of t b run e = moves-push t b run e in
      let routed : routed_tick (room t b) n (moves t b (run ++ e ∷ [])) ≡ routed_tick (room t b) n (moves t b run) = ap (routed_tick (room t b) n) more ∙ routed-more (room t b) n (moves t b run) (move_of t b run e) l in
      let came : arrived_tick n (moves t b (run ++ e ∷ [])) ≡ arrived_tick n (moves t b run) =
      ap (arrived_tick n) more ∙ arrived-earlier n (moves t b run) (move_of t b run e) (omega (arith, l, taken-le (room t b) (moves t b run), entered-le (room t b) (moves t b run))) in
      omega (arith, routed, came)

  -- nothing is taken
  pub longest-same : bus_taken t b (run ++ e ∷ []) ≡ bus_taken t b run → longest_taken t b (run ++ e ∷ []) ≡ longest_taken t b run
  unfolding longest_taken
  longest-same still = ap (λ n. greatest_below n (taken_wait t b (run ++ e ∷ []))) still ∙ greatest_below-same (bus_taken t b run) (taken_wait t b (run ++ e ∷ [])) (taken_wait t b run) kept

  -- a word is taken
  pub longest-taken : move_of t b run e ≡ Visit ∷ [] → bus_taken t b (run ++ e ∷ []) ≡ suc (bus_taken t b run)
      → longest_taken t b (run ++ e ∷ []) ≡ max (longest_taken t b run) (tick_after run - arrived_tick (bus_taken t b run) (moves t b (run ++ e ∷ [])))
  unfolding longest_taken
  longest-taken visit next =
      let more : moves t b (run ++ e ∷ []) ≡ moves t b run ++ Visit ∷ [] = moves-push t b run e ∙ ap (λ z. moves t b run ++ z) visit in
      let count : taken (room t b) (moves t b run ++ Visit ∷ []) ≡ suc (bus_taken t b run) = sym (ap (taken (room t b)) more) ∙ next in
      let now : routed_tick (room t b) (bus_taken t b run) (moves t b (run ++ e ∷ [])) ≡ tick_after run =
      ap (routed_tick (room t b) (bus_taken t b run)) more ∙ routed_tick-now (room t b) (moves t b run) Visit (omega (arith, count)) ∙ ticks_in-moves t b run in
      ap (λ n. greatest_below n (taken_wait t b (run ++ e ∷ []))) next
      ∙ omega (arith, greatest_below-same (bus_taken t b run) (taken_wait t b (run ++ e ∷ [])) (taken_wait t b run) kept, now)

-- ---- no events

pub longest-nil : (t : TableRows) (b : ℕ) → bus_taken t b [] ≡ 0 → longest_taken t b [] ≡ 0
unfolding longest_taken
longest-nil t b none = ap (λ n. greatest_below n (taken_wait t b [])) none

-- ---- the end

module _ (t : TableRows) (b : ℕ) (run : List Event) where
  of_taken : (n : ℕ) → n < bus_taken t b run → wait_of t b run n ≡ taken_wait t b run n
  of_taken n l = rw (lt-ltb n (bus_taken t b run) l) refl

  of_waiting : (n : ℕ) → bus_taken t b run ≤ n → wait_of t b run n ≡ tick_after run - arrived_tick n (moves t b run)
  of_waiting n l = rw (le-ltb n (bus_taken t b run) l) refl

  front : greatest_below (bus_taken t b run) (wait_of t b run) ≡ greatest_below (bus_taken t b run) (taken_wait t b run)
  front = greatest_below-same (bus_taken t b run) (wait_of t b run) (taken_wait t b run) of_taken

  -- no word waits
  pub wait-none : length (bus_entered t b run) ≤ bus_taken t b run → greatest_wait t b run ≡ longest_taken t b run
  unfolding greatest_wait longest_taken
  wait-none none =
      let all : length (bus_entered t b run) ≡ bus_taken t b run = omega (arith, none, taken-le (room t b) (moves t b run)) in
      ap (λ n. greatest_below n (wait_of t b run)) all ∙ front

  -- of those that wait the first has waited longest
  pub wait-some : bus_taken t b run < length (bus_entered t b run) → greatest_wait t b run ≡ max (longest_taken t b run) (tick_after run - arrived_tick (bus_taken t b run) (moves t b run))
  unfolding greatest_wait longest_taken
  wait-some some =
      let n : ℕ = bus_taken t b run in
      let whole = greatest_below-first (bus_taken t b run) (length (bus_entered t b run)) (wait_of t b run) some
      (λ k l below. omega (
        arith,
        of_waiting k l,
        of_waiting (bus_taken t b run) (omega arith),
        arrived-rises (bus_taken t b run) k (moves t b run) l (omega (arith, below, entered-le (room t b) (moves t b run))),
      )) in
      omega (arith, whole, front, of_waiting (bus_taken t b run) (omega arith))
