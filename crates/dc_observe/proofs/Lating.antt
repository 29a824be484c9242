-- How late an output's entries are, one more event, and at the end.
use Rattle.std.proofs.Common.{◌≡◌, ℕ, suc, ◌+◌, ◌-◌, ◌≤◌, ◌<◌, max, ltb, Bool, true, false, Option, Some, None, List, [], ◌∷◌, ◌++◌, length, take, drop, refl, sym, ap, ◌∙◌, arith, inl, inr, append_assoc, take-append-drop, eq-eqb, cond}
use Rattle.std.proofs.lemmas.Bool.{cases_lt, cases_eq, lt-ltb, le-ltb}
use Rattle.std.proofs.lemmas.List.{append-nil, take_all}
use Rattle.dc_bound.specs.Run.{one_if, picks}
use Rattle.dc_bound.specs.Places.{first_place, or_else, when}
use Rattle.dc_bound.specs.lemmas.PlacesPush.{first_place-push, first_place-bound, first_place-none_now, take_before_last}
use Rattle.dc_bound.specs.lemmas.FirstPlaces.{first_place-none}
use Rattle.dc_bound.specs.lemmas.Due.{due_ascend}
use Rattle.dc_tables.specs.TableRows.{TableRows, AreValid, output_row, offsets}
use Rattle.dc_event.specs.Time.{tick_after, ends, send_of}
use Rattle.dc_event.specs.Outputs.{due_tick, due_by, sent}
use Rattle.dc_event.specs.lemmas.RunPush.{sent-push, sent-le, tick-push, due_by-next}
use Rattle.dc_event.specs.lemmas.OutputMoves.{offsets_fit, due_tick-is, due_by-due, due-due_by}
use Rattle.dc_event.specs.declared.event.Event.{Event}
use Rattle.dc_event.specs.declared.event.Event.TheVariants.{Tick, Arrive, Route, Send}
use Rattle.dc_observe.specs.Observed.{greatest_below, before_sent, late_of, greatest_late}
use Rattle.dc_observe.specs.Carried.{latest_sent}
use Rattle.dc_observe.proofs.Greatest.{greatest_below-same, greatest_below-first}

-- ---- what was sent never falls

due_by-later : (t : TableRows) (o k : ℕ) (e : Event) → due_by t o k ≤ due_by t o (k + ends e)
due_by-later t o k Tick = due_by-next t o k
due_by-later t o k (Arrive w b) = (let e : k + 0 ≡ k = omega arith in omega (arith, ap (due_by t o) e))
due_by-later t o k (Route r) = (let e : k + 0 ≡ k = omega arith in omega (arith, ap (due_by t o) e))
due_by-later t o k (Send q) = (let e : k + 0 ≡ k = omega arith in omega (arith, ap (due_by t o) e))

sent-grows : (t : TableRows) (o : ℕ) (run : List Event) (e : Event) → sent t o run ≤ sent t o (run ++ e ∷ [])
sent-grows t o run e = omega (arith, sent-push t o run e, sent-le t o run, due_by-later t o (tick_after run) e, ap (due_by t o) (tick-push run e))

sent-grows_by : (t : TableRows) (o : ℕ) (past rest : List Event) → sent t o past ≤ sent t o (past ++ rest)
sent-grows_by t o past [] = omega (arith, ap (sent t o) (append-nil past))
sent-grows_by t o past (e ∷ rest) = omega (arith, sent-grows t o past e, sent-grows_by t o (past ++ e ∷ []) rest, ap (sent t o) (append_assoc past (e ∷ []) rest))

sent-rises : (t : TableRows) (o : ℕ) (run : List Event) (j : ℕ) → sent t o (take j run) ≤ sent t o run
sent-rises t o run j = omega (arith, sent-grows_by t o (take j run) (drop j run), ap (sent t o) (take-append-drop j run))

-- ---- when an entry left

abbrev has_sent : TableRows → ℕ → ℕ → List Event → Bool
has_sent t o n past = ltb n (sent t o past)

abbrev before_place : List Event → Option ℕ → List Event
before_place run o = (elim o [ None ↦ run | Some i ↦ take (i - 1) run ])

module _ (t : TableRows) (o : ℕ) (run : List Event) (e : Event) where
  -- an entry that left has left when it did
  left-keeps : (n : ℕ) → n < sent t o run → before_sent t o n (run ++ e ∷ []) ≡ before_sent t o n run
  left-keeps n h =
      elim (first_place (has_sent t o n) run) as (λ p. first_place (has_sent t o n) run ≡ p → before_place (run ++ e ∷ []) (first_place (has_sent t o n) (run ++ e ∷ [])) ≡ before_place run (first_place (has_sent t o n) run)) [
        | None ↦ λ is. absurd (let both : true ≡ false = sym (lt-ltb n (sent t o run) h) ∙ first_place-none_now (has_sent t o n) run is in cc)
        | Some i ↦ λ is.
            let bound : i ≤ length run = first_place-bound (has_sent t o n) run i is in
            let next : first_place (has_sent t o n) (run ++ e ∷ []) ≡ Some i = first_place-push (has_sent t o n) run e ∙ ap (λ p. or_else p (when (has_sent t o n (run ++ e ∷ [])) (suc (length run)))) is in
            ap (before_place (run ++ e ∷ [])) next ∙ take_before_last run e (i - 1) (omega arith) ∙ sym (ap (before_place run) is)
      ] refl

  -- an entry that leaves now leaves now
  left-now : sent t o run < sent t o (run ++ e ∷ []) → before_sent t o (sent t o run) (run ++ e ∷ []) ≡ run
  left-now h =
      let n : ℕ = sent t o run in
      let none : first_place (has_sent t o (sent t o run)) run ≡ None = first_place-none (has_sent t o (sent t o run)) run (λ j l. le-ltb _ _ (sent-rises t o run j)) in
      let yes' : has_sent t o (sent t o run) (run ++ e ∷ []) ≡ true = lt-ltb _ _ h in
      let next : first_place (has_sent t o (sent t o run)) (run ++ e ∷ []) ≡ Some (suc (length run)) =
      first_place-push (has_sent t o (sent t o run)) run e ∙ ap (λ p. or_else p (when (has_sent t o (sent t o run) (run ++ e ∷ [])) (suc (length run)))) none ∙ ap (λ v. when v (suc (length run))) yes' in
      let back : suc (length run) - 1 ≡ length run = omega arith in
      ap (before_place (run ++ e ∷ [])) next ∙ ap (λ k. take k (run ++ e ∷ [])) back ∙ take_before_last run e (length run) (omega arith) ∙ take_all (length run) run (omega arith)

  kept : (n : ℕ) → n < sent t o run → late_of t o (run ++ e ∷ []) n ≡ late_of t o run n
  kept n l = ap (λ z. tick_after z - due_tick t o n) (left-keeps n l)

  -- nothing leaves
  pub latest-same : sent t o (run ++ e ∷ []) ≡ sent t o run → latest_sent t o (run ++ e ∷ []) ≡ latest_sent t o run
  unfolding latest_sent
  latest-same still = ap (λ n. greatest_below n (late_of t o (run ++ e ∷ []))) still ∙ greatest_below-same (sent t o run) (late_of t o (run ++ e ∷ [])) (late_of t o run) kept

  -- an entry leaves
  pub latest-left : sent t o (run ++ e ∷ []) ≡ suc (sent t o run) → latest_sent t o (run ++ e ∷ []) ≡ max (latest_sent t o run) (tick_after run - due_tick t o (sent t o run))
  unfolding latest_sent
  latest-left next =
      ap (λ n. greatest_below n (late_of t o (run ++ e ∷ []))) next
      ∙ omega (arith, greatest_below-same (sent t o run) (late_of t o (run ++ e ∷ [])) (late_of t o run) kept, ap tick_after (left-now (omega (arith, next))))

-- ---- no events

sent-nil : (t : TableRows) (o : ℕ) → sent t o [] ≡ 0
unfolding sent picks
sent-nil t o = omega arith

pub latest-nil : (t : TableRows) (o : ℕ) → latest_sent t o [] ≡ 0
unfolding latest_sent
latest-nil t o = ap (λ n. greatest_below n (late_of t o [])) (sent-nil t o)

-- ---- a send

calm-send : (run : List Event) (q : ℕ) → tick_after (run ++ Send q ∷ []) ≡ tick_after run
calm-send run q = omega (arith, tick-push run (Send q))

own-send : (o : ℕ) → one_if (send_of o (Send o)) ≡ 1
own-send o = ap (λ v. one_if (cond v (Some o) None)) (eq-eqb o o refl)

module _ (t : TableRows) (valid : AreValid t) (o : ℕ) (there : o < length t.outputs) (run : List Event) where
  pub sends-one : due_tick t o (sent t o run) ≤ tick_after run → sent t o (run ++ Send o ∷ []) ≡ suc (sent t o run)
  sends-one due = omega (arith, sent-push t o run (Send o), own-send o, due-due_by t valid o there (sent t o run) (tick_after run) due, ap (due_by t o) (calm-send run o))

  pub sends-none : tick_after run < due_tick t o (sent t o run) → sent t o (run ++ Send o ∷ []) ≡ sent t o run
  sends-none early = elim (cases_lt (sent t o run) (due_by t o (tick_after run))) [
    | inl l ↦ absurd (omega (arith, due_by-due t valid o there (sent t o run) (tick_after run) l, early))
    | inr l ↦ omega (arith, sent-push t o run (Send o), sent-le t o run, l, ap (due_by t o) (calm-send run o), sent-grows t o run (Send o))
  ]

  -- ---- the end

  ascends : (i j : ℕ) → i ≤ j → due_tick t o i ≤ due_tick t o j
  ascends i j h = elim (cases_eq i j) [
    | inl same ↦ omega (arith, ap (due_tick t o) same)
    | inr other ↦ omega (arith, due_tick-is t valid o there i, due_tick-is t valid o there j, due_ascend (output_row t o).frame (offsets t o) (offsets_fit t valid o there) i j (omega (arith, h, other)))
  ]

  unsent : (n : ℕ) → sent t o run ≤ n → late_of t o run n ≡ tick_after run - due_tick t o n
  unsent n h =
      let none : first_place (has_sent t o n) run ≡ None = first_place-none (has_sent t o n) run (λ j l. le-ltb _ _ (omega (arith, sent-rises t o run j, h))) in
      ap (λ p. tick_after (before_place run p) - due_tick t o n) none

  -- nothing is overdue
  pub late-none : tick_after run < due_tick t o (sent t o run) → greatest_late t o run ≡ latest_sent t o run
  unfolding greatest_late latest_sent
  late-none early =
      let all : due_by t o (tick_after run) ≡ sent t o run = elim (cases_lt (sent t o run) (due_by t o (tick_after run))) [
        | inl l ↦ absurd (omega (arith, due_by-due t valid o there (sent t o run) (tick_after run) l, early))
        | inr l ↦ omega (arith, l, sent-le t o run)
      ] in
      ap (λ n. greatest_below n (late_of t o run)) all

  -- of those that are due the first is the latest
  pub late-some : due_tick t o (sent t o run) ≤ tick_after run → greatest_late t o run ≡ max (latest_sent t o run) (tick_after run - due_tick t o (sent t o run))
  unfolding greatest_late latest_sent
  late-some due =
      let some : sent t o run < due_by t o (tick_after run) = due-due_by t valid o there (sent t o run) (tick_after run) due in
      let whole = greatest_below-first (sent t o run) (due_by t o (tick_after run)) (late_of t o run) some
      (λ k l below. omega (arith, unsent k l, unsent (sent t o run) (omega arith), ascends (sent t o run) k l)) in
      omega (arith, whole, unsent (sent t o run) (omega arith))
