-- What is observed of an output.
use Rattle.std.proofs.Common.{◌≡◌, ℕ, ◌+◌, ◌-◌, ◌≤◌, ◌⊎◌, Bool, false, Option, Some, None, ltb, List, [], ◌++◌, length, take, drop, refl, sym, ap, ◌∙◌, arith, inl, inr, take-append-drop}
use Rattle.std.proofs.lemmas.Bool.{cases_lt, ltb-false}
use Rattle.std.proofs.lemmas.List.{append-nil, take_all}
use Rattle.dc_bound.specs.Places.{first_place}
use Rattle.dc_bound.specs.Run.{ticks}
use Rattle.dc_bound.specs.lemmas.FirstPlaces.{least_where-cases, least_where-none}
use Rattle.dc_check.specs.Numbers.{AtEachPlace, SendsWithin}
use Rattle.dc_event.specs.Outputs.{due_tick, due_by, sent}
use Rattle.dc_event.specs.Time.{tick_after}
use Rattle.dc_event.specs.declared.event.Event.{Event}
use Rattle.dc_observe.specs.Observed.{greatest_late, late_of, before_sent}
use Rattle.dc_tables.specs.TableRows.{TableRows}
use Rattle.dc_within.proofs.Inputs.{greatest_below-le}

-- what stands before the first place that passes, or all where there is none
abbrev front : {X : Type 0} → Option ℕ → List X → List X
front o run = (elim o [ None ↦ run | Some i ↦ take (i - 1) run ])

-- it is a beginning that does not pass, or nothing
abbrev IsFront : {X : Type 0} → (List X → Bool) → List X → List X → Type 0
IsFront {X} p run past = ((rest : List X) × (run ≡ past ++ rest)) × ((p past ≡ false) ⊎ (past ≡ []))

front-is : {X : Type 0} (p : List X → Bool) (run : List X) → IsFront p run (front (first_place p run) run)
unfolding first_place
front-is {X} p run =
    elim (least_where-cases (λ i. p (take i run)) (length run)) [
      | inl none ↦
          let is : first_place p run ≡ None = least_where-none (λ i. p (take i run)) (length run) none in
          rw is (([], sym (append-nil run)), inl (ap p (sym (take_all (length run) run (omega arith))) ∙ none (length run) (omega arith)))
      | inr (i, first) ↦
          let is : first_place p run ≡ Some i = first.found in
          rw is (
            (drop (i - 1) run, sym (take-append-drop (i - 1) run)),
            (elim (cases_lt 0 i) [
              | inl some ↦ inl (first.earlier (i - 1) (omega arith))
              | inr start ↦ let z : i - 1 ≡ 0 = omega arith in inr (ap (λ k. take k run) z)
            ]),
          )
    ]

no_ticks : tick_after [] ≡ 0
unfolding ticks
no_ticks = refl

late_at : (t : TableRows) (o n delay : ℕ) (run past : List Event) → AtEachPlace (SendsWithin t o delay) run → IsFront (λ now. ltb n (sent t o now)) run past → tick_after past - due_tick t o n ≤ delay
late_at t o n delay run past sends f =
    elim f.1 [
      | inl few ↦ elim (cases_lt (due_tick t o n + delay) (tick_after past)) [
        | inl late ↦ absurd (omega (arith, ltb-false n (sent t o past) few, sends past f.0.0 f.0.1 n late))
        | inr early ↦ omega (arith, early)
      ]
      | inr start ↦ omega (arith, no_ticks, ap (λ z. tick_after z) start)
    ]

pub late-within : (t : TableRows) (o delay : ℕ) (run : List Event) → AtEachPlace (SendsWithin t o delay) run → greatest_late t o run ≤ delay
unfolding greatest_late
late-within t o delay run sends =
    greatest_below-le (due_by t o (tick_after run)) (late_of t o run) delay (λ n l. late_at t o n delay run (before_sent t o n run) sends (front-is (λ now. ltb n (sent t o now)) run))
