-- One more event keeps what is carried of late entries.
use Rattle.std.proofs.Common.{◌≡◌, ℕ, ◌-◌, ◌≤◌, ◌<◌, min, max, cond, Some, None, List, [], ◌∷◌, ◌++◌, length, get_or, set, refl, sym, ap, ◌∙◌, subst, arith, inl, inr}
use Rattle.std.proofs.lemmas.Bool.{cases_eq, cases_lt, ne_eqb}
use Rattle.std.proofs.lemmas.List.{get_or-set_same, get_or-set_other}
use Rattle.dc_tables.specs.TableRows.{TableRows, AreValid}
use Rattle.dc_event.specs.Time.{tick_after}
use Rattle.dc_event.specs.Outputs.{due_tick, sent}
use Rattle.dc_event.specs.lemmas.RunPush.{sent-other}
use Rattle.dc_event.specs.declared.event.Event.{Event}
use Rattle.dc_event.specs.declared.event.Event.TheVariants.{Tick, Arrive, Route, Send}
use Rattle.dc_observe.specs.Carried.{latest_sent}
use Rattle.dc_observe.specs.Lates.{AreLate}
use Rattle.dc_observe.specs.Observed.{greatest_late}
use Rattle.dc_observe.specs.declared.lates.LateGauge.{LateGauge}
use Rattle.dc_observe.proofs.Lating.{latest-same, latest-left, sends-one, sends-none, late-none, late-some}

-- ---- nothing is sent

pub late-tick : (t : TableRows) (g : LateGauge) (run : List Event) → AreLate t g run → AreLate t g (run ++ Tick ∷ [])
late-tick t g run h o l = h o l ∙ sym (latest-same t o run Tick (sent-other t o run Tick refl))

pub late-arrive : (t : TableRows) (g : LateGauge) (run : List Event) (w a : ℕ) → AreLate t g run → AreLate t g (run ++ Arrive w a ∷ [])
late-arrive t g run w a h o l = h o l ∙ sym (latest-same t o run (Arrive w a) (sent-other t o run (Arrive w a) refl))

pub late-route : (t : TableRows) (g : LateGauge) (run : List Event) (r : ℕ) → AreLate t g run → AreLate t g (run ++ Route r ∷ [])
late-route t g run r h o l = h o l ∙ sym (latest-same t o run (Route r) (sent-other t o run (Route r) refl))

-- ---- an output makes a send step

module _ (t : TableRows) (valid : AreValid t) (run : List Event) (o : ℕ) (there : o < length t.outputs) where
  elsewhere : (q : ℕ) → (o ≡ q → ⊥) → latest_sent t q (run ++ Send o ∷ []) ≡ latest_sent t q run
  elsewhere q other = latest-same t q run (Send o) (sent-other t q run (Send o) (ap (λ v. cond v (Some o) None) (ne_eqb o q other)))

  -- no entry is due
  pub late-idle : (g : LateGauge) → tick_after run < due_tick t o (sent t o run) → AreLate t g run → AreLate t g (run ++ Send o ∷ [])
  late-idle g early h q l = h q l ∙ sym (elim (cases_eq o q) [
    | inl same ↦ (let P : ℕ → Type 0 = λ q. latest_sent t q (run ++ Send o ∷ []) ≡ latest_sent t q run in subst P same (latest-same t o run (Send o) (sends-none t valid o there run early)))
    | inr other ↦ elsewhere q other
  ])

  pub late-left : (old new : LateGauge) (due : ℕ) → due ≡ due_tick t o (sent t o run) → due ≤ tick_after run → o < length old.latest.items
      → new.latest.items ≡ set old.latest.items o (max (get_or old.latest.items o 0) (tick_after run - due)) → AreLate t old run → AreLate t new (run ++ Send o ∷ [])
  late-left old new due is soon sized items h q l =
      ap (λ xs. get_or xs q 0) items ∙ elim (cases_eq o q) [
        | inl mine ↦
            let Q : ℕ → Type 0 = λ q. get_or (set old.latest.items o (max (get_or old.latest.items o 0) (tick_after run - due))) q 0 ≡ latest_sent t q (run ++ Send o ∷ []) in
            subst Q mine (get_or-set_same old.latest.items o _ 0 sized ∙ omega (arith, h o there, is, latest-left t o run (Send o) (sends-one t valid o there run (omega (arith, is, soon)))))
        | inr other ↦
            let ne : q ≡ o → ⊥ = λ e. other (sym e) in
            get_or-set_other old.latest.items o q _ 0 ne ∙ h q l ∙ sym (elsewhere q other)
      ]

  -- ---- the end, by a due tick that is bounded

  module _ (due bound tick : ℕ) (is : due ≡ min (due_tick t o (sent t o run)) bound) (clock : tick ≡ tick_after run) (fits : tick ≤ bound) where
    pub end-early : tick < due → greatest_late t o run ≡ latest_sent t o run
    end-early early = late-none t valid o there run (omega (arith, is, clock, early))

    pub end-due : due ≤ tick → greatest_late t o run ≡ max (latest_sent t o run) (tick - due)
    end-due soon = elim (cases_lt (tick_after run) (due_tick t o (sent t o run))) [
      | inl early ↦ omega (arith, late-none t valid o there run early, is, clock, fits, soon, early)
      | inr now ↦ omega (arith, late-some t valid o there run now, is, clock, fits, soon, now)
    ]
