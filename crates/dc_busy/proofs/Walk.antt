-- What a watcher knows after one stretch more, and at the end of its walk.
use Rattle.std.proofs.Common.{◌≡◌, ℕ, ◌+◌, ◌-◌, ◌<◌, ◌≤◌, max, Bool, true, false, refl, sym, subst, ◌∙◌, arith, inl, inr}
use Rattle.std.proofs.lemmas.Bool.{cases_lt}
use Rattle.dc_bound.specs.Window.{Shown}
use Rattle.dc_bound.specs.lemmas.Jumps.{Grows}
use Rattle.dc_busy.specs.BusyWindow.{Closes, BacklogAt, BacklogBounded, DelayBounded}
use Rattle.dc_busy.specs.Least.{IsLeast}
use Rattle.dc_busy.specs.lemmas.Least.{closing-bounds_delay}
use Rattle.dc_busy.specs.Watched.{EachBelow, DelayedBelow}

-- the greatest backlog, with one stretch more
pub more_backlog : (a s : ℕ → ℕ) → Grows s → (ticks until most greatest next : ℕ) → 1 ≤ ticks → ticks < until → next ≡ max greatest (most - s (ticks - 2)) →
    IsLeast (λ b. EachBelow (BacklogAt a s b) 1 ticks) greatest → Shown a ticks until most → IsLeast (λ b. EachBelow (BacklogAt a s b) 1 until) next
more_backlog a s grows ticks until most greatest next some ahead is known shown = (
  (λ v first below.
      elim (cases_lt v ticks) [
        | inl k ↦ omega (arith, known.0 v first k)
        | inr k ↦ omega (arith, shown v k below, grows (ticks - 2) (v - 2) (omega arith))
      ]),
  (λ m each. omega (arith, known.1 m (λ v first below. each v first (omega arith)), each ticks some ahead, shown ticks (omega arith) ahead)),
)

-- the greatest backlog, where one stretch more has none greater
pub same_backlog : (a s : ℕ → ℕ) → Grows s → (ticks until most greatest : ℕ) → ticks < until → most ≤ greatest + s (ticks - 2) → IsLeast (λ b. EachBelow (BacklogAt a s b) 1 ticks) greatest →
    Shown a ticks until most → IsLeast (λ b. EachBelow (BacklogAt a s b) 1 until) greatest
same_backlog a s grows ticks until most greatest ahead enough known shown = (
  (λ v first below.
      elim (cases_lt v ticks) [
        | inl k ↦ known.0 v first k
        | inr k ↦ omega (arith, shown v k below, enough, grows (ticks - 2) (v - 2) (omega arith))
      ]),
  (λ m each. known.1 m (λ v first below. each v first (omega arith))),
)

-- the greatest backlog of the whole window
pub all_backlogs : (a s t : ℕ → ℕ) → s ≡ t → (window greatest : ℕ) → (seen : Bool) → (seen ≡ true → IsLeast (λ b. EachBelow (BacklogAt a s b) 1 (window + 1)) greatest) → (seen ≡ false → ⊥) →
    IsLeast (BacklogBounded a t window) greatest
all_backlogs a s t same window greatest true all ended =
    subst (λ f. IsLeast (BacklogBounded a f window) greatest) same (
      (λ w some inside. (all refl).0 w some (omega arith)),
      (λ m each. (all refl).1 m (λ v some below. each v some (omega arith))),
    )
all_backlogs a s t same window greatest false all ended = absurd (ended refl)

-- the least delay, where one stretch more asks for a greater one
pub more_delay : (a s : ℕ → ℕ) → Grows s → (window ticks until most delay served : ℕ) → 1 ≤ ticks → ticks < until → ticks ≤ window →
    ticks - 1 + delay ≤ served → most ≤ s served → ((e : ℕ) → ticks - 1 + delay ≤ e → e < served → s e < most) →
    IsLeast (λ d. DelayedBelow a s window d ticks) delay → Shown a ticks until most → IsLeast (λ d. DelayedBelow a s window d until) (served - (ticks - 1))
more_delay a s grows window ticks until most delay served some ahead inside from enough too_few known shown = (
  (λ v first below near.
      elim (cases_lt v ticks) [
        | inl k ↦ omega (arith, known.0 v first k near, grows (v - 1 + delay) (v - 1 + (served - (ticks - 1))) (omega arith))
        | inr k ↦ omega (arith, shown v k below, enough, grows served (v - 1 + (served - (ticks - 1))) (omega arith))
      ]),
  (λ m each.
      elim (cases_lt m (served - (ticks - 1))) [
        | inl k ↦ absurd (omega (arith, known.1 m (λ v first below. each v first (omega arith)), too_few (ticks - 1 + m) (omega (arith, known.1 m (λ v first below. each v first (omega arith)))) (omega arith), each ticks some ahead inside, shown ticks (omega arith) ahead))
        | inr k ↦ k
      ]),
)

-- the least delay, where it is enough for one stretch more
pub same_delay : (a s : ℕ → ℕ) → Grows s → (window ticks until most delay : ℕ) → ticks < until → most ≤ s (ticks - 1 + delay) →
    IsLeast (λ d. DelayedBelow a s window d ticks) delay → Shown a ticks until most → IsLeast (λ d. DelayedBelow a s window d until) delay
same_delay a s grows window ticks until most delay ahead enough known shown = (
  (λ v first below near.
      elim (cases_lt v ticks) [
        | inl k ↦ known.0 v first k near
        | inr k ↦ omega (arith, shown v k below, enough, grows (ticks - 1 + delay) (v - 1 + delay) (omega arith))
      ]),
  (λ m each. known.1 m (λ v first below. each v first (omega arith))),
)

-- where no delay is enough for one stretch
pub no_delay : (a s : ℕ → ℕ) → Grows s → (window ticks until most : ℕ) → 1 ≤ ticks → ticks < until → ticks ≤ window → s (ticks - 1 + 100000) < most →
    Shown a ticks until most → (d : ℕ) → d ≤ 100000 → ¬ DelayBounded a s window d
no_delay a s grows window ticks until most some ahead inside few shown d short bounded =
    omega (arith, bounded ticks some inside, shown ticks (omega arith) ahead, few, grows (ticks - 1 + d) (ticks - 1 + 100000) (omega arith))

-- the least delay of the whole window
pub all_delays : (a s t : ℕ → ℕ) → s ≡ t → (held window last delay : ℕ) → held ≡ window → last ≡ window → IsLeast (λ d. DelayedBelow a s held d (last + 1)) delay →
    IsLeast (DelayBounded a t window) delay
all_delays a s t same held window last delay is end known =
    subst (λ f. IsLeast (DelayBounded a f window) delay) same (
      (λ w some inside. known.0 w some (omega arith) (omega arith)),
      (λ m each. known.1 m (λ v some below near. each v some (omega arith))),
    )

-- behind the window no delay is asked for
pub past_window : (a s : ℕ → ℕ) (window ticks until delay : ℕ) → window < ticks → ticks < until →
    IsLeast (λ d. DelayedBelow a s window d ticks) delay → IsLeast (λ d. DelayedBelow a s window d until) delay
past_window a s window ticks until delay behind ahead known = (
  (λ v first below near. known.0 v first (omega arith) near),
  (λ m each. known.1 m (λ v first below near. each v first (omega arith) near)),
)

-- the greatest backlog, where no more come at the end of a leap than pass
pub patient_backlog : (a s : ℕ → ℕ) → Grows a → Grows s → (ticks until passes greatest : ℕ) → ticks ≤ until → passes ≤ greatest + s (ticks - 2) → a until ≤ passes →
    IsLeast (λ b. EachBelow (BacklogAt a s b) 1 ticks) greatest → IsLeast (λ b. EachBelow (BacklogAt a s b) 1 (until + 1)) greatest
patient_backlog a s a_grows s_grows ticks until passes greatest ahead enough few known = (
  (λ v first below.
      elim (cases_lt v ticks) [
        | inl k ↦ known.0 v first k
        | inr k ↦ omega (arith, a_grows v until (omega arith), few, enough, s_grows (ticks - 2) (v - 2) (omega arith))
      ]),
  (λ m each. known.1 m (λ v first below. each v first (omega arith))),
)

-- the least delay, where no more come at the end of a leap than pass
pub patient_delay : (a s : ℕ → ℕ) → Grows a → Grows s → (window ticks until passes delay : ℕ) → ticks ≤ until → passes ≤ s (ticks - 1 + delay) → a until ≤ passes →
    IsLeast (λ d. DelayedBelow a s window d ticks) delay → IsLeast (λ d. DelayedBelow a s window d (until + 1)) delay
patient_delay a s a_grows s_grows window ticks until passes delay ahead enough few known = (
  (λ v first below near.
      elim (cases_lt v ticks) [
        | inl k ↦ known.0 v first k near
        | inr k ↦ omega (arith, a_grows v until (omega arith), few, enough, s_grows (ticks - 1 + delay) (v - 1 + delay) (omega arith))
      ]),
  (λ m each. known.1 m (λ v first below near. each v first (omega arith) near)),
)

-- what is known at the end, where the walk cannot have ended before
pub to_the_end : {P : Type 0} (seen : Bool) → (seen ≡ true → P) → (seen ≡ false → ⊥) → P
to_the_end true all ended = all refl
to_the_end false all ended = absurd (ended refl)

-- in a window that closes, some delay is enough
pub some_delay : (a s t u : ℕ → ℕ) → s ≡ t → u ≡ t → Grows a → Grows s → (held window last : ℕ) → held ≡ window → last ≡ window → 1 ≤ last → last ≤ 100000 → Closes a u last →
    ((d : ℕ) → d ≤ 100000 → ¬ DelayBounded a s held d) → ⊥
some_delay a s t u same asked a_grows s_grows held window last is end some most closes never =
    let here : Closes a s last = subst (λ f. Closes a f last) (asked ∙ sym same) closes in
    never (last - 1) (omega arith) (λ w first inside. closing-bounds_delay a s a_grows s_grows last here w first (omega arith))
