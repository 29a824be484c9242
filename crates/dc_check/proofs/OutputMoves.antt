-- What a run is to an output: in each tick, first the entries that come due in it come in; a send is a visit.
use Rattle.std.proofs.Common.{◌≡◌, ℕ, zero, suc, ◌+◌, ◌-◌, ◌*◌, ◌/◌, ◌≤◌, ◌<◌, inl, inr, min, List, [], ◌∷◌, ◌++◌, length, get_or, Option, Some, None, refl, sym, ap, ◌∙◌, arith, append_assoc, length-append}
use Rattle.std.proofs.lemmas.Bool.{cases_lt}
use Rattle.std.proofs.lemmas.List.{append-nil, get_or_append_left, get_or-append_right}
use Rattle.dc_bound.specs.lemmas.Budget.{pace_holds}
use Rattle.dc_bound.specs.lemmas.Dues.{IsDueCount, due_count_grows}
use Rattle.dc_bound.specs.lemmas.Least.{served_in-le}
use Rattle.dc_bound.specs.Moves.{Move, move_ends, tag_of, visit_of, ticks_in, visits, entries, visit_ticks, ins, passed}
use Rattle.dc_bound.specs.Moves.Move.{Tick, In, Visit}
use Rattle.dc_bound.specs.Places.{served_in}
use Rattle.dc_bound.specs.lemmas.Queued.{ins-append, passed-le}
use Rattle.dc_bound.specs.Run.{ticks, picks, stamp, stamped, one_if}
use Rattle.dc_bound.specs.lemmas.Segments.{ticks-append, picks-append}
use Rattle.dc_bound.specs.lemmas.Steps.{stamped-append}
use Rattle.dc_bound.specs.Window.{HoldAtLeast, count_in, ticks_of}
use Rattle.dc_busy.specs.BusyWindow.{Serves}
use Rattle.dc_busy.specs.lemmas.EmptyRuns.{IsMoment}
use Rattle.dc_check.proofs.Intervals.{by_events}
use Rattle.dc_check.proofs.Served.{served_in-push, passed-still, passed-visit}

-- items that come in, one after another
abbrev pub come_in : List (ℕ × ℕ) → List Move
come_in [] = []
come_in (x ∷ xs) = In x ∷ come_in xs

pub come_in-ticks : (xs : List (ℕ × ℕ)) → ticks_in (come_in xs) ≡ 0
unfolding ticks
come_in-ticks [] = refl
come_in-ticks (x ∷ xs) = omega (arith, come_in-ticks xs)

pub come_in-visits : (xs : List (ℕ × ℕ)) → visits (come_in xs) ≡ 0
unfolding picks
come_in-visits [] = refl
come_in-visits (x ∷ xs) = omega (arith, come_in-visits xs)

pub come_in-count : (xs : List (ℕ × ℕ)) → length (ins (come_in xs)) ≡ length xs
unfolding ins
come_in-count [] = refl
come_in-count (x ∷ xs) = omega (arith, come_in-count xs)

stamped_at : (t : ℕ) (x : ℕ × ℕ) (xs : List (ℕ × ℕ)) → ((k : ℕ) → k < length xs → get_or (ticks_of (stamped move_ends tag_of (t + 0) (come_in xs))) k 0 ≡ t + 0) →
    (k : ℕ) → k < suc (length xs) → get_or (ticks_of (stamped move_ends tag_of t (come_in (x ∷ xs)))) k 0 ≡ t
unfolding stamped
stamped_at t x xs h zero l = refl
stamped_at t x xs h (suc k) l = omega (arith, h k (omega arith))

-- in tick t they are stamped t
pub come_in-stamped : (t : ℕ) (xs : List (ℕ × ℕ)) → (length (ticks_of (stamped move_ends tag_of t (come_in xs))) ≡ length xs)
    × ((k : ℕ) → k < length xs → get_or (ticks_of (stamped move_ends tag_of t (come_in xs))) k 0 ≡ t)
unfolding stamped
come_in-stamped t [] = (refl, λ k h. absurd (omega arith))
come_in-stamped t (x ∷ xs) =
    let rest = come_in-stamped (t + 0) xs in
    (omega (arith, rest.0), λ k h. stamped_at t x xs rest.1 k h)

pub come_in-no_visits : (t : ℕ) (xs : List (ℕ × ℕ)) → ticks_of (stamped move_ends visit_of t (come_in xs)) ≡ []
unfolding stamped
come_in-no_visits t [] = refl
come_in-no_visits t (x ∷ xs) = come_in-no_visits (t + 0) xs

-- what an event in tick t is to the output, where `dues t` are the entries that come due in tick t
pub data Sees (dues : ℕ → List (ℕ × ℕ)) (t ends sends : ℕ) (ms : List Move) : Type 0 where
  ended : ms ≡ Tick ∷ come_in (dues (suc t)) → ends ≡ 1 → sends ≡ 0 → Sees dues t ends sends ms
  turned : ms ≡ Visit ∷ [] → ends ≡ 0 → sends ≡ 1 → Sees dues t ends sends ms
  idle : ms ≡ [] → ends ≡ 0 → sends ≡ 0 → Sees dues t ends sends ms

-- `moves` are the moves of the output of each run
pub record AreOutputMoves {E X : Type 0} (ends : E → ℕ) (send : E → Option X) (dues : ℕ → List (ℕ × ℕ)) (move : List E → E → List Move) (moves : List E → List Move) : Type 0 where
  pub first : moves [] ≡ come_in (dues 0)
  pub next : (past : List E) (e : E) → moves (past ++ (e ∷ [])) ≡ moves past ++ move past e
  pub sees : (past : List E) (e : E) → Sees dues (ticks ends past) (ends e) (one_if (send e)) (move past e)

-- as many come in at each tick as come due in it
pub record CountsDues (dues : ℕ → List (ℕ × ℕ)) (count : ℕ → ℕ) : Type 0 where
  pub zeroth : length (dues 0) ≡ count 0
  pub later : (t : ℕ) → count (suc t) ≡ count t + length (dues (suc t))

-- the lesser of the sends, and the least over each place of what was due by it and the sends after it
abbrev pub sent_of : {E X : Type 0} → (E → ℕ) → (E → Option X) → (ℕ → ℕ) → List E → ℕ
sent_of ends send count run = min (picks send run) (served_in (λ past. count (ticks ends past)) (λ past. picks send past) run)

-- one more event
module _ {E X : Type 0} (ends : E → ℕ) (pick : E → Option X) where
  pub ticks-push : (past : List E) (e : E) → ticks ends (past ++ (e ∷ [])) ≡ ticks ends past + ends e
  unfolding ticks
  ticks-push past e = omega (arith, ticks-append ends pick past (e ∷ []))

  pub picks-push : (past : List E) (e : E) → picks pick (past ++ (e ∷ [])) ≡ picks pick past + one_if (pick e)
  unfolding picks
  picks-push past e = omega (arith, picks-append ends pick past (e ∷ []))

  pub picks-rise : (a b : List E) → picks pick a ≤ picks pick (a ++ b)
  picks-rise a b = omega (arith, picks-append ends pick a b)

pub ticks_of-append : {X : Type 0} (a b : List (ℕ × X)) → ticks_of (a ++ b) ≡ ticks_of a ++ ticks_of b
ticks_of-append [] b = refl
ticks_of-append (x ∷ a) b = ap (λ z. x.0 ∷ z) (ticks_of-append a b)

stamp_none : {X : Type 0} (t : ℕ) (o : Option X) → one_if o ≡ 0 → ticks_of (stamp t o []) ≡ []
stamp_none t None h = refl
stamp_none t (Some x) h = absurd (omega arith)

stamp_one : {X : Type 0} (t : ℕ) (o : Option X) → one_if o ≡ 1 → ticks_of (stamp t o []) ≡ t ∷ []
stamp_one t None h = absurd (omega arith)
stamp_one t (Some x) h = refl

-- the counts of a move list
counts_tick : (ds : List (ℕ × ℕ)) → (ticks_in (Tick ∷ come_in ds) ≡ 1) × (visits (Tick ∷ come_in ds) ≡ 0) × (length (ins (Tick ∷ come_in ds)) ≡ length ds)
unfolding ticks picks ins
counts_tick ds = (omega (arith, come_in-ticks ds), omega (arith, come_in-visits ds), omega (arith, come_in-count ds))

-- each is without a visit, or one move at most
pub sees-moment : (dues : ℕ → List (ℕ × ℕ)) (t ends sends : ℕ) (ms : List Move) → Sees dues t ends sends ms → IsMoment ms
sees-moment dues t ends sends ms (ended m a b) = inl (ap visits m ∙ (counts_tick (dues (suc t))).1)
sees-moment dues t ends sends ms (turned m a b) = inr (omega (arith, ap length m))
sees-moment dues t ends sends ms (idle m a b) = inr (omega (arith, ap length m))

counts_visit : (ticks_in (Visit ∷ []) ≡ 0) × (visits (Visit ∷ []) ≡ 1) × (length (ins (Visit ∷ [])) ≡ 0)
unfolding ticks picks ins
counts_visit = (refl, refl, refl)

counts_none : (ticks_in [] ≡ 0) × (visits [] ≡ 0) × (length (ins []) ≡ 0)
unfolding ticks picks ins
counts_none = (refl, refl, refl)

passed_nothing : passed [] ≡ 0
unfolding picks ins
passed_nothing = omega (arith, passed-le [] [])

tick_first : (t : ℕ) (ds : List (ℕ × ℕ)) → ticks_of (stamped move_ends tag_of t (Tick ∷ come_in ds)) ≡ ticks_of (stamped move_ends tag_of (t + 1) (come_in ds))
unfolding stamped
tick_first t ds = refl

visit_first : (t : ℕ) → ticks_of (stamped move_ends tag_of t (Visit ∷ [])) ≡ []
unfolding stamped
visit_first t = refl

none_first : (t : ℕ) → ticks_of (stamped move_ends tag_of t []) ≡ []
unfolding stamped
none_first t = refl

module _ {E X : Type 0} (ends : E → ℕ) (send : E → Option X) (dues : ℕ → List (ℕ × ℕ)) (move : List E → E → List Move) (moves : List E → List Move) (is : AreOutputMoves ends send dues move moves) where
  -- the moves of a run begin with those of its beginnings
  pub moves-begin : (past rest : List E) → (more : List Move) × (moves (past ++ rest) ≡ moves past ++ more)
  moves-begin past [] = ([], ap moves (append-nil past) ∙ sym (append-nil (moves past)))
  moves-begin past (e ∷ rest) =
      let r = moves-begin (past ++ (e ∷ [])) rest in
      (move past e ++ r.0, ap moves (sym (append_assoc past (e ∷ []) rest)) ∙ r.1 ∙ ap (λ z. z ++ r.0) (is.next past e) ∙ append_assoc (moves past) (move past e) r.0)

  -- what one event adds
  added : (past : List E) (e : E) → (ticks_in (move past e) ≡ ends e) × (visits (move past e) ≡ one_if (send e))
  added past e =
      elim (is.sees past e) [
        | ended m a b ↦ let c = counts_tick (dues (suc (ticks ends past))) in (omega (arith, ap ticks_in m, c.0), omega (arith, ap visits m, c.1))
        | turned m a b ↦ (omega (arith, ap ticks_in m, counts_visit.0), omega (arith, ap visits m, counts_visit.1))
        | idle m a b ↦ (omega (arith, ap ticks_in m, counts_none.0), omega (arith, ap visits m, counts_none.1))
      ]

  pub moves-ticks : (run : List E) → ticks_in (moves run) ≡ ticks ends run
  unfolding ticks
  moves-ticks run =
      by_events (λ past. ticks_in (moves past) ≡ ticks ends past) (omega (arith, ap ticks_in is.first, come_in-ticks (dues 0)))
      (λ past e ih. omega (arith, ih, ap ticks_in (is.next past e), ticks-append move_ends tag_of (moves past) (move past e), (added past e).0, ticks-push ends send past e)) run

  visits_first : visit_ticks (moves []) ≡ ticks_of (stamped ends send 0 [])
  unfolding stamped
  visits_first = ap visit_ticks is.first ∙ come_in-no_visits 0 (dues 0)

  visits_next : (past : List E) (e : E) → ticks_of (stamped move_ends visit_of (0 + ticks_in (moves past)) (move past e)) ≡ ticks_of (stamped ends send (0 + ticks ends past) (e ∷ []))
  unfolding stamped
  visits_next past e =
      let same : 0 + ticks_in (moves past) ≡ 0 + ticks ends past = omega (arith, moves-ticks past) in
      elim (is.sees past e) [
        | ended m a b ↦
            ap (λ z. ticks_of (stamped move_ends visit_of (0 + ticks_in (moves past)) z)) m
            ∙ come_in-no_visits (0 + ticks_in (moves past) + 1) (dues (suc (ticks ends past)))
            ∙ sym (stamp_none (0 + ticks ends past) (send e) b)
        | turned m a b ↦
            ap (λ z. ticks_of (stamped move_ends visit_of (0 + ticks_in (moves past)) z)) m
            ∙ ap (λ z. z ∷ []) same
            ∙ sym (stamp_one (0 + ticks ends past) (send e) b)
        | idle m a b ↦
            ap (λ z. ticks_of (stamped move_ends visit_of (0 + ticks_in (moves past)) z)) m
            ∙ sym (stamp_none (0 + ticks ends past) (send e) b)
      ]

  -- visits are in the ticks of the sends
  pub moves-visit_ticks : (run : List E) → visit_ticks (moves run) ≡ ticks_of (stamped ends send 0 run)
  moves-visit_ticks run =
      by_events (λ past. visit_ticks (moves past) ≡ ticks_of (stamped ends send 0 past)) visits_first
      (λ past e ih.
      ap visit_ticks (is.next past e)
      ∙ ap ticks_of (stamped-append move_ends visit_of 0 (moves past) (move past e))
      ∙ ticks_of-append (stamped move_ends visit_of 0 (moves past)) (stamped move_ends visit_of (0 + ticks_in (moves past)) (move past e))
      ∙ ap (λ z. z ++ ticks_of (stamped move_ends visit_of (0 + ticks_in (moves past)) (move past e))) ih
      ∙ ap (λ z. ticks_of (stamped ends send 0 past) ++ z) (visits_next past e)
      ∙ sym (ticks_of-append (stamped ends send 0 past) (stamped ends send (0 + ticks ends past) (e ∷ [])))
      ∙ sym (ap ticks_of (stamped-append ends send 0 past (e ∷ [])))) run

  -- sends that keep the pace serve the floor
  pub moves-serve : (steps within : ℕ) (run : List E) → HoldAtLeast steps within (ticks ends run) (ticks_of (stamped ends send 0 run)) → Serves (λ d. steps * (d / within)) (moves run)
  moves-serve steps within run h u d small whole =
      omega (
        arith,
        pace_holds steps within (ticks ends run) (ticks_of (stamped ends send 0 run)) h u d (omega (arith, moves-ticks run)),
        ap (λ z. count_in u d z) (moves-visit_ticks run),
      )

  -- the entries of one more event
  dues_parts : (past : List E) (e : E) → ticks_of (entries (moves (past ++ (e ∷ [])))) ≡ ticks_of (entries (moves past)) ++ ticks_of (stamped move_ends tag_of (0 + ticks_in (moves past)) (move past e))
  dues_parts past e =
      ap (λ z. ticks_of (entries z)) (is.next past e)
      ∙ ap ticks_of (stamped-append move_ends tag_of 0 (moves past) (move past e))
      ∙ ticks_of-append (stamped move_ends tag_of 0 (moves past)) (stamped move_ends tag_of (0 + ticks_in (moves past)) (move past e))

  module _ (due count : ℕ → ℕ) (counted : IsDueCount due count) (counts : CountsDues dues count) where
    grown : (past : List E) (e : E) → length (ins (moves (past ++ (e ∷ [])))) + count (ticks ends past) ≡ length (ins (moves past)) + count (ticks ends (past ++ (e ∷ [])))
    grown past e =
        let parts : length (ins (moves (past ++ (e ∷ [])))) ≡ length (ins (moves past)) + length (ins (move past e)) =
        ap (λ z. length (ins z)) (is.next past e) ∙ ap length (ins-append (moves past) (move past e)) ∙ length-append (ins (moves past)) (ins (move past e)) in
        elim (is.sees past e) [
          | ended m a b ↦
              let later : ticks ends (past ++ (e ∷ [])) ≡ suc (ticks ends past) = omega (arith, ticks-push ends send past e) in
              omega (arith, parts, ap (λ z. length (ins z)) m, (counts_tick (dues (suc (ticks ends past)))).2, ap count later, counts.later (ticks ends past))
          | turned m a b ↦
              let still : ticks ends (past ++ (e ∷ [])) ≡ ticks ends past = omega (arith, ticks-push ends send past e) in
              omega (arith, parts, ap (λ z. length (ins z)) m, counts_visit.2, ap count still)
          | idle m a b ↦
              let still : ticks ends (past ++ (e ∷ [])) ≡ ticks ends past = omega (arith, ticks-push ends send past e) in
              omega (arith, parts, ap (λ z. length (ins z)) m, counts_none.2, ap count still)
        ]

    -- as many come in as are due
    pub moves-came : (run : List E) → length (ins (moves run)) ≡ count (ticks ends run)
    unfolding ticks
    moves-came run =
        by_events (λ past. length (ins (moves past)) ≡ count (ticks ends past)) (omega (arith, ap (λ z. length (ins z)) is.first, come_in-count (dues 0), counts.zeroth))
        (λ past e ih. omega (arith, ih, grown past e)) run

    dues_first : (length (ticks_of (entries (moves []))) ≡ count (ticks ends [])) × ((k : ℕ) → k < count (ticks ends []) → get_or (ticks_of (entries (moves []))) k 0 ≡ due k)
    unfolding ticks
    dues_first =
        let c = come_in-stamped 0 (dues 0) in
        let same : ticks_of (entries (moves [])) ≡ ticks_of (stamped move_ends tag_of 0 (come_in (dues 0))) = ap (λ z. ticks_of (entries z)) is.first in (
          omega (arith, ap length same, c.0, counts.zeroth),
          λ k h. omega (arith, ap (λ z. get_or z k 0) same, c.1 k (omega (arith, counts.zeroth)), (counted k 0).0 h),
        )

    -- where nothing comes in
    dues_same : (past : List E) (e : E) → ticks ends (past ++ (e ∷ [])) ≡ ticks ends past → ticks_of (stamped move_ends tag_of (0 + ticks_in (moves past)) (move past e)) ≡ [] →
        (length (ticks_of (entries (moves past))) ≡ count (ticks ends past)) × ((k : ℕ) → k < count (ticks ends past) → get_or (ticks_of (entries (moves past))) k 0 ≡ due k) →
        (length (ticks_of (entries (moves (past ++ (e ∷ []))))) ≡ count (ticks ends (past ++ (e ∷ [])))) × ((k : ℕ) → k < count (ticks ends (past ++ (e ∷ []))) → get_or (ticks_of (entries (moves (past ++ (e ∷ []))))) k 0 ≡ due k)
    dues_same past e still none ih =
        let same : ticks_of (entries (moves (past ++ (e ∷ [])))) ≡ ticks_of (entries (moves past)) =
        dues_parts past e ∙ ap (λ z. ticks_of (entries (moves past)) ++ z) none ∙ append-nil (ticks_of (entries (moves past))) in (
          omega (arith, ap length same, ap count still, ih.0),
          λ k h. omega (arith, ap (λ z. get_or z k 0) same, ih.1 k (omega (arith, ap count still))),
        )

    dues_next : (past : List E) (e : E) →
        (length (ticks_of (entries (moves past))) ≡ count (ticks ends past)) × ((k : ℕ) → k < count (ticks ends past) → get_or (ticks_of (entries (moves past))) k 0 ≡ due k) →
        (length (ticks_of (entries (moves (past ++ (e ∷ []))))) ≡ count (ticks ends (past ++ (e ∷ [])))) × ((k : ℕ) → k < count (ticks ends (past ++ (e ∷ []))) → get_or (ticks_of (entries (moves (past ++ (e ∷ []))))) k 0 ≡ due k)
    dues_next past e ih =
        elim (is.sees past e) [
          | ended m a b ↦
              let t : ℕ = 0 + ticks_in (moves past) in
              let later : ticks ends (past ++ (e ∷ [])) ≡ suc (ticks ends past) = omega (arith, ticks-push ends send past e) in
              let c = come_in-stamped (0 + ticks_in (moves past) + 1) (dues (suc (ticks ends past))) in
              let back : ticks_of (stamped move_ends tag_of (0 + ticks_in (moves past)) (move past e)) ≡ ticks_of (stamped move_ends tag_of (0 + ticks_in (moves past) + 1) (come_in (dues (suc (ticks ends past))))) =
              ap (λ z. ticks_of (stamped move_ends tag_of (0 + ticks_in (moves past)) z)) m ∙ tick_first (0 + ticks_in (moves past)) (dues (suc (ticks ends past))) in
              let same = dues_parts past e in
              let long = length-append (ticks_of (entries (moves past))) (ticks_of (stamped move_ends tag_of (0 + ticks_in (moves past)) (move past e))) in (
                omega (arith, ap length same, long, ap length back, c.0, ap count later, counts.later (ticks ends past), ih.0),
                λ k h. elim (cases_lt k (count (ticks ends past))) [
                  | inl l ↦ omega (arith, ap (λ z. get_or z k 0) same, get_or_append_left (ticks_of (entries (moves past))) (ticks_of (stamped move_ends tag_of (0 + ticks_in (moves past)) (move past e))) 0 k (omega (arith, ih.0)), ih.1 k l)
                  | inr l ↦
                      let new = c.1 (k - count (ticks ends past)) (omega (arith, ap count later, counts.later (ticks ends past))) in
                      let soon = (counted k (suc (ticks ends past))).0 (omega (arith, ap count later)) in
                      let late : suc (ticks ends past) ≤ due k = elim (cases_lt (ticks ends past) (due k)) [ inl q ↦ omega arith | inr q ↦ absurd (let bad = (counted k (ticks ends past)).1 q in omega (arith, bad)) ] in
                      omega (
                        arith,
                        ap (λ z. get_or z k 0) same,
                        get_or-append_right (ticks_of (entries (moves past))) (ticks_of (stamped move_ends tag_of (0 + ticks_in (moves past)) (move past e))) (count (ticks ends past)) k 0 ih.0 l,
                        ap (λ z. get_or z (k - count (ticks ends past)) 0) back,
                        new,
                        soon,
                        late,
                        moves-ticks past,
                      )
                ],
              )
          | turned m a b ↦ dues_same past e (omega (arith, ticks-push ends send past e)) (ap (λ z. ticks_of (stamped move_ends tag_of (0 + ticks_in (moves past)) z)) m ∙ visit_first (0 + ticks_in (moves past))) ih
          | idle m a b ↦ dues_same past e (omega (arith, ticks-push ends send past e)) (ap (λ z. ticks_of (stamped move_ends tag_of (0 + ticks_in (moves past)) z)) m ∙ none_first (0 + ticks_in (moves past))) ih
        ]

    -- the n-th entry comes in in the tick in which it is due
    pub moves-due : (run : List E) → (length (ticks_of (entries (moves run))) ≡ count (ticks ends run))
        × ((k : ℕ) → k < count (ticks ends run) → get_or (ticks_of (entries (moves run))) k 0 ≡ due k)
    moves-due run =
        by_events (λ past. (length (ticks_of (entries (moves past))) ≡ count (ticks ends past)) × ((k : ℕ) → k < count (ticks ends past) → get_or (ticks_of (entries (moves past))) k 0 ≡ due k))
        dues_first dues_next run

    passed_first : passed (moves []) ≡ sent_of ends send count []
    unfolding picks
    passed_first =
        omega (arith, ap passed is.first, passed-still [] (come_in (dues 0)) (come_in-visits (dues 0)), passed_nothing)

    served_step : (past : List E) (e : E) → served_in (λ z. count (ticks ends z)) (λ z. picks send z) (past ++ (e ∷ []))
        ≡ min (served_in (λ z. count (ticks ends z)) (λ z. picks send z) past + (picks send (past ++ (e ∷ [])) - picks send past)) (count (ticks ends (past ++ (e ∷ []))))
    served_step past e = served_in-push (λ z. count (ticks ends z)) (λ z. picks send z) (picks-rise ends send) past e

    served_now : (past : List E) → served_in (λ z. count (ticks ends z)) (λ z. picks send z) past ≤ count (ticks ends past)
    served_now past =
        omega (
          arith,
          served_in-le (λ z. count (ticks ends z)) (λ z. picks send z) past [],
          ap (λ z. served_in (λ w. count (ticks ends w)) (λ w. picks send w) z) (append-nil past),
          ap (λ z. picks send z) (append-nil past),
        )

    passed_next : (past : List E) (e : E) → passed (moves past) ≡ sent_of ends send count past → passed (moves (past ++ (e ∷ []))) ≡ sent_of ends send count (past ++ (e ∷ []))
    passed_next past e ih =
        let step = served_step past e in
        let now = served_now past in
        let push = picks-push ends send past e in
        elim (is.sees past e) [
          | ended m a b ↦
              let still : passed (moves (past ++ (e ∷ []))) ≡ passed (moves past) = ap passed (is.next past e) ∙ passed-still (moves past) (move past e) (omega (arith, (added past e).1)) in
              let more : count (ticks ends past) ≤ count (ticks ends (past ++ (e ∷ []))) = due_count_grows due count counted (ticks ends past) (ticks ends (past ++ (e ∷ []))) (omega (arith, ticks-push ends send past e)) in
              omega (arith, still, step, now, push, more, ih)
          | turned m a b ↦
              let turn : passed (moves (past ++ (e ∷ []))) ≡ min (passed (moves past) + 1) (length (ins (moves past))) = ap passed (is.next past e) ∙ ap (λ z. passed (moves past ++ z)) m ∙ passed-visit (moves past) in
              let same : ticks ends (past ++ (e ∷ [])) ≡ ticks ends past = omega (arith, ticks-push ends send past e) in
              omega (arith, turn, moves-came past, step, now, push, ap count same, ih)
          | idle m a b ↦
              let still : passed (moves (past ++ (e ∷ []))) ≡ passed (moves past) = ap passed (is.next past e) ∙ passed-still (moves past) (move past e) (omega (arith, (added past e).1)) in
              let same : ticks ends (past ++ (e ∷ [])) ≡ ticks ends past = omega (arith, ticks-push ends send past e) in
              omega (arith, still, step, now, push, ap count same, ih)
        ]

    -- what has passed is what has been sent
    pub moves-passed : (run : List E) → passed (moves run) ≡ sent_of ends send count run
    moves-passed run = by_events (λ past. passed (moves past) ≡ sent_of ends send count past) passed_first passed_next run

-- what has been sent never falls, and rises at a send alone, by one
pub sent_of-push : {E X : Type 0} (ends : E → ℕ) (send : E → Option X) (count : ℕ → ℕ) → ((s t : ℕ) → s ≤ t → count s ≤ count t) → (past : List E) (e : E) →
    (sent_of ends send count past ≤ sent_of ends send count (past ++ (e ∷ []))) × (sent_of ends send count (past ++ (e ∷ [])) ≤ sent_of ends send count past + one_if (send e))
sent_of-push ends send count grows past e =
    let step = served_in-push (λ z. count (ticks ends z)) (λ z. picks send z) (picks-rise ends send) past e in
    let now : served_in (λ z. count (ticks ends z)) (λ z. picks send z) past ≤ count (ticks ends past) =
    omega (
      arith,
      served_in-le (λ z. count (ticks ends z)) (λ z. picks send z) past [],
      ap (λ z. served_in (λ w. count (ticks ends w)) (λ w. picks send w) z) (append-nil past),
      ap (λ z. picks send z) (append-nil past),
    ) in
    let push = picks-push ends send past e in
    let more = grows (ticks ends past) (ticks ends (past ++ (e ∷ []))) (omega (arith, ticks-push ends send past e)) in
    (omega (arith, step, now, push, more), omega (arith, step, now, push, more))
