-- The least claim that fails, and the first place at which any does.
use Rattle.std.proofs.Common.{◌≡◌, ℕ, suc, ◌+◌, ◌<◌, ◌&&◌, Bool, true, false, cond, ltb, Option, Some, None, List, [], ◌∷◌, ◌++◌, length, take, drop, get_or, refl, sym, ap, ◌∙◌, subst, arith, inl, inr, length-append, take-append-drop, add-one}
use Rattle.std.specs.Prelude.{IfSome, MatchBool, ◌≢◌, slice_index}
use Rattle.std.proofs.lemmas.List.{append-nil, length-take, take_all}
use Rattle.std.proofs.Math.Seq.{take-suc}
use Rattle.dc_bound.specs.lemmas.QueueTimes.{split_sides}
use Rattle.dc_tables.specs.TableRows.{TableRows}
use Rattle.dc_event.specs.Breaks.{ClaimAt, FailsFirst, BreaksClaimsAt}
use Rattle.dc_event.specs.Buses.{visited_bus, bus_taken, bus_item}
use Rattle.dc_event.specs.Claims.{IsYoung, UsesFirst, UsesAny, NoOverrun, SendsYoung, UsesLive, IsInTime, IsSpaced, Claims, ClaimsHold}
use Rattle.dc_event.specs.ClaimNumber.{claim_number}
use Rattle.dc_event.specs.Emissions.{emission}
use Rattle.dc_event.specs.Replies.{reply}
use Rattle.dc_event.specs.declared.event.Event.{Event}
use Rattle.dc_event.specs.declared.event.Event.TheVariants.{Tick, Route}
use Rattle.dc_event.specs.declared.event.Claim.{Claim}
use Rattle.dc_event.specs.declared.event.Claim.TheVariants as C
use Rattle.dc_event.specs.declared.event.Reply.{Reply}
use Rattle.dc_event.specs.declared.event.Reply.TheVariants.{Queued, BadParity, Undeclared, TooEarly, Overrun, Latched, Took, Empty, Sent, Idle, Now}
use Rattle.dc_oracle.specs.declared.claim_watch.ClaimWatch.{ClaimWatch}
use Rattle.dc_oracle.specs.declared.emissions.EmissionWatch.{EmissionWatch}
use Rattle.dc_oracle.specs.Claims.{fits, first_of, Judged, StandsFor}
use Rattle.dc_oracle.specs.Emissions.{Emits}
use Rattle.dc_oracle.proofs.Emitting.{spaced-none}

-- ---- an overrun

fits-reported : (r : Reply) → MatchBool (fits r) (r ≢ Overrun) (r ≢ Overrun → ⊥)
fits-reported (Queued n) = λ e. absurd cc
fits-reported BadParity = λ e. absurd cc
fits-reported Undeclared = λ e. absurd cc
fits-reported TooEarly = λ e. absurd cc
fits-reported Overrun = λ h. h refl
fits-reported Latched = λ e. absurd cc
fits-reported (Took w b) = λ e. absurd cc
fits-reported (Empty b) = λ e. absurd cc
fits-reported (Sent l w) = λ e. absurd cc
fits-reported Idle = λ e. absurd cc
fits-reported (Now n) = λ e. absurd cc

pub no_overrun-reported : (t : TableRows) (run : List Event) (e : Event) (r : Reply) (answer : Bool) → answer ≡ fits r → r ≡ reply t run e → MatchBool answer (NoOverrun t run e) (NoOverrun t run e → ⊥)
no_overrun-reported t run e r answer is reported =
    let P : Reply → Type 0 = λ r. MatchBool (fits r) (r ≢ Overrun) (r ≢ Overrun → ⊥) in
    let Q : Bool → Type 0 = λ b. MatchBool b (NoOverrun t run e) (NoOverrun t run e → ⊥) in
    subst Q (sym (is ∙ ap fits reported)) (fits-reported (reply t run e))

-- ---- the least claim

module _ (t : TableRows) (ages : List ℕ) (run : List Event) (e : Event) where
  below_1 : (other : Claim) → claim_number other < 1 → ClaimAt t ages other run e
  below_1 C.NoOverrun l = absurd (omega arith)
  below_1 C.DataAge l = absurd (omega arith)
  below_1 C.LiveSource l = absurd (omega arith)
  below_1 C.Interval l = absurd (omega arith)

  below_2 : NoOverrun t run e → (other : Claim) → claim_number other < 2 → ClaimAt t ages other run e
  below_2 n C.NoOverrun l = n
  below_2 n C.DataAge l = absurd (omega arith)
  below_2 n C.LiveSource l = absurd (omega arith)
  below_2 n C.Interval l = absurd (omega arith)

  below_3 : NoOverrun t run e → SendsYoung t ages run e → (other : Claim) → claim_number other < 3 → ClaimAt t ages other run e
  below_3 n y C.NoOverrun l = n
  below_3 n y C.DataAge l = y
  below_3 n y C.LiveSource l = absurd (omega arith)
  below_3 n y C.Interval l = absurd (omega arith)

  below_4 : NoOverrun t run e → SendsYoung t ages run e → UsesLive t run e → (other : Claim) → claim_number other < 4 → ClaimAt t ages other run e
  below_4 n y u C.NoOverrun l = n
  below_4 n y u C.DataAge l = y
  below_4 n y u C.LiveSource l = u
  below_4 n y u C.Interval l = absurd (omega arith)

  pub judged : (f y l i s : Bool) → MatchBool f (NoOverrun t run e) (NoOverrun t run e → ⊥) → MatchBool y (SendsYoung t ages run e) (SendsYoung t ages run e → ⊥) → MatchBool l (UsesLive t run e) (UsesLive t run e → ⊥)
      → MatchBool i (IsInTime t run e) (IsInTime t run e → ⊥) → MatchBool s (IsSpaced t run e) (IsSpaced t run e → ⊥) → Judged t ages run e (first_of f y l i s)
  judged false y l i s hf hy hl hi hs = (hf, below_1)
  judged true false l i s hf hy hl hi hs = (hy, below_2 hf)
  judged true true false i s hf hy hl hi hs = (hl, below_3 hf hy)
  judged true true true false s hf hy hl hi hs = (λ z. hi z.0, below_4 hf hy hl)
  judged true true true true false hf hy hl hi hs = (λ z. hs z.1, below_4 hf hy hl)
  judged true true true true true hf hy hl hi hs = record { no_overrun = hf; young = hy; live = hl; in_time = hi; spaced = hs }

-- ---- an event that emits nothing

module _ (t : TableRows) (ages : List ℕ) (run : List Event) (e : Event) where
  pub judged-unsent : (f i : Bool) → None ≡ emission t run e → MatchBool f (NoOverrun t run e) (NoOverrun t run e → ⊥) → MatchBool i (IsInTime t run e) (IsInTime t run e → ⊥)
      → Judged t ages run e (first_of f true true i true)
  judged-unsent f i none hf hi =
      let P : Option ℕ → Type 0 = λ o. IfSome o (λ x. IsYoung t x (slice_index ages x) (run ++ e ∷ [])) in
      let Q : Option ℕ → Type 0 = λ o. IfSome o (λ x. UsesFirst t x (run ++ e ∷ []) × UsesAny t x (run ++ e ∷ [])) in
      judged t ages run e f true true i true hf (subst P none tt) (subst Q none tt) hi (spaced-none t run e none)

pub routes-fit : (t : TableRows) (run : List Event) (r : ℕ) → NoOverrun t run (Route r)
unfolding reply
routes-fit t run r = elim (ltb (bus_taken t (visited_bus t r run) run) (bus_taken t (visited_bus t r run) (run ++ Route r ∷ []))) as (λ v. cond v (Took (bus_item t (visited_bus t r run) run (bus_taken t (visited_bus t r run) run)).1 (visited_bus t r run)) (Empty (visited_bus t r run)) ≡ Overrun → ⊥) [
  | true ↦ λ e. absurd cc
  | false ↦ λ e. absurd cc
]

pub ticks-fit : (t : TableRows) (run : List Event) → NoOverrun t run Tick
unfolding reply
ticks-fit t run = λ e. absurd cc

-- ---- the watch of the emissions alone is renewed

pub stands-emissions : (t : TableRows) (w : ClaimWatch) (run : List Event) (new : EmissionWatch) → Emits t new run → StandsFor t w run → StandsFor t (record { replies = w.replies; police = w.police; arrivals = w.arrivals; emissions = new }) run
stands-emissions t w run new emits h = record { replies = h.replies; police = h.police; arrivals = h.arrivals; emissions = emits }

-- ---- the place

module _ (t : TableRows) (ages : List ℕ) where
  pub hold-nil : ClaimsHold t ages []
  hold-nil [] rest e h = absurd cc
  hold-nil (x ∷ past) rest e h = absurd cc

  pub hold-push : (run : List Event) (e : Event) → ClaimsHold t ages run → Claims t ages run e → ClaimsHold t ages (run ++ e ∷ [])
  hold-push run e all one past rest f h =
      elim (split_sides run (e ∷ []) past (f ∷ rest) h) [
        | inl (q, g, k) ↦ before q g k
        | inr (q, g, k) ↦ behind q g k
      ]
    where
      before : (q : List Event) → run ≡ past ++ q → f ∷ rest ≡ q ++ (e ∷ []) → Claims t ages past f
      before [] g k =
          let P : List Event → Type 0 = λ z. Claims t ages z e in
          let Q : Event → Type 0 = λ z. Claims t ages past z in
          let same : e ≡ f = cc in
          subst Q same (subst P (g ∙ append-nil past) one)
      before (z ∷ q) g k = (let same : z ≡ f = cc in all past q f (g ∙ ap (λ y. past ++ (y ∷ q)) same))

      behind : (q : List Event) → past ≡ run ++ q → e ∷ [] ≡ q ++ (f ∷ rest) → Claims t ages past f
      behind [] g k =
          let P : List Event → Type 0 = λ z. Claims t ages z e in
          let Q : Event → Type 0 = λ z. Claims t ages past z in
          let same : e ≡ f = cc in
          subst Q same (subst P (sym (g ∙ append-nil run)) one)
      behind (z ∷ q) g k = absurd (omega (arith, ap (λ (y : List Event). length y) k, length-append q (f ∷ rest)))

  -- the claims hold up to place i, and one fails at the event that follows
  pub breaks-here : (run : List Event) (i : ℕ) (e : Event) (claim : Claim) → i < length run → take (suc i) run ≡ take i run ++ e ∷ [] → ClaimsHold t ages (take i run) → Judged t ages (take i run) e (Some claim) → BreaksClaimsAt t ages run (Some (claim, i + 1))
  breaks-here run i e claim l next hold j = (
    take i run,
    e,
    drop (suc i) run,
    sym (take-append-drop (suc i) run) ∙ ap (λ z. z ++ drop (suc i) run) next ∙ one_more (take i run) e (drop (suc i) run),
    (let n : i + 1 ≡ suc (length (take i run)) = omega (arith, length-take i run, l) in n),
    record { before = hold; fails = j.0; least = j.1 },
  )
    where
      one_more : (past : List Event) (e : Event) (rest : List Event) → (past ++ e ∷ []) ++ rest ≡ past ++ (e ∷ rest)
      one_more [] e rest = refl
      one_more (x ∷ past) e rest = ap (λ z. x ∷ z) (one_more past e rest)
