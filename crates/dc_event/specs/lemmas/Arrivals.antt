-- Arrivals, offered words, and one more of them.
use Rattle.std.proofs.Common.{◌≡◌, ℕ, ◌+◌, ◌<◌, ◌≤◌, ◌==◌, ◌&&◌, ◌↔◌, Bool, true, false, cond, eqb, ltb, Option, Some, None, List, [], ◌∷◌, ◌++◌, length, refl, sym, ap, ◌∙◌, subst, arith, inl, inr, zero-add, eq-eqb}
use Rattle.std.proofs.lemmas.List.{append-nil}
use Rattle.std.proofs.lemmas.List.Elements.{filter-append}
use Rattle.std.proofs.lemmas.List.Quantifiers.{position-Some}
use Rattle.std.proofs.lemmas.Bool.{cases_eq, ne_eqb, eqb-true}
use Rattle.dc_word.specs.declared.format.Format.TheVariants.{Bnr}
use Rattle.dc_bound.specs.Window.{HoldAtMost, ticks_of}
use Rattle.dc_bound.specs.Run.{ticks, stamp, stamped}
use Rattle.dc_bound.specs.Moves.{move_ends, tag_of, entries}
use Rattle.dc_bound.specs.Moves.Move.{Visit}
use Rattle.dc_bound.specs.lemmas.FirstPlaces.{snoc_induction}
use Rattle.dc_bound.specs.lemmas.Recent.{NoneLater, recent, most_push}
use Rattle.dc_bound.specs.lemmas.Steps.{stamped-append, ticks_of-append}
use Rattle.dc_bound.specs.Tags.{with_tag}
use Rattle.dc_bound.specs.Turns.{NeverFall}
use Rattle.dc_bound.specs.Early.{HoldsCap, would_pass, admitted, pace_of}
use Rattle.dc_bound.specs.lemmas.Caps.{jitter_cap-mono}
use Rattle.dc_bound.specs.lemmas.Earliness.{none_later-nil, none_later-push, none_later-rise, early_iff, admitted-nil, admitted-push, admitted-holds}
use Rattle.dc_bound.specs.lemmas.Pacing.{in_order-push, rule_is}
use Rattle.dc_word.specs.Word.{is_odd, label_of, sdi_of}
use Rattle.dc_tables.specs.Declares.{stream_of, declares, fits}
use Rattle.dc_tables.specs.TableRows.{TableRows, stream_row, is_policed}
use Rattle.dc_tables.specs.declared.rows.Stream.{Stream}
use Rattle.dc_event.specs.Time.{tick_after}
use Rattle.dc_event.specs.Offers.{offer_of, only, offer_on, offered, cap_of, is_early, refuses_early, let_in}
use Rattle.dc_event.specs.Buses.{visited_bus, in_of, move_of, moves, bus_arrivals, arrivals, arrival_of}
use Rattle.dc_event.specs.lemmas.RunPush.{moves-push, ticks_in-moves, ticks-other, ticks-step, tick-push}
use Rattle.dc_event.specs.lemmas.RunMoves.{moves-nil}
use Rattle.dc_event.specs.declared.event.Event.{Event}
use Rattle.dc_event.specs.declared.event.Event.TheVariants.{Tick, Arrive, Route, Send}

-- ---- the arrivals of a bus, of a stream

-- whether the event is an arrival of the stream
abbrev pub arrival_on : TableRows → ℕ → List Event → Event → Option ℕ
arrival_on t s past e = only s (arrival_of t (stream_row t s).bus past e)

word-stamped : (k w : ℕ) (o : Option ℕ) → stamped move_ends tag_of k (in_of o w) ≡ stamp k o []
unfolding stamped
word-stamped k w None = refl
word-stamped k w (Some s) = refl

move-stamped : (t : TableRows) (b k : ℕ) (past : List Event) (e : Event) → stamped move_ends tag_of k (move_of t b past e) ≡ stamp k (arrival_of t b past e) []
unfolding stamped
move-stamped t b k past Tick = refl
move-stamped t b k past (Arrive w a) =
    elim ((a == b) && is_odd w) as (λ v. stamped move_ends tag_of k (cond v (in_of (let_in t b past (stream_of t b w)) w) []) ≡ stamp k (let_in t b past (cond v (stream_of t b w) None)) []) [
      | true ↦ word-stamped k w (let_in t b past (stream_of t b w))
      | false ↦ refl
    ]
move-stamped t b k past (Route r) = elim (visited_bus t r past == b) as (λ v. stamped move_ends tag_of k (cond v (Visit ∷ []) []) ≡ []) [ true ↦ refl | false ↦ refl ]
move-stamped t b k past (Send o) = refl

stamp-tag : (s k : ℕ) (o : Option ℕ) (rest : List (ℕ × ℕ)) → with_tag s (stamp k o rest) ≡ stamp k (only s o) (with_tag s rest)
stamp-tag s k None rest = refl
stamp-tag s k (Some x) rest = elim (eqb x s) as (λ v. cond v ((k, x) ∷ with_tag s rest) (with_tag s rest) ≡ stamp k (cond v (Some x) None) (with_tag s rest)) [ true ↦ refl | false ↦ refl ]

-- ---- one more event

pub bus_arrivals-more : (t : TableRows) (b : ℕ) (run : List Event) (e : Event) → bus_arrivals t b (run ++ e ∷ []) ≡ bus_arrivals t b run ++ stamp (tick_after run) (arrival_of t b run e) []
bus_arrivals-more t b run e =
    ap (stamped move_ends tag_of 0) (moves-push t b run e)
    ∙ stamped-append move_ends tag_of 0 (moves t b run) (move_of t b run e)
    ∙ ap (λ k. bus_arrivals t b run ++ stamped move_ends tag_of k (move_of t b run e)) (zero-add (ticks move_ends (moves t b run)) ∙ ticks_in-moves t b run)
    ∙ ap (λ z. bus_arrivals t b run ++ z) (move-stamped t b (tick_after run) run e)

pub arrivals-more : (t : TableRows) (s : ℕ) (run : List Event) (e : Event) → arrivals t s (run ++ e ∷ []) ≡ arrivals t s run ++ stamp (tick_after run) (arrival_on t s run e) []
arrivals-more t s run e =
    let b : ℕ = (stream_row t s).bus in
    ap (with_tag s) (bus_arrivals-more t (stream_row t s).bus run e)
    ∙ filter-append (λ e. eqb e.1 s) (bus_arrivals t (stream_row t s).bus run) (stamp (tick_after run) (arrival_of t (stream_row t s).bus run e) [])
    ∙ ap (λ z. arrivals t s run ++ z) (stamp-tag s (tick_after run) (arrival_of t (stream_row t s).bus run e) [])

-- the ticks with one more, where there is one
abbrev pub with_one : ℕ → Option ℕ → List ℕ → List ℕ
with_one k None ts = ts
with_one k (Some x) ts = ts ++ k ∷ []

more-ticks : (k : ℕ) (o : Option ℕ) (xs : List (ℕ × ℕ)) → ticks_of (xs ++ stamp k o []) ≡ with_one k o (ticks_of xs)
more-ticks k None xs = ap (λ (l : List (ℕ × ℕ)). ticks_of l) (append-nil xs)
more-ticks k (Some x) xs = ticks_of-append xs ((k, x) ∷ [])

pub bus_ticks-more : (t : TableRows) (b : ℕ) (run : List Event) (e : Event) → ticks_of (bus_arrivals t b (run ++ e ∷ [])) ≡ with_one (tick_after run) (arrival_of t b run e) (ticks_of (bus_arrivals t b run))
bus_ticks-more t b run e = ap (λ (l : List (ℕ × ℕ)). ticks_of l) (bus_arrivals-more t b run e) ∙ more-ticks (tick_after run) (arrival_of t b run e) (bus_arrivals t b run)

pub ticks-more : (t : TableRows) (s : ℕ) (run : List Event) (e : Event) → ticks_of (arrivals t s (run ++ e ∷ [])) ≡ with_one (tick_after run) (arrival_on t s run e) (ticks_of (arrivals t s run))
ticks-more t s run e = ap (λ (l : List (ℕ × ℕ)). ticks_of l) (arrivals-more t s run e) ∙ more-ticks (tick_after run) (arrival_on t s run e) (arrivals t s run)

-- an event that is no arrival of the stream, of the bus
pub arrivals-other : (t : TableRows) (s : ℕ) (run : List Event) (e : Event) → arrival_on t s run e ≡ None → ticks_of (arrivals t s (run ++ e ∷ [])) ≡ ticks_of (arrivals t s run)
arrivals-other t s run e h = ticks-more t s run e ∙ ap (λ o. with_one (tick_after run) o (ticks_of (arrivals t s run))) h

pub bus_arrivals-other : (t : TableRows) (b : ℕ) (run : List Event) (e : Event) → arrival_of t b run e ≡ None → ticks_of (bus_arrivals t b (run ++ e ∷ [])) ≡ ticks_of (bus_arrivals t b run)
bus_arrivals-other t b run e h = bus_ticks-more t b run e ∙ ap (λ o. with_one (tick_after run) o (ticks_of (bus_arrivals t b run))) h

-- an arrival has the running tick
pub arrivals-push : (t : TableRows) (s x : ℕ) (run : List Event) (e : Event) → arrival_on t s run e ≡ Some x → ticks_of (arrivals t s (run ++ e ∷ [])) ≡ ticks_of (arrivals t s run) ++ (tick_after run ∷ [])
arrivals-push t s x run e h = ticks-more t s run e ∙ ap (λ o. with_one (tick_after run) o (ticks_of (arrivals t s run))) h

pub bus_arrivals-push : (t : TableRows) (b x : ℕ) (run : List Event) (e : Event) → arrival_of t b run e ≡ Some x → ticks_of (bus_arrivals t b (run ++ e ∷ [])) ≡ ticks_of (bus_arrivals t b run) ++ (tick_after run ∷ [])
bus_arrivals-push t b x run e h = bus_ticks-more t b run e ∙ ap (λ o. with_one (tick_after run) o (ticks_of (bus_arrivals t b run))) h

-- ---- no events, and order

no_entries : (t : TableRows) (b : ℕ) → entries (moves t b []) ≡ []
unfolding stamped
no_entries t b = ap entries (moves-nil t b)

pub bus_arrivals-nil : (t : TableRows) (b : ℕ) → ticks_of (bus_arrivals t b []) ≡ []
bus_arrivals-nil t b = ap (λ (l : List (ℕ × ℕ)). ticks_of l) (no_entries t b)

pub arrivals-nil : (t : TableRows) (s : ℕ) → ticks_of (arrivals t s []) ≡ []
arrivals-nil t s = ap (λ (l : List (ℕ × ℕ)). ticks_of (with_tag s l)) (no_entries t (stream_row t s).bus)

-- in order, and none later than this tick
pub record IsUpTo (k : ℕ) (ts : List ℕ) : Type 0 where
  pub order : NeverFall ts
  pub none : NoneLater k ts

up_to-nil : (k : ℕ) → IsUpTo k []
unfolding NeverFall
up_to-nil k = record { order = tt; none = none_later-nil k }

up_to-one : (k : ℕ) (o : Option ℕ) (ts : List ℕ) → IsUpTo k ts → IsUpTo k (with_one k o ts)
up_to-one k None ts h = h
up_to-one k (Some x) ts h = record { order = in_order-push ts k h.order h.none; none = none_later-push k ts h.none }

up_to-later : (k l : ℕ) (ts : List ℕ) → k ≤ l → IsUpTo k ts → IsUpTo l ts
up_to-later k l ts le h = record { order = h.order; none = none_later-rise k l ts le h.none }

-- what each event gives at most one of, in its tick
each-up_to : (f : List Event → List ℕ) (pick : List Event → Event → Option ℕ) → f [] ≡ [] → ((run : List Event) (e : Event) → f (run ++ e ∷ []) ≡ with_one (tick_after run) (pick run e) (f run)) → (run : List Event) → IsUpTo (tick_after run) (f run)
each-up_to f pick start more run =
    let P : List Event → Type 0 = λ run. IsUpTo (tick_after run) (f run) in
    let Q : List Event → List ℕ → Type 0 = λ run ts. IsUpTo (tick_after run) ts in
    snoc_induction P (subst (Q []) (sym start) (up_to-nil (tick_after []))) (λ run e h.
    subst (Q (run ++ e ∷ [])) (sym (more run e))
    (up_to-later (tick_after run) (tick_after (run ++ e ∷ [])) (with_one (tick_after run) (pick run e) (f run)) (omega (arith, tick-push run e)) (up_to-one (tick_after run) (pick run e) (f run) h))) run

pub arrivals-up_to : (t : TableRows) (s : ℕ) (run : List Event) → IsUpTo (tick_after run) (ticks_of (arrivals t s run))
arrivals-up_to t s run = each-up_to (λ run. ticks_of (arrivals t s run)) (arrival_on t s) (arrivals-nil t s) (ticks-more t s) run

pub bus_arrivals-up_to : (t : TableRows) (b : ℕ) (run : List Event) → IsUpTo (tick_after run) (ticks_of (bus_arrivals t b run))
bus_arrivals-up_to t b run = each-up_to (λ run. ticks_of (bus_arrivals t b run)) (arrival_of t b) (bus_arrivals-nil t b) (bus_ticks-more t b) run

pub arrivals-none_later : (t : TableRows) (s : ℕ) (run : List Event) → NoneLater (tick_after run) (ticks_of (arrivals t s run))
arrivals-none_later t s run = (arrivals-up_to t s run).none

pub bus_arrivals-none_later : (t : TableRows) (b : ℕ) (run : List Event) → NoneLater (tick_after run) (ticks_of (bus_arrivals t b run))
bus_arrivals-none_later t b run = (bus_arrivals-up_to t b run).none

-- ---- offered words

pub offered-more : (t : TableRows) (s : ℕ) (run : List Event) (e : Event) → offered t s (run ++ e ∷ []) ≡ with_one (tick_after run) (offer_on t s e) (offered t s run)
offered-more t s run e =
    elim (offer_on t s e) as (λ o. offer_on t s e ≡ o → offered t s (run ++ e ∷ []) ≡ with_one (tick_after run) o (offered t s run)) [
      | None ↦ λ h. ticks-other (offer_on t s) run e h
      | Some x ↦ λ h. ticks-step (offer_on t s) run e x h
    ] refl

pub offered-nil : (t : TableRows) (s : ℕ) → offered t s [] ≡ []
unfolding stamped
offered-nil t s = refl

pub offered-up_to : (t : TableRows) (s : ℕ) (run : List Event) → IsUpTo (tick_after run) (offered t s run)
offered-up_to t s run = each-up_to (offered t s) (λ run e. offer_on t s e) (offered-nil t s) (offered-more t s) run

-- ---- a bus that is not policed: its arrivals are what is offered

pub refuses_early-none : (t : TableRows) (b : ℕ) (past : List Event) (o : Option ℕ) → is_policed t b ≡ false → refuses_early t b past o ≡ false
refuses_early-none t b past None h = refl
refuses_early-none t b past (Some s) h = ap (λ v. v && is_early t s past) h

pub let_in-all : (t : TableRows) (b : ℕ) (past : List Event) (o : Option ℕ) → is_policed t b ≡ false → let_in t b past o ≡ o
let_in-all t b past o h = ap (λ v. cond v None o) (refuses_early-none t b past o h)

pub arrivals-unpoliced : (t : TableRows) (s : ℕ) (run : List Event) → is_policed t (stream_row t s).bus ≡ false → ticks_of (arrivals t s run) ≡ offered t s run
arrivals-unpoliced t s run free =
    let P : List Event → Type 0 = λ run. ticks_of (arrivals t s run) ≡ offered t s run in
    snoc_induction P (arrivals-nil t s ∙ sym (offered-nil t s)) (λ run e h.
    ticks-more t s run e
    ∙ ap (λ o. with_one (tick_after run) (only s o) (ticks_of (arrivals t s run))) (let_in-all t (stream_row t s).bus run (offer_of t (stream_row t s).bus e) free)
    ∙ ap (with_one (tick_after run) (offer_on t s e)) h
    ∙ sym (offered-more t s run e)) run

cond_same : (b : Bool) (ts : List ℕ) → cond b ts ts ≡ ts
cond_same true ts = refl
cond_same false ts = refl

none_either : (b : Bool) (x s : ℕ) → eqb x s ≡ false → (ts : List ℕ) (k : ℕ) → with_one k (only s (cond b None (Some x))) ts ≡ ts
none_either true x s h ts k = refl
none_either false x s h ts k = ap (λ v. with_one k (cond v (Some x) None) ts) h

admitted-one : (cap : ℕ → ℕ) (ts : List ℕ) (k : ℕ) (o : Option ℕ) → admitted cap (with_one k o ts) ≡ cond (would_pass cap (admitted cap ts) k) (admitted cap ts) (with_one k o (admitted cap ts))
admitted-one cap ts k None = sym (cond_same (would_pass cap (admitted cap ts) k) (admitted cap ts))
admitted-one cap ts k (Some x) = admitted-push cap ts k

-- ---- a policed bus: its arrivals are what is not early, and keep the cap

module _ (t : TableRows) (s : ℕ) (policed : is_policed t (stream_row t s).bus ≡ true) where
  let_in-policed : (past : List Event) (x : ℕ) → let_in t (stream_row t s).bus past (Some x) ≡ cond (is_early t x past) None (Some x)
  let_in-policed past x = ap (λ v. cond (v && is_early t x past) None (Some x)) policed

  -- of a word of the stream, and of another's
  let_in-only : (past : List Event) (o : Option ℕ) (ts : List ℕ) (k : ℕ)
      → with_one k (only s (let_in t (stream_row t s).bus past o)) ts ≡ cond (is_early t s past) ts (with_one k (only s o) ts)
  let_in-only past None ts k = sym (cond_same (is_early t s past) ts)
  let_in-only past (Some x) ts k =
      ap (λ o. with_one k (only s o) ts) (let_in-policed past x)
      ∙ elim (cases_eq x s) [
        | inl same ↦
            let P : ℕ → Type 0 = λ x. with_one k (only s (cond (is_early t x past) None (Some x))) ts ≡ cond (is_early t s past) ts (with_one k (only s (Some x)) ts) in
            subst P (sym same) (elim (is_early t s past) as (λ v. with_one k (only s (cond v None (Some s))) ts ≡ cond v ts (with_one k (only s (Some s)) ts)) [ true ↦ refl | false ↦ refl ])
        | inr other ↦
            let no' : eqb x s ≡ false = ne_eqb x s other in
            none_either (is_early t x past) x s no' ts k ∙ sym (cond_same (is_early t s past) ts) ∙ ap (λ v. cond (is_early t s past) ts (with_one k (cond v (Some x) None) ts)) (sym no')
      ]

  pub arrivals-policed : (run : List Event) → ticks_of (arrivals t s run) ≡ admitted (cap_of t s) (offered t s run)
  unfolding is_early
  arrivals-policed run =
      let P : List Event → Type 0 = λ run. ticks_of (arrivals t s run) ≡ admitted (cap_of t s) (offered t s run) in
      snoc_induction P (arrivals-nil t s ∙ sym (ap (admitted (cap_of t s)) (offered-nil t s) ∙ admitted-nil (cap_of t s))) (λ run e h.
      ticks-more t s run e
      ∙ let_in-only run (offer_of t (stream_row t s).bus e) (ticks_of (arrivals t s run)) (tick_after run)
      ∙ ap (λ ts. cond (is_early t s run) ts (with_one (tick_after run) (offer_on t s e) ts)) h
      ∙ sym (ap (admitted (cap_of t s)) (offered-more t s run e) ∙ admitted-one (cap_of t s) (offered t s run) (tick_after run) (offer_on t s e))) run

  -- the theorem: the arrivals of a stream of a policed bus keep its cap, in every run
  pub arrivals-hold : 1 ≤ (stream_row t s).minimum → (run : List Event) → HoldsCap (cap_of t s) (ticks_of (arrivals t s run))
  arrivals-hold some run =
      let P : List ℕ → Type 0 = λ ts. HoldsCap (cap_of t s) ts in
      subst P (sym (arrivals-policed run)) (admitted-holds (cap_of t s) (λ d e h. jitter_cap-mono (stream_row t s).minimum (stream_row t s).jitter d e some h) (offered t s run) (offered-up_to t s run).order)

  -- and the test by one number: the pace of its arrivals
  pub early-paced : 1 ≤ (stream_row t s).minimum → (run : List Event) → is_early t s run ≡ ltb (tick_after run + (stream_row t s).jitter) (pace_of (stream_row t s).minimum (ticks_of (arrivals t s run)))
  unfolding is_early
  early-paced some run =
      let up = arrivals-up_to t s run in
      ap (λ ts. would_pass (cap_of t s) ts (tick_after run)) (sym (arrivals-policed run))
      ∙ rule_is (stream_row t s).minimum (stream_row t s).jitter some (ticks_of (arrivals t s run)) up.order (tick_after run) up.none

-- ---- what one more arrival keeps

-- one more arrival of the stream keeps its cap exactly where its pace is not above the tick and the jitter
pub stream_rests-push : (t : TableRows) (s x : ℕ) (run : List Event) (e : Event) → 1 ≤ (stream_row t s).minimum → arrival_on t s run e ≡ Some x → HoldsCap (cap_of t s) (ticks_of (arrivals t s run))
    → (ltb (tick_after run + (stream_row t s).jitter) (pace_of (stream_row t s).minimum (ticks_of (arrivals t s run))) ≡ false) ↔ HoldsCap (cap_of t s) (ticks_of (arrivals t s (run ++ e ∷ [])))
stream_rests-push t s x run e some h kept =
    let up = arrivals-up_to t s run in
    let rule = rule_is (stream_row t s).minimum (stream_row t s).jitter some (ticks_of (arrivals t s run)) up.order (tick_after run) up.none in
    let step = early_iff (cap_of t s) (λ d e h. jitter_cap-mono (stream_row t s).minimum (stream_row t s).jitter d e some h) (ticks_of (arrivals t s run)) (tick_after run) up.none kept in
    let P : List ℕ → Type 0 = λ z. HoldsCap (cap_of t s) z in
    let same = arrivals-push t s x run e h in
    (λ k. subst P (sym same) (step.0 (rule ∙ k)), λ k. sym rule ∙ step.1 (subst P same k))

-- and the wire's cap for d ticks exactly where the last d ticks have room
pub wire_rests-push : (t : TableRows) (b x n d : ℕ) (run : List Event) (e : Event) → 0 < d → arrival_of t b run e ≡ Some x
    → HoldAtMost n d (ticks_of (bus_arrivals t b (run ++ e ∷ []))) ↔ (HoldAtMost n d (ticks_of (bus_arrivals t b run)) × (recent d (tick_after run) (ticks_of (bus_arrivals t b run)) < n))
wire_rests-push t b x n d run e pos h =
    let step = most_push n d (tick_after run) (ticks_of (bus_arrivals t b run)) pos (bus_arrivals-none_later t b run) in
    let P : List ℕ → Type 0 = λ z. HoldAtMost n d z in
    let same = bus_arrivals-push t b x run e h in
    (λ k. step.0 (subst P same k), λ k. subst P (sym same) (step.1 k))

-- ---- a word: its stream, and of which bus and which stream it is an arrival

declares-bus : (b w : ℕ) (row : Stream) → declares b w row ≡ true → row.bus ≡ b
declares-bus b w row h =
    let front : eqb row.bus b ≡ true =
    elim (eqb row.bus b) as (λ v. (v && eqb row.label (label_of w)) && fits row.sdi (sdi_of w) ≡ true → v ≡ true) [ true ↦ λ h. refl | false ↦ λ h. absurd cc ] h in
    eqb-true row.bus b front

-- the stream of a word is there, and of the word's bus
pub stream_of-there : (t : TableRows) (b w s : ℕ) → stream_of t b w ≡ Some s → (s < length t.streams) × ((stream_row t s).bus ≡ b)
unfolding stream_of
stream_of-there t b w s h =
    let r = position-Some (declares b w) t.streams s (record { bus = 0; label = 0; sdi = None; format = Bnr; minimum = 0; maximum = 0; jitter = 0 }) h in
    (r.0, declares-bus b w (stream_row t s) r.1)

false_and : (a b : Bool) → b ≡ false → (a && b) ≡ false
false_and true b h = h
false_and false b h = refl

either_none : (b : Bool) → cond {A = Option ℕ} b None None ≡ None
either_none true = refl
either_none false = refl

-- an even word is an arrival of no bus
pub even-none : (t : TableRows) (run : List Event) (b w : ℕ) → is_odd w ≡ false → (a : ℕ) → arrival_of t a run (Arrive w b) ≡ None
even-none t run b w even a = ap (λ v. let_in t a run (cond v (stream_of t a w) None)) (false_and (b == a) (is_odd w) even)

-- a word is an arrival of no bus but its own
pub elsewhere-none : (t : TableRows) (run : List Event) (b w a : ℕ) → (b ≡ a → ⊥) → arrival_of t a run (Arrive w b) ≡ None
elsewhere-none t run b w a other = ap (λ v. let_in t a run (cond (v && is_odd w) (stream_of t a w) None)) (ne_eqb b a other)

-- a word that no stream of its bus declares is an arrival of no bus
pub undeclared-none : (t : TableRows) (run : List Event) (b w : ℕ) → stream_of t b w ≡ None → (a : ℕ) → arrival_of t a run (Arrive w b) ≡ None
undeclared-none t run b w none a = elim (cases_eq b a) [
  | inl same ↦
      let P : ℕ → Type 0 = λ a. arrival_of t a run (Arrive w b) ≡ None in
      subst P same (ap (λ o. let_in t b run (cond ((b == b) && is_odd w) o None)) none ∙ ap (let_in t b run) (either_none ((b == b) && is_odd w)))
  | inr other ↦ elsewhere-none t run b w a other
]

offer-here : (t : TableRows) (b w k : ℕ) → is_odd w ≡ true → stream_of t b w ≡ Some k → offer_of t b (Arrive w b) ≡ Some k
offer-here t b w k odd some = let e : (b == b) ≡ true = eq-eqb b b refl in rw (e, odd) some

-- a word that its bus refuses is an arrival of no bus
pub refused-none : (t : TableRows) (run : List Event) (b w k : ℕ) → is_odd w ≡ true → stream_of t b w ≡ Some k → refuses_early t b run (Some k) ≡ true → (a : ℕ) → arrival_of t a run (Arrive w b) ≡ None
refused-none t run b w k odd some early a = elim (cases_eq b a) [
  | inl same ↦
      let P : ℕ → Type 0 = λ a. arrival_of t a run (Arrive w b) ≡ None in
      subst P same (ap (let_in t b run) (offer-here t b w k odd some) ∙ ap (λ v. cond v None (Some k)) early)
  | inr other ↦ elsewhere-none t run b w a other
]

-- each other word is an arrival of its bus, and of its stream alone
pub arrival-here : (t : TableRows) (run : List Event) (b w k : ℕ) → is_odd w ≡ true → stream_of t b w ≡ Some k → refuses_early t b run (Some k) ≡ false → arrival_of t b run (Arrive w b) ≡ Some k
arrival-here t run b w k odd some free = ap (let_in t b run) (offer-here t b w k odd some) ∙ ap (λ v. cond v None (Some k)) free

pub arrival-own : (t : TableRows) (run : List Event) (b w k : ℕ) → is_odd w ≡ true → stream_of t b w ≡ Some k → refuses_early t b run (Some k) ≡ false → arrival_on t k run (Arrive w b) ≡ Some k
arrival-own t run b w k odd some free =
    let own = stream_of-there t b w k some in
    let e : eqb k k ≡ true = eq-eqb k k refl in
    ap (λ a. only k (arrival_of t a run (Arrive w b))) own.1 ∙ ap (only k) (arrival-here t run b w k odd some free) ∙ ap (λ v. cond v (Some k) None) e

pub arrival-others : (t : TableRows) (run : List Event) (b w k : ℕ) → is_odd w ≡ true → stream_of t b w ≡ Some k → refuses_early t b run (Some k) ≡ false → (s : ℕ) → (k ≡ s → ⊥) → arrival_on t s run (Arrive w b) ≡ None
arrival-others t run b w k odd some free s other = elim (cases_eq b (stream_row t s).bus) [
  | inl same ↦
      let P : ℕ → Type 0 = λ a. only s (arrival_of t a run (Arrive w b)) ≡ None in
      subst P same (ap (only s) (arrival-here t run b w k odd some free) ∙ ap (λ v. cond v (Some k) None) (ne_eqb k s other))
  | inr far ↦ ap (only s) (elsewhere-none t run b w (stream_row t s).bus far)
]
