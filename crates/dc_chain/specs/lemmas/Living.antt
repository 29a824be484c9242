-- Streams that a link keeps alive.
use Rattle.std.proofs.Common.{◌≡◌, ℕ, zero, suc, ◌+◌, ◌-◌, ◌<◌, ◌≤◌, ◌⊎◌, cond, eqb, Bool, true, false, Option, Some, None, option_map, List, [], ◌∷◌, ◌++◌, length, refl, sym, ap, ◌∙◌, subst, arith, inl, inr, append_assoc}
use Rattle.std.specs.List.{All, Contains}
use Rattle.std.proofs.lemmas.List.{append-nil}
use Rattle.std.proofs.lemmas.List.Elements.{Contains-append_left, Contains-append_right, All-contains, All-cons, All-nil, All-head, All-tail, All-weaker}
use Rattle.std.proofs.lemmas.Bool.{cases_lt, eq-eqb}
use Rattle.dc_bound.specs.Window.{count_in, ticks_of}
use Rattle.dc_bound.specs.Run.{stamp}
use Rattle.dc_bound.specs.Turns.{NeverFall}
use Rattle.dc_bound.specs.lemmas.Counts.{one_in_cases, count_in-cons}
use Rattle.dc_bound.specs.lemmas.Steps.{ticks_of-append, count-append}
use Rattle.dc_word.specs.Word.{label_of, sdi_of}
use Rattle.dc_chain.specs.Carrying.{of_number}
use Rattle.dc_tables.specs.Declares.{stream_of}
use Rattle.dc_tables.specs.TableRows.{TableRows, AreValid, stream_row, label_row}
use Rattle.dc_event.specs.Choice.{chosen}
use Rattle.dc_event.specs.Emissions.{emission}
use Rattle.dc_event.specs.Admissible.{IsNumbered}
use Rattle.dc_event.specs.declared.event.Event.{Event}
use Rattle.dc_event.specs.declared.event.Event.TheVariants.{Tick, Arrive, Route, Send}
use Rattle.dc_time.specs.Timed.{events, timed}
use Rattle.dc_time.specs.Sources.{stream_arrival, stream_times}
use Rattle.dc_time.specs.Claims.{emits, last_or, stale_time, IsAliveInTime}
use Rattle.dc_time.specs.lemmas.TimedRuns.{timed-push, timed-place}
use Rattle.dc_time.specs.lemmas.Emitting.{never_fall-tail}
use Rattle.dc_chain.specs.Concentrators.{Concentrator, Link, RunsInTime, KeepsClaims, Delivers, FeedsAll, sent_word, sends_of, arrivals_at}
use Rattle.dc_chain.specs.lemmas.Feeding.{sent-by, numbered, emitted_on, came-by}
use Rattle.dc_chain.specs.lemmas.Tracing.{timed-beginning}
use Rattle.dc_chain.specs.lemmas.Spacing.{only-some, came-count}

-- ---- what comes after a time is in no window before it

none-late : {X : Type 0} (u d time : ℕ) (o : Option X) → u + d ≤ time → count_in u d (ticks_of (stamp time o [])) ≡ 0
unfolding count_in
none-late u d time None h = refl
none-late u d time (Some x) h = elim (one_in_cases u d time) [ inl w ↦ absurd (omega arith) | inr v ↦ elim v [ inl w ↦ omega arith | inr w ↦ omega arith ] ]

timed-late : {X : Type 0} (f : List Event → Event → Option X) (u d : ℕ) (past rest : List (ℕ × Event)) → All (λ e. u + d ≤ e.0) rest → count_in u d (ticks_of (timed f (past ++ rest))) ≡ count_in u d (ticks_of (timed f past))
timed-late {X} f u d past [] late = ap (λ (z : List (ℕ × Event)). count_in u d (ticks_of (timed f z))) (append-nil past)
timed-late {X} f u d past (e ∷ rest) late =
    let one : count_in u d (ticks_of (timed f (past ++ e ∷ []))) ≡ count_in u d (ticks_of (timed f past)) + count_in u d (ticks_of (stamp e.0 (f (events past) e.1) [])) =
    ap (λ (l : List (ℕ × X)). count_in u d (ticks_of l)) (timed-push f past e) ∙ ap (λ l. count_in u d l) (ticks_of-append (timed f past) (stamp e.0 (f (events past) e.1) [])) ∙ count-append u d (ticks_of (timed f past)) (ticks_of (stamp e.0 (f (events past) e.1) [])) in
    omega (
      arith,
      ap (λ (z : List (ℕ × Event)). count_in u d (ticks_of (timed f z))) (append_assoc past (e ∷ []) rest),
      timed-late f u d (past ++ e ∷ []) rest (All-tail (λ e. u + d ≤ e.0) e rest late),
      one,
      none-late u d e.0 (f (events past) e.1) (All-head (λ e. u + d ≤ e.0) e rest late),
    )

-- times that never fall: what follows an event comes no sooner
all-later : (bound : ℕ) (rest : List (ℕ × Event)) → NeverFall (bound ∷ ticks_of rest) → All (λ e. bound ≤ e.0) rest
unfolding NeverFall
all-later bound [] h = All-nil (λ e. bound ≤ e.0)
all-later bound (e ∷ rest) h = All-cons (λ e. bound ≤ e.0) e rest h.0 (all-later bound rest (lower bound e.0 (ticks_of rest) h.0 h.1))
  where
    lower : (a b : ℕ) (ts : List ℕ) → a ≤ b → NeverFall (b ∷ ts) → NeverFall (a ∷ ts)
    lower a b [] h k = tt
    lower a b (t ∷ ts) h k = (omega (arith, k.0), k.1)

from-here : (past rest : List (ℕ × Event)) (e : ℕ × Event) → NeverFall (ticks_of (past ++ (e ∷ rest))) → NeverFall (e.0 ∷ ticks_of rest)
from-here [] rest e h = h
from-here (x ∷ past) rest e h = from-here past rest e (never_fall-tail x.0 (ticks_of (past ++ (e ∷ rest))) h)

-- ---- the first event from a time on

record IsFirstFrom (bound : ℕ) (run past rest : List (ℕ × Event)) (g : ℕ × Event) : Type 0 where
  cut : run ≡ past ++ (g ∷ rest)
  late : bound ≤ g.0
  before : All (λ e. e.0 < bound) past

nothing-before : (bound : ℕ) (run : List (ℕ × Event)) (x : ℕ × Event) → bound ≤ x.0 → (past : List (ℕ × Event)) × (rest : List (ℕ × Event)) × (g : ℕ × Event) × IsFirstFrom bound (x ∷ run) past rest g
nothing-before bound run x here = ([], run, x, record { cut = refl; late = here; before = All-nil (λ e. e.0 < bound) })

first-from : (bound : ℕ) (run : List (ℕ × Event)) (later : ℕ × Event) → Contains run later → bound ≤ later.0 → (past : List (ℕ × Event)) × (rest : List (ℕ × Event)) × (g : ℕ × Event) × IsFirstFrom bound run past rest g
first-from bound [] later (k, l, is) late = absurd (omega arith)
first-from bound (x ∷ run) later (zero, l, is) late = nothing-before bound run x (omega (arith, late, ap (λ (z : ℕ × Event). z.0) is))
first-from bound (x ∷ run) later (suc k, l, is) late =
    elim (cases_lt x.0 bound) [
      | inl less ↦ (let r = first-from bound run later (k, omega arith, is) late in
          (x ∷ r.0, r.1, r.2, record { cut = ap (λ z. x ∷ z) r.3.cut; late = r.3.late; before = All-cons (λ e. e.0 < bound) x r.0 less r.3.before }))
      | inr here ↦ nothing-before bound run x here
    ]

-- the last time is one of an entry
last-entry : (start : ℕ) (xs : List (ℕ × ℕ)) → (last_or start (ticks_of xs) ≡ start) ⊎ ((y : ℕ × ℕ) × Contains xs y × (y.0 ≡ last_or start (ticks_of xs)))
last-entry start [] = inl refl
last-entry start (x ∷ xs) =
    elim (last-entry x.0 xs) [
      | inl same ↦ inr (x, (0, omega arith, refl), sym same)
      | inr (y, (k, l, is), e) ↦ inr (y, (suc k, omega arith, is), e)
    ]

-- ---- what is picked at a place is among what is picked of the run

here : (past rest : List (ℕ × Event)) (e : ℕ × Event) → Contains (past ++ (e ∷ rest)) e
here [] rest e = (0, omega arith, refl)
here (p ∷ past) rest e = let r = here past rest e in (suc r.0, omega (arith, r.1), r.2)

in-stamp : {X : Type 0} (k : ℕ) (o : Option X) (y : X) → o ≡ Some y → Contains (stamp k o []) (k, y)
in-stamp {X} k o y is = let P : Option X → Type 0 = λ o. Contains (stamp k o []) (k, y) in subst P (sym is) (0, omega arith, refl)

at-place : (f : List Event → Event → Option (ℕ × ℕ)) (run past rest : List (ℕ × Event)) (e : ℕ × Event) (y : ℕ × ℕ) → run ≡ past ++ (e ∷ rest) → f (events past) e.1 ≡ Some y → Contains (timed f run) (e.0, y)
at-place f run past rest e y cut is =
    let more = timed-beginning f (past ++ e ∷ []) rest in
    let P : List (ℕ × (ℕ × ℕ)) → Type 0 = λ z. Contains z (e.0, y) in
    let one : Contains (timed f (past ++ e ∷ [])) (e.0, y) = subst P (sym (timed-push f past e)) (Contains-append_right (timed f past) (stamp e.0 (f (events past) e.1) []) (e.0, y) (in-stamp e.0 (f (events past) e.1) y is)) in
    subst P (sym (ap (timed f) (cut ∙ sym (append_assoc past (e ∷ []) rest)) ∙ more.1)) (Contains-append_left (timed f (past ++ e ∷ [])) more.0 (e.0, y) one)

-- ---- an emission of a label of the output is sent by it

own-send : (t : TableRows) → AreValid t → (o x q : ℕ) (past : List Event) → q < length t.outputs → (label_row t x).output ≡ o → emission t past (Send q) ≡ Some x → sent_word t o past (Send q) ≡ Some (x, chosen t x (past ++ Send q ∷ []))
own-send t valid o x q past there on is =
    let r = emitted_on t past q x valid there is in
    let same : q ≡ o = sym r.1 ∙ on in
    let yes' : eqb q o ≡ true = eq-eqb q o same in
    ap (λ b. cond b (option_map (λ (y : ℕ). (y, chosen t y (past ++ Send q ∷ []))) (emission t past (Send q))) None) yes' ∙ ap (option_map (λ (y : ℕ). (y, chosen t y (past ++ Send q ∷ [])))) is

sends-own : (t : TableRows) → AreValid t → (o x : ℕ) (past : List Event) (v : Event) → IsNumbered t v → (label_row t x).output ≡ o → emission t past v ≡ Some x → sent_word t o past v ≡ Some (x, chosen t x (past ++ v ∷ []))
unfolding emission
sends-own t valid o x past Tick there on is = absurd cc
sends-own t valid o x past (Arrive w b) there on is = absurd cc
sends-own t valid o x past (Route r) there on is = absurd cc
sends-own t valid o x past (Send q) there on is = own-send t valid o x q past there on is

-- ---- an emission in each span

module _ (from to : Concentrator) (link : Link) (x s : ℕ) (sender : RunsInTime from) (claims : KeepsClaims from) (feeds : FeedsAll from.rows to.rows link x s) where
  -- a word of the label was sent in each span of its greatest interval
  pub sent-in : (b : ℕ) (later : ℕ × Event) → from.clock.begins 0 < b → Contains from.run later → b + from.us.label_most x ≤ later.0
      → (e : ℕ × (ℕ × ℕ)) × Contains (sends_of from link.output) e × (e.1.0 ≡ x) × (b ≤ e.0) × (e.0 < b + from.us.label_most x)
  sent-in b later after there far =
      let r = first-from (b + from.us.label_most x) from.run later there far in
      let in_time = (claims r.0 r.1 r.2 r.3.cut).in_time x feeds.there in
      elim (last-entry (from.clock.begins 0) (timed (emits from.rows x) r.0)) [
        | inl none ↦ absurd (omega (arith, none, in_time, r.3.late))
        | inr (y, inside, is) ↦
            let place = timed-place (emits from.rows x) r.0 y inside in
            let early : place.2.0 < b + from.us.label_most x = All-contains (λ e. e.0 < b + from.us.label_most x) r.0 place.2 r.3.before (let P : List (ℕ × Event) → Type 0 = λ z. Contains z place.2 in subst P (sym place.3.cut) (here place.0 place.1 place.2)) in
            let whole : from.run ≡ place.0 ++ (place.2 ∷ (place.1 ++ (r.2 ∷ r.1))) = r.3.cut ∙ ap (λ z. z ++ (r.2 ∷ r.1)) place.3.cut ∙ append_assoc place.0 (place.2 ∷ place.1) (r.2 ∷ r.1) in
            let leaves = only-some x y.1 (emission from.rows (events place.0) place.2.1) place.3.picked in
            let w : ℕ = chosen from.rows x (events place.0 ++ place.2.1 ∷ []) in
            let sent : sent_word from.rows link.output (events place.0) place.2.1 ≡ Some (x, w) = sends-own from.rows sender.valid link.output x (events place.0) place.2.1 (numbered from.rows from.run place.0 (place.1 ++ (r.2 ∷ r.1)) place.2 whole sender.numbers) feeds.on_output leaves in
            ((place.2.0, (x, w)), at-place (sent_word from.rows link.output) from.run place.0 (place.1 ++ (r.2 ∷ r.1)) place.2 (x, w) whole sent, refl, omega (arith, place.3.time, is, in_time, r.3.late), early)
      ]

-- ---- an arrival in each span

-- where one of a number is in a window
counted-in : (n u d : ℕ) (xs : List (ℕ × (ℕ × ℕ))) (a : ℕ × (ℕ × ℕ)) → Contains xs a → a.1.0 ≡ n → u ≤ a.0 → a.0 < u + d → 1 ≤ count_in u d (ticks_of (of_number n xs))
counted-in n u d [] a (k, l, is) own low high = absurd (omega arith)
counted-in n u d (x ∷ xs) a (zero, l, is) own low high =
    let mine : eqb x.1.0 n ≡ true = eq-eqb _ _ (ap (λ (z : ℕ × (ℕ × ℕ)). z.1.0) is ∙ own) in
    let when : x.0 ≡ a.0 = ap (λ (z : ℕ × (ℕ × ℕ)). z.0) is in
    let P : Bool → Type 0 = λ b. 1 ≤ count_in u d (ticks_of (cond b (x ∷ of_number n xs) (of_number n xs))) in
    subst P (sym mine) (elim (one_in_cases u d x.0) [
      | inl w ↦ omega (arith, count_in-cons u d x.0 (ticks_of (of_number n xs)))
      | inr v ↦ elim v [ inl w ↦ absurd (omega arith) | inr w ↦ absurd (omega arith) ]
    ])
counted-in n u d (x ∷ xs) a (suc k, l, is) own low high =
    let rest = counted-in n u d xs a (k, omega arith, is) own low high in
    elim (eqb x.1.0 n) as (λ b. 1 ≤ count_in u d (ticks_of (cond b (x ∷ of_number n xs) (of_number n xs)))) [
      | true ↦ omega (arith, rest, count_in-cons u d x.0 (ticks_of (of_number n xs)))
      | false ↦ rest
    ]

pub sources-stay_alive : (from to : Concentrator) (link : Link) (x s : ℕ) → RunsInTime from → KeepsClaims from → RunsInTime to → Delivers from link to → FeedsAll from.rows to.rows link x s
    → from.us.label_most x + (link.most - link.least) ≤ to.us.stream_most s
    → (y : ℕ) (past rest : List (ℕ × Event)) (e later : ℕ × Event) → to.run ≡ past ++ (e ∷ rest) → Contains from.run later → e.0 ≤ later.0
    → to.clock.begins (label_row to.rows y).stale ≤ e.0 → from.clock.begins 0 + link.least + stale_time to.rows to.clock y < e.0
    → IsAliveInTime to.rows to.us to.clock y s past e
sources-stay_alive from to link x s sender claims receiver delivers feeds fit y past rest e later cut reach far old warm = record {
  old_enough = old;
  sends = λ a begun recent ended.
      let sent = sent-in from to link x s sender claims feeds (a - link.least) later (omega (arith, recent, warm)) reach (omega (arith, ended, fit, far, recent, warm)) in
      let here' : Contains to.run e = (let P : List (ℕ × Event) → Type 0 = λ z. Contains z e in subst P (sym cut) (here past rest e)) in
      let got = delivers sent.0 sent.1 e here' (omega (arith, sent.4, ended, fit, recent, warm)) in
      let by = sent-by from sender link.output sent.0 sent.1 in
      let P : ℕ → Type 0 = λ z. (label_of sent.0.1.1 ≡ (label_row from.rows z).label) × (sdi_of sent.0.1.1 ≡ (label_row from.rows z).sdi) in
      let fields = subst P sent.2 (by.labelled, by.by_sdi) in
      let same = got.2.same in
      let declared : stream_of to.rows link.bus got.0.1.1 ≡ Some s = feeds.declared got.0.1.1 (ap label_of (sym same) ∙ fields.0) (ap sdi_of (sym same) ∙ fields.1) in
      let own : Some got.0.1.0 ≡ Some s = sym (came-by to link.bus got.0 got.1) ∙ declared in
      let number : got.0.1.0 ≡ s = cc in
      let S : ℕ = to.us.stream_most s in
      let Q : ℕ → Type 0 = λ b. Contains (arrivals_at to b) got.0 in
      let counted = counted-in s a (to.us.stream_most s) (arrivals_at to (stream_row to.rows s).bus) got.0 (subst Q (sym feeds.on_bus) got.1) number (omega (arith, sent.3, got.2.no_sooner, recent, warm)) (omega (arith, sent.4, got.2.no_later, fit, recent, warm)) in
      let order : NeverFall (ticks_of (past ++ (e ∷ rest))) = (let R : List (ℕ × Event) → Type 0 = λ z. NeverFall (ticks_of z) in subst R cut receiver.timing.ordered) in
      let after = all-later e.0 rest (from-here past rest e order) in
      let late : All (λ v. a + to.us.stream_most s ≤ v.0) (e ∷ rest) = All-cons (λ v. a + to.us.stream_most s ≤ v.0) e rest ended (All-weaker (λ v. e.0 ≤ v.0) (λ v. a + to.us.stream_most s ≤ v.0) (λ v h. omega (arith, h, ended)) rest after) in
      let b : ℕ = (stream_row to.rows s).bus in
      omega (
        arith,
        counted,
        came-count to.rows s a (to.us.stream_most s) to.run,
        ap (λ (z : List (ℕ × Event)). count_in a (to.us.stream_most s) (stream_times to.rows s z)) cut,
        timed-late (stream_arrival to.rows s) a (to.us.stream_most s) past (e ∷ rest) late,
      );
}
