-- An output sends; a tick ends.
use Rattle.std.proofs.Common.{◌≡◌, ℕ, suc, ◌+◌, ◌-◌, ◌%◌, ◌≤◌, ◌<◌, Bool, true, false, cond, ltb, leb, Option, Some, None, is_some, option_map, List, [], ◌∷◌, ◌++◌, length, drop, get_or, set, refl, sym, ap, inl, inr, ⊎_elim, ◌∙◌, subst, arith, eq-eqb}
use Rattle.std.specs.Prelude.{map, nat_le, filter}
use Rattle.std.specs.List.{flat_map}
use Rattle.std.proofs.lemmas.List.{append-nil, get_or-set_same, get_or-set_other, map-append}
use Rattle.std.proofs.lemmas.Bool.{lt-ltb, le-ltb, cases_eq, cases_lt, ne_eqb, leb-true, ltb-true, ltb-false}
use Rattle.dc_bound.specs.Window.{HoldAtMost, count_in}
use Rattle.dc_bound.specs.lemmas.Budget.{count_in_sum}
use Rattle.dc_bound.specs.Run.{one_if}
use Rattle.dc_bound.specs.Moves.{Move, taken}
use Rattle.dc_bound.specs.Moves.Move.{Tick as TickMove}
use Rattle.dc_bound.specs.lemmas.QueuePush.{queue-tick, latest_by-same}
use Rattle.dc_bound.specs.Window.{IsLast}
use Rattle.dc_bound.specs.lemmas.Recent.{NoneLater, recent, most_push, last-none, last-far, last-near, last-now, last-turn}
use Rattle.dc_word.specs.Format.{is_usable}
use Rattle.dc_tables.specs.TableRows.{TableRows, AreValid, stream_row, router_row, output_row, label_row}
use Rattle.dc_event.specs.Time.{tick_after, route_of, send_of, routes, send_ticks}
use Rattle.dc_event.specs.Buses.{moves, room, is_latched}
use Rattle.dc_event.specs.Latest.{is_of_stream, latest}
use Rattle.dc_event.specs.Outputs.{due_by, sent, entry_label}
use Rattle.dc_event.specs.Choice.{fresh, fresh_word, head, chosen_source, chosen, word_for}
use Rattle.dc_event.specs.Replies.{reply}
use Rattle.dc_event.specs.Admissible.{KeepsBudgets}
use Rattle.dc_event.specs.declared.event.Reply.TheVariants.{Sent, Idle, Now}
use Rattle.dc_event.specs.declared.event.Event.{Event}
use Rattle.dc_event.specs.declared.event.Event.TheVariants.{Tick, Send}
use Rattle.dc_core.specs.declared.states.RouterState.{RouterState}
use Rattle.dc_core.specs.declared.states.OutputState.{OutputState}
use Rattle.dc_core.specs.States.{BusData, no_router, no_output, router_turned, output_turned, output_sent}
use Rattle.dc_core.specs.Lacking.{too_soon}
use Rattle.dc_route.specs.Choosing.{young, fresh_now, first_word, word_now, fresh_words, chosen_now}
use Rattle.dc_core.specs.Standing.{entered_words, HoldsQueue, word_and_tick, HoldsRouter, HoldsOutput, Standing}
use Rattle.dc_event.specs.lemmas.RunPush.{tick-push, steps-push, ticks-other, ticks-step, moves-push, moves-other, latest-other, sent-push, sent-le, sent-other, steps-none_later}
use Rattle.dc_event.specs.lemmas.BudgetsPush.{calm, keeps-step, rest-same}
use Rattle.dc_core.proofs.Windows.{last-same, window-step, window-tick}
use Rattle.dc_core.proofs.Standing.{numbers-push, router-other, output-other}

send_is : (o : ℕ) → send_of o (Send o) ≡ Some o
send_is o = ap (λ b. cond b (Some o) None) (eq-eqb o o refl)

send_not : (o q : ℕ) → (o ≡ q → ⊥) → send_of q (Send o) ≡ None
send_not o q other = ap (λ b. cond b (Some o) None) (ne_eqb o q other)

-- ---- the budget

pub send-keeps : (t : TableRows) (run : List Event) (o : ℕ) → KeepsBudgets t run → HoldAtMost 1 (output_row t o).gap (send_ticks o (run ++ Send o ∷ [])) → KeepsBudgets t (run ++ Send o ∷ [])
send-keeps t run o k h =
    keeps-step t run (Send o) k refl
    (λ r l. rest-same _ _ _ _ (ticks-other (route_of r) run (Send o) refl) (k.routers_rest r l))
    (λ q l. ⊎_elim
    (λ (same : o ≡ q). (let P : ℕ → Type 0 = λ q. HoldAtMost 1 (output_row t q).gap (send_ticks q (run ++ Send o ∷ [])) in subst P same h))
    (λ (other : o ≡ q → ⊥). rest-same _ _ _ _ (ticks-other (send_of q) run (Send o) (send_not o q other)) (k.outputs_rest q l)) (cases_eq o q))

none_recent : (gap now : ℕ) (ts : List ℕ) (o : Option ℕ) → 0 < gap → NoneLater now ts → IsLast o now ts → too_soon gap now o ≡ false → recent gap now ts ≡ 0
none_recent gap now ts None pos none h e = last-none gap now ts none h
none_recent gap now ts (Some k) pos none h e = last-far gap k now ts pos h (omega (arith, ltb-false _ _ e, h.0))

some_recent : (gap now : ℕ) (ts : List ℕ) (o : Option ℕ) → IsLast o now ts → too_soon gap now o ≡ true → 1 ≤ recent gap now ts
some_recent gap now ts None h e = absurd cc
some_recent gap now ts (Some k) h e = last-near gap k now ts h (omega (arith, ltb-true _ _ e))

pub send-open : (t : TableRows) (o now : ℕ) (s : OutputState) (run : List Event) → 0 < (output_row t o).gap → now ≡ tick_after run → HoldsOutput t o s run → HoldAtMost 1 (output_row t o).gap (send_ticks o run) → too_soon (output_row t o).gap now s.last ≡ false → HoldAtMost 1 (output_row t o).gap (send_ticks o (run ++ Send o ∷ []))
send-open t o now s run pos clock h old free =
    let e = ap (λ k. too_soon (output_row t o).gap k s.last) (sym clock) ∙ free in
    let z = none_recent (output_row t o).gap (tick_after run) (send_ticks o run) s.last pos (steps-none_later (send_of o) run) h.last e in
    rest-same _ _ _ _ (ticks-step (send_of o) run (Send o) o (send_is o)) ((most_push 1 (output_row t o).gap (tick_after run) (send_ticks o run) pos (steps-none_later (send_of o) run)).1 (old, omega (arith, z)))

pub send-soon : (t : TableRows) (o now : ℕ) (s : OutputState) (run : List Event) → 0 < (output_row t o).gap → now ≡ tick_after run → HoldsOutput t o s run → too_soon (output_row t o).gap now s.last ≡ true → HoldAtMost 1 (output_row t o).gap (send_ticks o (run ++ Send o ∷ [])) → ⊥
send-soon t o now s run pos clock h full k =
    let e = ap (λ k. too_soon (output_row t o).gap k s.last) (sym clock) ∙ full in
    let one = some_recent (output_row t o).gap (tick_after run) (send_ticks o run) s.last h.last e in
    let p = (most_push 1 (output_row t o).gap (tick_after run) (send_ticks o run) pos (steps-none_later (send_of o) run)).0 (rest-same _ _ _ _ (sym (ticks-step (send_of o) run (Send o) o (send_is o))) k) in
    omega (arith, one, p.1)

in_recent : (gap now : ℕ) (ts : List ℕ) → 0 < gap → count_in now 1 ts ≤ recent gap now ts
in_recent gap now ts pos =
    let v : ℕ = suc now - gap in
    let a : ℕ = now - (suc now - gap) in
    let at : suc now - gap + (now - (suc now - gap)) ≡ now = omega arith in
    let all : now - (suc now - gap) + (1 + (gap - (now - (suc now - gap)) - 1)) ≡ gap = omega arith in
    omega (
      arith,
      count_in_sum (suc now - gap) (now - (suc now - gap)) (1 + (gap - (now - (suc now - gap)) - 1)) ts,
      count_in_sum now 1 (gap - (now - (suc now - gap)) - 1) ts,
      ap (λ x. count_in (suc now - gap) x ts) all,
      ap (λ x. count_in x (1 + (gap - (now - (suc now - gap)) - 1)) ts) at,
    )

-- a tick's room for one step is taken exactly where a step stands in it, and then the next comes too soon
pub send-spent : (t : TableRows) (o now : ℕ) (s : OutputState) (run : List Event) → 0 < (output_row t o).gap → now ≡ tick_after run → HoldsOutput t o s run → nat_le s.window.room s.window.count ≡ true → HoldAtMost 1 (output_row t o).gap (send_ticks o (run ++ Send o ∷ [])) → ⊥
send-spent t o now s run pos clock h full k =
    let p = (most_push 1 (output_row t o).gap (tick_after run) (send_ticks o run) pos (steps-none_later (send_of o) run)).0 (rest-same _ _ _ _ (sym (ticks-step (send_of o) run (Send o) o (send_is o))) k) in
    omega (arith, p.1, leb-true _ _ full, h.window.room, h.window.count, in_recent (output_row t o).gap (tick_after run) (send_ticks o run) pos)

-- ---- the reply and the state after a send

pub record IsSend (t : TableRows) (now : ℕ) (outputs : List OutputState) (run : List Event) (o more : ℕ) (output : OutputState) : Type 0 where
  pub output_there : o < length t.outputs
  pub outputs_sized : length outputs ≡ length t.outputs
  pub keeps : KeepsBudgets t (run ++ Send o ∷ [])
  pub count : more ≡ cond (ltb (get_or outputs o no_output).sent (due_by t o now)) 1 0
  pub after : output ≡ output_sent (get_or outputs o no_output) now more

module _ (t : TableRows) (now : ℕ) (buses : ℕ → BusData) (lasts : List (Option (ℕ × ℕ))) (routers : List RouterState) (outputs : List OutputState) (run : List Event) (o more : ℕ) (output : OutputState)
    (v : IsSend t now outputs run o more output) (h : Standing t now buses lasts routers outputs run) where
  old_one : HoldsOutput t o (get_or outputs o no_output) run
  old_one = h.sendings o v.output_there

  all_due : due_by t o (tick_after (run ++ Send o ∷ [])) ≡ due_by t o now
  all_due = ap (due_by t o) (calm run (Send o) refl ∙ sym h.clock)

  due_now : due_by t o (tick_after run) ≡ due_by t o now
  due_now = ap (due_by t o) (sym h.clock)

  sent_after : sent t o (run ++ Send o ∷ []) ≡ (get_or outputs o no_output).sent + more
  sent_after =
      let one : one_if (send_of o (Send o)) ≡ 1 = ap (λ (x : Option ℕ). one_if x) (send_is o) in
      let is = old_one.count in
      elim (cases_lt (get_or outputs o no_output).sent (due_by t o now)) [
        | inl l ↦ omega (arith, sent-push t o run (Send o), one, all_due, is, v.count, ap (λ b. cond {A = ℕ} b 1 0) (lt-ltb _ _ l), l)
        | inr l ↦ omega (arith, sent-push t o run (Send o), sent-le t o run, one, all_due, due_now, is, v.count, ap (λ b. cond {A = ℕ} b 1 0) (le-ltb _ _ l), l)
      ]

  output_after : HoldsOutput t o (output_sent (get_or outputs o no_output) now more) (run ++ Send o ∷ [])
  output_after = record {
    count = sym sent_after;
    last = (let P : ℕ → Type 0 = λ k. IsLast (Some k) (tick_after (run ++ Send o ∷ [])) (send_ticks o (run ++ Send o ∷ [])) in
        subst P (sym h.clock) (last-same (Some (tick_after run)) _ _ _ _ (calm run (Send o) refl) (ticks-step (send_of o) run (Send o) o (send_is o)) (last-now (tick_after run) (send_ticks o run))));
    window = window-step (send_of o) (output_row t o).within 1 run (Send o) (get_or outputs o no_output).window o refl (send_is o) old_one.window;
  }

  pub standing-send : Standing t now buses lasts routers (set outputs o output) (run ++ Send o ∷ [])
  standing-send = record {
    numbers = numbers-push t run (Send o) h.numbers v.output_there;
    kept = v.keeps;
    clock = h.clock ∙ sym (calm run (Send o) refl);
    queues = λ b l. (let P : List Move → Type 0 = λ ms. HoldsQueue (room t b) (buses b) ms in subst P (sym (moves-other t b run (Send o) refl)) (h.queues b l));
    words = λ s l. h.words s l ∙ ap (option_map word_and_tick) (sym (latest-other t s run (Send o) refl));
    turns = λ r l. router-other t r _ run (Send o) refl refl (h.turns r l);
    sendings = λ q l. ⊎_elim
        (λ (same : o ≡ q). (let there : o < length outputs = omega (arith, v.output_there, v.outputs_sized) in
        let P : ℕ → Type 0 = λ q. HoldsOutput t q (get_or (set outputs o output) q no_output) (run ++ Send o ∷ []) in
        let Q : OutputState → Type 0 = λ s. HoldsOutput t o s (run ++ Send o ∷ []) in
        subst P same (rw (get_or-set_same outputs o output no_output there) (subst Q (sym v.after) output_after))))
        (λ (other : o ≡ q → ⊥). (let ne : q ≡ o → ⊥ = λ e. other (sym e) in
        rw (get_or-set_other outputs o q output no_output ne) (output-other t q _ run (Send o) refl (send_not o q other) (h.sendings q l)))) (cases_eq o q);
  }

  pub idle_reply : due_by t o now ≤ (get_or outputs o no_output).sent → Idle ≡ reply t run (Send o)
  unfolding reply
  idle_reply none =
      let z : more ≡ 0 = v.count ∙ ap (λ b. cond {A = ℕ} b 1 0) (le-ltb _ _ none) in
      let stays : ltb (sent t o run) (sent t o (run ++ Send o ∷ [])) ≡ false = le-ltb _ _ (omega (arith, sent_after, old_one.count)) in
      rw stays refl

  pub sent_reply : (get_or outputs o no_output).sent < due_by t o now → (x w : ℕ) → x ≡ entry_label t o (get_or outputs o no_output).sent → w ≡ chosen t x (run ++ Send o ∷ []) → Sent (label_row t x).label w ≡ reply t run (Send o)
  unfolding reply
  sent_reply some x w is word =
      let one : more ≡ 1 = v.count ∙ ap (λ b. cond {A = ℕ} b 1 0) (lt-ltb _ _ some) in
      let rises : ltb (sent t o run) (sent t o (run ++ Send o ∷ [])) ≡ true = lt-ltb _ _ (omega (arith, sent_after, old_one.count)) in
      let e : x ≡ entry_label t o (sent t o run) = is ∙ ap (entry_label t o) old_one.count in
      rw (rises, ← e) (ap (λ w. Sent (label_row t x).label w) word)

-- ---- the choice, from what the state keeps

words_young : (stale now : ℕ) (l : Option ((ℕ × ℕ) × ℕ)) → map (λ x. x.1) (fresh_word stale now l) ≡ young stale now (option_map word_and_tick l)
words_young stale now None = refl
words_young stale now (Some l) = elim (leb (now - l.1) stale) as (λ b. map (λ x. x.1) (cond b (l.0 ∷ []) []) ≡ cond b (l.0.1 ∷ []) []) [ true ↦ refl | false ↦ refl ]

cond_words : (b : Bool) (xs : List (ℕ × ℕ)) (ys : List ℕ) → map (λ x. x.1) xs ≡ ys → map (λ x. x.1) (cond b [] xs) ≡ cond b [] ys
cond_words true xs ys h = refl
cond_words false xs ys h = h

words_fresh : (t : TableRows) (now : ℕ) (buses : ℕ → BusData) (latched : List Bool) (lasts : List (Option (ℕ × ℕ))) (routers : List RouterState) (outputs : List OutputState) (run : List Event) (x s : ℕ)
    → s < length t.streams → (stream_row t s).bus < length t.buses → ((b : ℕ) → (buses b).latched ≡ get_or latched b false) → Standing t now buses lasts routers outputs run → map (λ x. x.1) (fresh t x run s) ≡ fresh_now t latched lasts now (label_row t x).stale s
unfolding fresh
words_fresh t now buses latched lasts routers outputs run x s ls lb flags h =
    let flag = (h.queues (stream_row t s).bus lb).flag in
    let word = h.words s ls in
    ap (λ k. map (λ x. x.1) (cond (is_latched t (stream_row t s).bus run) [] (fresh_word (label_row t x).stale k (latest t s run)))) (sym h.clock)
    ∙ cond_words (is_latched t (stream_row t s).bus run) (fresh_word (label_row t x).stale now (latest t s run)) (young (label_row t x).stale now (get_or lasts s None)) (words_young (label_row t x).stale now (latest t s run) ∙ ap (young (label_row t x).stale now) (sym word))
    ∙ ap (λ b. cond b [] (young (label_row t x).stale now (get_or lasts s None))) (sym flag ∙ flags (stream_row t s).bus)

words_all : (t : TableRows) (f : ℕ → List (ℕ × ℕ)) (g : ℕ → List ℕ) (xs : List ℕ) → ((k : ℕ) → k < length xs → map (λ x. x.1) (f (get_or xs k 0)) ≡ g (get_or xs k 0)) → map (λ x. x.1) (flat_map f xs) ≡ flat_map g xs
words_all t f g [] h = refl
words_all t f g (x ∷ xs) h =
    map-append (λ x. x.1) (f x) (flat_map f xs) ∙ ap (λ l. l ++ map (λ x. x.1) (flat_map f xs)) (h 0 (omega arith)) ∙ ap (λ l. g x ++ l) (words_all t f g xs (λ k l. h (suc k) (omega arith)))

words_usable : (p : ℕ → Bool) (xs : List (ℕ × ℕ)) → map (λ x. x.1) (filter (λ c. p c.1) xs) ≡ filter p (map (λ x. x.1) xs)
words_usable p [] = refl
words_usable p (x ∷ xs) = elim (p x.1) as (λ b. map (λ x. x.1) (cond b (x ∷ filter (λ c. p c.1) xs) (filter (λ c. p c.1) xs)) ≡ cond b (x.1 ∷ filter p (map (λ x. x.1) xs)) (filter p (map (λ x. x.1) xs))) [ true ↦ ap (λ l. x.1 ∷ l) (words_usable p xs) | false ↦ words_usable p xs ]

words_head : (t : TableRows) (x : ℕ) (cs : List (ℕ × ℕ)) → word_for t x (head cs) ≡ word_now t x (first_word (map (λ x. x.1) cs))
words_head t x [] = refl
words_head t x (c ∷ cs) = refl

pub chosen_is : (t : TableRows) (now : ℕ) (buses : ℕ → BusData) (latched : List Bool) (lasts : List (Option (ℕ × ℕ))) (routers : List RouterState) (outputs : List OutputState) (run : List Event) (x : ℕ)
    → AreValid t → x < length t.labels → ((b : ℕ) → (buses b).latched ≡ get_or latched b false) → Standing t now buses lasts routers outputs run → chosen_now t latched lasts now x ≡ chosen t x run
unfolding chosen_source chosen_now fresh_words
chosen_is t now buses latched lasts routers outputs run x v there flags h =
    let sources = (label_row t x).sources in
    let all = words_all t (fresh t x run) (fresh_now t latched lasts now (label_row t x).stale) (label_row t x).sources
    (λ k l. words_fresh t now buses latched lasts routers outputs run x (get_or (label_row t x).sources k 0) (v.sources_there x k there l) (v.streams_on_buses (get_or (label_row t x).sources k 0) (v.sources_there x k there l)) flags h) in
    let cs : List (ℕ × ℕ) = flat_map (fresh t x run) (label_row t x).sources in
    let p : ℕ → Bool = is_usable (label_row t x).format in
    let both = map-append (λ (x : ℕ × ℕ). x.1) (filter (λ c. is_usable (label_row t x).format c.1) (flat_map (fresh t x run) (label_row t x).sources)) (flat_map (fresh t x run) (label_row t x).sources) in
    sym (words_head t x (filter (λ c. is_usable (label_row t x).format c.1) (flat_map (fresh t x run) (label_row t x).sources) ++ flat_map (fresh t x run) (label_row t x).sources)
    ∙ ap (λ l. word_now t x (first_word l)) (both
    ∙ ap (λ l. l ++ map (λ (x : ℕ × ℕ). x.1) (flat_map (fresh t x run) (label_row t x).sources)) (words_usable (is_usable (label_row t x).format) (flat_map (fresh t x run) (label_row t x).sources))
    ∙ ap (λ l. filter (is_usable (label_row t x).format) l ++ l) all))

-- ---- a tick ends

latest-tick : (t : TableRows) (s : ℕ) (run : List Event) → latest t s (run ++ Tick ∷ []) ≡ latest t s run
unfolding latest
latest-tick t s run =
    let a = (stream_row t s).bus in
    let q = queue-tick (room t a) (moves t a run) in
    rw (moves-push t a run Tick) (latest_by-same (room t a) (is_of_stream s) (moves t a run) TickMove [] (q.1 ∙ sym (append-nil _)) q.2)

holds-tick : (room : ℕ) (s : BusData) (ms : List Move) → HoldsQueue room s ms → HoldsQueue room s (ms ++ TickMove ∷ [])
holds-tick room s ms h =
    let q = queue-tick room ms in
    record { limit = h.limit; flag = h.flag ∙ sym (ap is_some q.0); words = h.words ∙ ap (λ n. drop n (entered_words room ms)) (sym q.2) ∙ ap (λ xs. drop (taken room (ms ++ TickMove ∷ [])) (map (λ (x : ℕ × ℕ). x.1) xs)) (sym q.1) }

tick_next : (run : List Event) → tick_after (run ++ Tick ∷ []) ≡ suc (tick_after run)
tick_next run = omega (arith, tick-push run Tick)

pub standing-tick : (t : TableRows) (now : ℕ) (buses : ℕ → BusData) (lasts : List (Option (ℕ × ℕ))) (routers routers' : List RouterState) (outputs outputs' : List OutputState) (run : List Event)
    → AreValid t → KeepsBudgets t (run ++ Tick ∷ [])
    → ((r : ℕ) → r < length t.routers → get_or routers' r no_router ≡ router_turned (get_or routers r no_router))
    → ((o : ℕ) → o < length t.outputs → get_or outputs' o no_output ≡ output_turned (get_or outputs o no_output))
    → Standing t now buses lasts routers outputs run → Standing t (now + 1) buses lasts routers' outputs' (run ++ Tick ∷ []) × (Now (now + 1) ≡ reply t run Tick)
unfolding reply
standing-tick t now buses lasts routers routers' outputs outputs' run v k rs os h = (
  record {
    numbers = numbers-push t run Tick h.numbers tt;
    kept = k;
    clock = omega (arith, h.clock, tick-push run Tick);
    queues = λ b l. rw (moves-push t b run Tick) (holds-tick (room t b) (buses b) (moves t b run) (h.queues b l));
    words = λ s l. h.words s l ∙ ap (option_map word_and_tick) (sym (latest-tick t s run));
    turns = λ r l. (let P : RouterState → Type 0 = λ s. HoldsRouter t r s (run ++ Tick ∷ []) in
        let same : routes r (run ++ Tick ∷ []) ≡ routes r run = omega (arith, steps-push (route_of r) run Tick) in
        subst P (sym (rs r l)) (record {
          cursor = (h.turns r l).cursor ∙ sym (ap (λ k. k % length (router_row t r).visits) same);
          window = window-tick (route_of r) (router_row t r).within (router_row t r).most run Tick (get_or routers r no_router).window (v.routers_paced r l) refl refl (h.turns r l).window;
        }));
    sendings = λ o l. (let P : OutputState → Type 0 = λ s. HoldsOutput t o s (run ++ Tick ∷ []) in
        subst P (sym (os o l)) (record {
          count = (h.sendings o l).count ∙ sym (sent-other t o run Tick refl);
          last = last-same (get_or outputs o no_output).last _ _ _ _ (tick_next run) (ticks-other (send_of o) run Tick refl) (last-turn (get_or outputs o no_output).last (tick_after run) (send_ticks o run) (steps-none_later (send_of o) run) (h.sendings o l).last);
          window = window-tick (send_of o) (output_row t o).within 1 run Tick (get_or outputs o no_output).window (v.outputs_paced o l) refl refl (h.sendings o l).window;
        }));
  },
  ap (λ n. Now (n + 1)) h.clock,
)
