-- Claims that hold in ticks hold in microseconds.
use Rattle.std.proofs.Common.{◌≡◌, ℕ, suc, ◌+◌, ◌*◌, ◌<◌, ◌≤◌, Option, Some, None, List, [], ◌∷◌, ◌++◌, length, get_or, refl, sym, ap, ◌∙◌, subst, arith, inl, inr, ◌%◌, ◌-◌, true, false, cond, ltb, append_assoc}
use Rattle.std.specs.Prelude.{IfSome}
use Rattle.std.specs.List.{Contains}
use Rattle.std.proofs.Math.Nat.{mod-lt}
use Rattle.std.specs.List.{All}
use Rattle.std.proofs.lemmas.List.Elements.{All-head, All-tail, All-weaker, All-contains_itself}
use Rattle.std.proofs.lemmas.Bool.{cases_lt}
use Rattle.std.proofs.lemmas.List.{append-nil, map-append}
use Rattle.dc_bound.specs.Turns.{NeverFall}
use Rattle.dc_bound.specs.Window.{count_in, ticks_of}
use Rattle.dc_spans.specs.lemmas.Scaling.{no-less, no-more, rises, count-ticks}
use Rattle.dc_event.specs.Buses.{arrivals}
use Rattle.dc_event.specs.lemmas.Arrivals.{arrivals-other}
use Rattle.dc_time.specs.lemmas.Arriving.{arrivals-picked}
use Rattle.dc_word.specs.Format.{is_usable}
use Rattle.dc_bound.specs.Run.{stamp}
use Rattle.dc_spans.specs.Spans.{Clock, KeepsPace, IsWithinTick}
use Rattle.dc_tables.specs.TableRows.{TableRows, AreValid, stream_row, label_row}
use Rattle.dc_event.specs.Time.{tick_after}
use Rattle.dc_event.specs.Alive.{came_words, IsAlive, AreUsable}
use Rattle.dc_event.specs.Emissions.{emission, emission_ticks, last_or_zero}
use Rattle.dc_event.specs.Admissible.{IsNumbered, IsRun}
use Rattle.dc_event.specs.Outputs.{entry_label, sent}
use Rattle.dc_event.specs.Claims.{IsYoung, CopiesWithin, UsesFirst, UsesAny, IsInTime, ClaimsHold}
use Rattle.dc_event.specs.lemmas.RunPush.{tick-push}
use Rattle.dc_event.specs.declared.event.Event.{Event}
use Rattle.dc_event.specs.declared.event.Event.TheVariants.{Tick, Arrive, Route, Send}
use Rattle.dc_time.specs.Timed.{events, HappensIn, InTheirTicks, IsTimed, timed, ticked}
use Rattle.dc_time.specs.Intervals.{Intervals, FitsClock}
use Rattle.dc_time.specs.Sources.{brought, stream_arrival}
use Rattle.dc_time.specs.Claims.{CopiesSince, IsYoungInTime, IsAliveInTime, AreUsableInTime, UsesFirstInTime, UsesAnyInTime, emits, emission_times, last_or, IsBetween, ClaimsHoldInTime}
use Rattle.dc_time.specs.lemmas.TimedRuns.{ticked-timed, time-of, timed-place, StandsAt}
use Rattle.dc_time.specs.lemmas.Copying.{came-push, came-picked, chosen-came}
use Rattle.dc_time.specs.lemmas.Emitting.{emissions-picked, IsLastTime, last-time, earlier_le, as_many, emits-no_tick}

-- an event is no later than the end of its tick
no_later : (clock : Clock) (k time : ℕ) (e : Event) → HappensIn clock k time e → time ≤ clock.begins (suc k)
no_later clock k time Tick h = omega arith
no_later clock k time (Arrive w b) h = omega (arith, h.to)
no_later clock k time (Route r) h = omega (arith, h.to)
no_later clock k time (Send o) h = omega (arith, h.to)

-- what emits is a send step
emitter : (P : Event → Type 0) (t : TableRows) (past : List Event) (x : ℕ) → ((o : ℕ) → P (Send o)) → (e : Event) → emission t past e ≡ Some x → P e
unfolding emission
emitter P t past x h Tick is = absurd cc
emitter P t past x h (Arrive w b) is = absurd cc
emitter P t past x h (Route r) is = absurd cc
emitter P t past x h (Send o) is = h o

pub if_some : (P : ℕ → Type 0) (o : Option ℕ) → ((x : ℕ) → o ≡ Some x → P x) → IfSome o P
if_some P None h = tt
if_some P (Some x) h = h x refl

pub from_some : (P : ℕ → Type 0) (o : Option ℕ) (x : ℕ) → o ≡ Some x → IfSome o P → P x
from_some P o x is h = let Q : Option ℕ → Type 0 = λ o. IfSome o P in subst Q is h

-- a send step of its tick
record IsSend (t : TableRows) (clock : Clock) (past : List (ℕ × Event)) (e : ℕ × Event) : Type 0 where
  when : IsWithinTick clock (tick_after (events past)) e.0
  now : tick_after (events past ++ e.1 ∷ []) ≡ tick_after (events past)
  brings_none : (b : ℕ) → brought t b (events past) e.1 ≡ None
  comes_none : (s : ℕ) → stream_arrival t s (events past) e.1 ≡ None

-- what is picked before an event has no later time
pub no_sooner : {X : Type 0} (f : List Event → Event → Option X) (run past rest : List (ℕ × Event)) (e : ℕ × Event) (y : ℕ × X) (before after : List (ℕ × Event)) (x : ℕ × Event) → StandsAt f past y before after x
    → run ≡ past ++ (e ∷ rest) → NeverFall (ticks_of run) → y.0 ≤ e.0
no_sooner f run past rest e y before after x at cut order =
    let P : List (ℕ × Event) → Type 0 = λ z. NeverFall (ticks_of z) in
    let whole : run ≡ (before ++ (x ∷ after)) ++ (e ∷ rest) = cut ∙ ap (λ z. z ++ (e ∷ rest)) at.cut in
    omega (arith, earlier_le before after rest x e (subst P whole order), at.time)

pub placed-prefix : (clock : Clock) (past rest : List (ℕ × Event)) → InTheirTicks clock (past ++ rest) → InTheirTicks clock past
placed-prefix clock past rest h = λ before after e is. h before (after ++ rest) e (ap (λ z. z ++ rest) is ∙ append_assoc before (e ∷ after) rest)

module _ (t : TableRows) (valid : AreValid t) (us : Intervals) (clock : Clock) (paced : KeepsPace clock) (fits : FitsClock t us clock) (ages : List ℕ) (run : List (ℕ × Event)) (timing : IsTimed clock run) (past rest : List (ℕ × Event)) (e : ℕ × Event) (cut : run ≡ past ++ (e ∷ rest)) where
  here : HappensIn clock (tick_after (events past)) e.0 e.1
  here = timing.placed past rest e cut

  placed : InTheirTicks clock past
  placed = let P : List (ℕ × Event) → Type 0 = λ z. InTheirTicks clock z in placed-prefix clock past (e ∷ rest) (subst P cut timing.placed)

  sends : (x : ℕ) → emission t (events past) e.1 ≡ Some x → IsSend t clock past e
  sends x is =
      let P : Event → Type 0 = λ v. HappensIn clock (tick_after (events past)) e.0 v → IsWithinTick clock (tick_after (events past)) e.0 × (tick_after (events past ++ v ∷ []) ≡ tick_after (events past)) × ((b : ℕ) → brought t b (events past) v ≡ None) × ((s : ℕ) → stream_arrival t s (events past) v ≡ None) in
      let r = emitter P t (events past) x (λ o h. (h, omega (arith, tick-push (events past) (Send o)), (λ b. refl), (λ s. refl))) e.1 is here in
      record { when = r.0; now = r.1; brings_none = r.2; comes_none = r.3 }

  came-now : (b : ℕ) → IsSend t clock past e → came_words t b (events past ++ e.1 ∷ []) ≡ ticked (brought t b) (events past)
  came-now b send =
      came-push t b (events past) e.1 ∙ ap (λ o. came_words t b (events past) ++ stamp (tick_after (events past)) o []) (send.brings_none b)
      ∙ append-nil (came_words t b (events past)) ∙ came-picked t b (events past)

  -- ---- ages

  copies : (x age : ℕ) (c : ℕ × ℕ) (tick : ℕ) → IsSend t clock past e → CopiesWithin t x age (events past ++ e.1 ∷ []) c tick → (came : ℕ) × CopiesSince t x ((age + 1) * clock.longest) past e c came
  copies x age c tick send young =
      let In : List (ℕ × (ℕ × ℕ)) → Type 0 = λ z. Contains z (tick, c) in
      let came = chosen-came t x (events past ++ e.1 ∷ []) c tick young.copied young.arrived in
      let same = ticked-timed (brought t (stream_row t c.0).bus) (λ _. refl) clock past placed in
      let r = time-of clock tick c (ticked (brought t (stream_row t c.0).bus) (events past)) (timed (brought t (stream_row t c.0).bus) past) same (subst In (came-now (stream_row t c.0).bus send) came) in
      let place = timed-place (brought t (stream_row t c.0).bus) past (r.0, c) r.1 in
      let wide : clock.begins (suc (tick_after (events past))) ≤ clock.begins tick + (age + 1) * clock.longest = no-more clock paced tick (age + 1) (suc (tick_after (events past))) (omega (arith, young.aged, send.now)) in (
        r.0,
        record {
          copied = young.copied;
          arrived = r.1;
          before = no_sooner (brought t (stream_row t c.0).bus) run past rest e (r.0, c) place.0 place.1 place.2 place.3 cut timing.ordered;
          aged = omega (arith, wide, r.2.from, send.when.to);
        },
      )

  ages_hold : (x age : ℕ) → IsSend t clock past e → IsYoung t x age (events past ++ e.1 ∷ []) → IsYoungInTime t x ((age + 1) * clock.longest) past e
  ages_hold x age send young = elim young [
    | inl fallback ↦ inl fallback
    | inr (c, tick, copied) ↦ (let r = copies x age c tick send copied in inr (c, r.0, r.1))
  ]

  -- ---- live sources

  alive-ticks : (x s : ℕ) → s < length t.streams → IsSend t clock past e → IsAliveInTime t us clock x s past e → IsAlive t x s (events past ++ e.1 ∷ [])
  alive-ticks x s there send alive = record {
    old_enough = elim (cases_lt (tick_after (events past)) (label_row t x).stale) [
      | inl less ↦ absurd (omega (arith, rises clock paced (suc (tick_after (events past))) (label_row t x).stale (omega (arith, less)), alive.old_enough, send.when.to))
      | inr le ↦ omega (arith, le, send.now)
    ];
    sends = λ u late inside.
        let arrived : ticks_of (arrivals t s (events past ++ e.1 ∷ [])) ≡ ticks_of (ticked (stream_arrival t s) (events past)) = arrivals-other t s (events past) e.1 (send.comes_none s) ∙ arrivals-picked t s (events past) in
        let same = ticked-timed (stream_arrival t s) (λ _. refl) clock past placed in
        let recent : clock.begins (suc (tick_after (events past))) ≤ clock.begins u + ((label_row t x).stale + 1) * clock.longest = no-more clock paced u ((label_row t x).stale + 1) (suc (tick_after (events past))) (omega (arith, late, send.now)) in
        let whole : clock.begins u + (stream_row t s).maximum * clock.shortest ≤ clock.begins (tick_after (events past)) = no-less clock paced u (stream_row t s).maximum (tick_after (events past)) (omega (arith, inside, send.now)) in
        let one = alive.sends (clock.begins u) (rises clock paced 0 u (omega arith)) (omega (arith, recent, send.when.to)) (omega (arith, whole, fits.stream_maximums s there, send.when.from)) in
        omega (
          arith,
          one,
          count-ticks clock paced (ticked (stream_arrival t s) (events past)) (timed (stream_arrival t s) past) same u (us.stream_most s) (stream_row t s).maximum (fits.stream_maximums s there),
          ap (count_in u (stream_row t s).maximum) arrived,
        );
  }

  usable-ticks : (x s : ℕ) → IsSend t clock past e → AreUsableInTime t clock x s past e → AreUsable t x s (events past ++ e.1 ∷ [])
  usable-ticks x s send good =
      let Good : ℕ × (ℕ × ℕ) → Type 0 = λ a. tick_after (events past ++ e.1 ∷ []) - (label_row t x).stale ≤ a.0 → a.1.0 ≡ s → is_usable (label_row t x).format a.1.1 ≡ true in
      let same = ticked-timed (brought t (stream_row t s).bus) (λ _. refl) clock past placed in
      let all : All Good (ticked (brought t (stream_row t s).bus) (events past)) =
      All-weaker (λ a. Contains (ticked (brought t (stream_row t s).bus) (events past)) a) Good (λ a there late own.
      let r = time-of clock a.0 a.1 (ticked (brought t (stream_row t s).bus) (events past)) (timed (brought t (stream_row t s).bus) past) same there in
      let P : ℕ → Type 0 = λ z. Contains (timed (brought t (stream_row t s).bus) past) (r.0, (z, a.1.1)) in
      let old : clock.begins (suc (tick_after (events past))) ≤ clock.begins a.0 + ((label_row t x).stale + 1) * clock.longest = no-more clock paced a.0 ((label_row t x).stale + 1) (suc (tick_after (events past))) (omega (arith, late, send.now)) in
      good r.0 a.1.1 (subst P own r.1) (omega (arith, old, r.2.from, send.when.to))) (ticked (brought t (stream_row t s).bus) (events past)) (All-contains_itself (ticked (brought t (stream_row t s).bus) (events past))) in
      let Q : List (ℕ × (ℕ × ℕ)) → Type 0 = λ z. All Good z in
      subst Q (sym (came-now (stream_row t s).bus send)) all

  uses-first : (x : ℕ) → x < length t.labels → IsSend t clock past e → UsesFirst t x (events past ++ e.1 ∷ []) → UsesFirstInTime t us clock x past e
  uses-first x there send h alive good =
      h (alive-ticks x (get_or (label_row t x).sources 0 0) (valid.sources_there x 0 there (valid.sources_some x there)) send alive) (usable-ticks x (get_or (label_row t x).sources 0 0) send good)

  uses-any : (x : ℕ) → x < length t.labels → IsSend t clock past e → UsesAny t x (events past ++ e.1 ∷ []) → UsesAnyInTime t us clock x past e
  uses-any x there send h k l alive good =
      h k l (alive-ticks x (get_or (label_row t x).sources k 0) (valid.sources_there x k there l) send alive) (usable-ticks x (get_or (label_row t x).sources k 0) send good)

  -- ---- intervals

  last : (x : ℕ) → IsLastTime clock (last_or_zero (emission_ticks t x (events past))) (emission_times t x past)
  last x =
      let P : List ℕ → Type 0 = λ z. IsLastTime clock (last_or_zero z) (emission_times t x past) in
      subst P (sym (emissions-picked t x (events past))) (last-time clock (ticked (emits t x) (events past)) (timed (emits t x) past) (ticked-timed (emits t x) (emits-no_tick t x) clock past placed))

  in_time : (x : ℕ) → x < length t.labels → IsInTime t (events past) e.1 → e.0 ≤ last_or (clock.begins 0) (emission_times t x past) + us.label_most x
  in_time x there h =
      let l = last x in
      let wide : clock.begins (suc (tick_after (events past))) ≤ clock.begins (last_or_zero (emission_ticks t x (events past))) + ((label_row t x).maximum + 1) * clock.longest =
      no-more clock paced (last_or_zero (emission_ticks t x (events past))) ((label_row t x).maximum + 1) (suc (tick_after (events past))) (omega (arith, h x there)) in
      omega (arith, wide, fits.label_maximums x there, l.from, no_later clock (tick_after (events past)) e.0 e.1 here)

  between : (x : ℕ) → x < length t.labels → IsSend t clock past e → IsInTime t (events past) e.1 → (1 ≤ length (emission_ticks t x (events past)) → last_or_zero (emission_ticks t x (events past)) + (label_row t x).minimum ≤ tick_after (events past))
      → length (emission_ticks t x (events past)) ≡ length (emission_times t x past) → IsBetween us x (clock.begins 0) (emission_times t x past) e.0
  between x there send h spaced same =
      let l = last x in
      record {
        late_enough = λ some.
            let apart = spaced (omega (arith, some, same)) in
            let least = fits.label_minimums x there in
            let have : 1 ≤ (label_row t x).minimum = elim (cases_lt 0 (label_row t x).minimum) [
              | inl yes' ↦ yes'
              | inr none ↦ (let z : (label_row t x).minimum ≡ 0 = omega arith in absurd (omega (arith, least, paced.some, ap (λ n. n * clock.shortest) z)))
            ] in
            let wide : clock.begins (suc (last_or_zero (emission_ticks t x (events past)))) + ((label_row t x).minimum - 1) * clock.shortest ≤ clock.begins (tick_after (events past)) =
            no-less clock paced (suc (last_or_zero (emission_ticks t x (events past)))) ((label_row t x).minimum - 1) (tick_after (events past)) (omega (arith, apart, have)) in
            let back : (label_row t x).minimum - 1 + 1 ≡ (label_row t x).minimum = omega (arith, have) in
            let parts : ((label_row t x).minimum - 1 + 1) * clock.shortest ≡ (label_row t x).minimum * clock.shortest = ap (λ n. n * clock.shortest) back in
            omega (arith, wide, least, parts, l.to some, send.when.from);
        soon_enough =
            let wide : clock.begins (suc (tick_after (events past))) ≤ clock.begins (last_or_zero (emission_ticks t x (events past))) + ((label_row t x).maximum + 1) * clock.longest =
            no-more clock paced (last_or_zero (emission_ticks t x (events past))) ((label_row t x).maximum + 1) (suc (tick_after (events past))) (omega (arith, h x there)) in
            omega (arith, wide, fits.label_maximums x there, l.from, send.when.to);
      }

-- what leaves is a label of the tables
pub emitted : (t : TableRows) (past : List Event) (e : Event) (x : ℕ) → AreValid t → IsNumbered t e → emission t past e ≡ Some x → x < length t.labels
unfolding emission
emitted t past Tick x valid there is = absurd cc
emitted t past (Arrive w b) x valid there is = absurd cc
emitted t past (Route r) x valid there is = absurd cc
emitted t past (Send o) x valid there is =
    let some = valid.entries_some o there in
    let small : sent t o past % length (Rattle.dc_tables.specs.TableRows.output_row t o).entries < length (Rattle.dc_tables.specs.TableRows.output_row t o).entries = mod-lt (sent t o past) (omega arith) in
    let ok = valid.entries_labelled o (sent t o past % length (Rattle.dc_tables.specs.TableRows.output_row t o).entries) there small in
    elim (ltb (sent t o past) (sent t o (past ++ Send o ∷ []))) as (λ b. cond b (Some (entry_label t o (sent t o past))) None ≡ Some x → x < length t.labels) [
      | true ↦ λ is. (let e : entry_label t o (sent t o past) ≡ x = cc in omega (arith, ok.0))
      | false ↦ λ is. absurd cc
    ] is

pub All-back : {X : Type 0} (P : X → Type 0) (xs ys : List X) → All P (xs ++ ys) → All P ys
All-back P [] ys h = h
All-back P (x ∷ xs) ys h = All-back P xs ys (All-tail P x (xs ++ ys) h)

pub claims-keep_time : (t : TableRows) → AreValid t → (us : Intervals) (clock : Clock) → KeepsPace clock → FitsClock t us clock → (ages : List ℕ) (run : List (ℕ × Event)) → IsTimed clock run → IsRun t (events run) → ClaimsHold t ages (events run) → ClaimsHoldInTime t us ages clock run
claims-keep_time t valid us clock paced fits ages run timing numbers claims past rest e cut =
    let split : events run ≡ events past ++ (e.1 ∷ events rest) = ap (λ (z : List (ℕ × Event)). events z) cut ∙ map-append (λ (z : ℕ × Event). z.1) past (e ∷ rest) in
    let c = claims (events past) (events rest) e.1 split in
    let P : List Event → Type 0 = λ z. IsRun t z in
    let there : IsNumbered t e.1 = All-head (IsNumbered t) e.1 (events rest) (All-back (IsNumbered t) (events past) (e.1 ∷ events rest) (subst P split numbers)) in
    let many : (x : ℕ) → length (emission_ticks t x (events past)) ≡ length (emission_times t x past) = λ x.
    ap (λ (z : List ℕ). length z) (emissions-picked t x (events past)) ∙ as_many clock (ticked (emits t x) (events past)) (timed (emits t x) past) (ticked-timed (emits t x) (emits-no_tick t x) clock past (placed t valid us clock paced fits ages run timing past rest e cut)) in
    record {
      no_overrun = c.no_overrun;
      young = if_some (λ x. IsYoungInTime t x ((get_or ages x 0 + 1) * clock.longest) past e) (emission t (events past) e.1) (λ x is.
          ages_hold t valid us clock paced fits ages run timing past rest e cut x (get_or ages x 0) (sends t valid us clock paced fits ages run timing past rest e cut x is) (from_some (λ x. IsYoung t x (get_or ages x 0) (events past ++ e.1 ∷ [])) (emission t (events past) e.1) x is c.young));
      live = if_some (λ x. UsesFirstInTime t us clock x past e × UsesAnyInTime t us clock x past e) (emission t (events past) e.1) (λ x is.
          let send = sends t valid us clock paced fits ages run timing past rest e cut x is in
          let known = emitted t (events past) e.1 x valid there is in
          let held = from_some (λ x. UsesFirst t x (events past ++ e.1 ∷ []) × UsesAny t x (events past ++ e.1 ∷ [])) (emission t (events past) e.1) x is c.live in
          (uses-first t valid us clock paced fits ages run timing past rest e cut x known send held.0, uses-any t valid us clock paced fits ages run timing past rest e cut x known send held.1));
      in_time = λ x l. in_time t valid us clock paced fits ages run timing past rest e cut x l c.in_time;
      between = if_some (λ x. IsBetween us x (clock.begins 0) (emission_times t x past) e.0) (emission t (events past) e.1) (λ x is.
          between t valid us clock paced fits ages run timing past rest e cut x (emitted t (events past) e.1 x valid there is) (sends t valid us clock paced fits ages run timing past rest e cut x is) c.in_time
          (from_some (λ x. 1 ≤ length (emission_ticks t x (events past)) → last_or_zero (emission_ticks t x (events past)) + (label_row t x).minimum ≤ tick_after (events past)) (emission t (events past) e.1) x is c.spaced) (many x));
    }
