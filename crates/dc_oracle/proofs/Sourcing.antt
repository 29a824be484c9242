-- One more event keeps what is carried of the sources.
use Rattle.std.proofs.Common.{◌≡◌, ℕ, suc, ◌+◌, ◌*◌, ◌/◌, ◌≤◌, ◌<◌, Bool, true, false, ltb, Option, Some, None, List, [], ◌∷◌, ◌++◌, length, get_or, set, refl, sym, ap, ◌∙◌, subst, arith, inl, inr}
use Rattle.std.proofs.lemmas.List.{get_or-set_same, get_or-set_other}
use Rattle.std.proofs.lemmas.Bool.{cases_lt, cases_eq, le-leb, lt-leb, lt-ltb, le-ltb}
use Rattle.dc_bound.specs.Window.{HoldAtMost, count_in, ticks_of}
use Rattle.dc_bound.specs.Run.{ticks}
use Rattle.dc_bound.specs.lemmas.Counts.{count_in-nil}
use Rattle.dc_word.specs.Word.{is_odd}
use Rattle.dc_tables.specs.Declares.{stream_of}
use Rattle.dc_tables.specs.TableRows.{TableRows, AreValid, bus_row, stream_row, is_policed}
use Rattle.dc_tables.specs.declared.rows.Stream.{Stream}
use Rattle.dc_event.specs.Time.{ends, tick_after}
use Rattle.dc_event.specs.Buses.{bus_arrivals, arrivals, arrival_of}
use Rattle.dc_event.specs.Admissible.{KeepsSources}
use Rattle.dc_event.specs.lemmas.RunPush.{tick-push}
use Rattle.dc_event.specs.lemmas.BudgetsPush.{rest-same, calm}
use Rattle.dc_event.specs.Offers.{only, cap_of, refuses_early}
use Rattle.dc_event.specs.lemmas.Arrivals.{arrival_on, refuses_early-none, stream_of-there, even-none, elsewhere-none, undeclared-none, arrival-here, arrival-own, arrival-others, arrivals-nil, bus_arrivals-nil, arrivals-other, bus_arrivals-other, arrivals-push, bus_arrivals-push, bus_arrivals-none_later, stream_rests-push, wire_rests-push}
use Rattle.dc_event.specs.declared.event.Event.{Event}
use Rattle.dc_event.specs.declared.event.Event.TheVariants.{Tick, Arrive}
use Rattle.dc_oracle.specs.declared.wire.WireLoad.{WireLoad}
use Rattle.dc_oracle.specs.declared.sources.SourceWatch.{SourceWatch}
use Rattle.dc_oracle.specs.declared.pace.Pace.{Pace}
use Rattle.dc_oracle.specs.Pace.{left, is_early_at, moved, IsPaceOf, no_pace}
use Rattle.dc_bound.specs.Early.{HoldsCap, pace_of}
use Rattle.dc_bound.specs.lemmas.Pacing.{pace_of-nil, pace_of-push}
use Rattle.dc_oracle.specs.WireLoad.{left_us, can_carry, loaded, IsLoad, no_load}
use Rattle.dc_oracle.specs.Fresh.{AllMade}
use Rattle.dc_oracle.specs.Sources.{Watches, Seen}
use Rattle.dc_oracle.proofs.Wires.{load-same, load-tick, load-push, free-start, has-room, lacks-room}

-- ---- paces

pub pace-same : (m k n : ℕ) (ts us : List ℕ) (p : Pace) → k ≤ n → us ≡ ts → IsPaceOf m k ts p → IsPaceOf m n us p
pace-same m k n ts us p le same h = record { past = omega (arith, h.past); number = ap (pace_of m) same ∙ h.number }

-- by it, a word is early exactly where it is by the pace's number
pub pace-test : (m j k : ℕ) (ts : List ℕ) (p : Pace) → IsPaceOf m k ts p → is_early_at j k p ≡ ltb (k + j) (pace_of m ts)
pace-test m j k ts p h =
    elim (cases_lt (k + j) (pace_of m ts)) [
      | inl early ↦ lt-ltb j (left k p) (omega (arith, h.past, h.number)) ∙ sym (lt-ltb (k + j) (pace_of m ts) early)
      | inr late ↦ le-ltb j (left k p) (omega (arith, h.past, h.number)) ∙ sym (le-ltb (k + j) (pace_of m ts) late)
    ]

pub pace-push : (m k : ℕ) (ts : List ℕ) (p : Pace) → IsPaceOf m k ts p → IsPaceOf m k (ts ++ (k ∷ [])) (moved m k p)
pace-push m k ts p h = record { past = omega arith; number = omega (arith, pace_of-push m ts k, h.past, h.number) }

-- ---- an event that is no arrival

-- no bus of the tables that is not policed has an arrival
abbrev pub IsQuiet : TableRows → List Event → Event → Type 0
IsQuiet t run e = (b : ℕ) → b < length t.buses → is_policed t b ≡ false → arrival_of t b run e ≡ None

only_none : (s : ℕ) (o : Option ℕ) → o ≡ None → only s o ≡ None
only_none s o h = ap (only s) h

module _ (t : TableRows) (v : AreValid t) (run : List Event) (e : Event) (quiet : IsQuiet t run e) where
  quiet_stream : (s : ℕ) → s < length t.streams → is_policed t (stream_row t s).bus ≡ false → ticks_of (arrivals t s (run ++ e ∷ [])) ≡ ticks_of (arrivals t s run)
  quiet_stream s l free = arrivals-other t s run e (only_none s _ (quiet (stream_row t s).bus (v.streams_on_buses s l) free))

  quiet_bus : (b : ℕ) → b < length t.buses → is_policed t b ≡ false → ticks_of (bus_arrivals t b (run ++ e ∷ [])) ≡ ticks_of (bus_arrivals t b run)
  quiet_bus b l free = bus_arrivals-other t b run e (quiet b l free)

  quiet_kept : KeepsSources t run → KeepsSources t (run ++ e ∷ [])
  quiet_kept k = record {
    streams_rest = λ s l free d. rest-same _ _ _ _ (quiet_stream s l free) (k.streams_rest s l free d);
    wires_rest = λ b l free d some. rest-same _ _ _ _ (quiet_bus b l free) (k.wires_rest b l free d some);
  }

  pub watches-quiet : (w : SourceWatch) → ends e ≡ 0 → Watches t w run → Watches t w (run ++ e ∷ [])
  watches-quiet w c h = record {
    kept = quiet_kept h.kept;
    clock = h.clock ∙ sym (calm run e c);
    paces = λ s l free. pace-same (stream_row t s).minimum _ _ _ _ _ (omega (arith, calm run e c)) (quiet_stream s l free) (h.paces s l free);
    loads = λ b l free. load-same t.tick_us (bus_row t b).spacing _ _ _ _ _ (calm run e c) (quiet_bus b l free) (h.loads b l free);
  }

-- ---- a Tick

pub watches-tick : (t : TableRows) (v : AreValid t) (run : List Event) (w new : SourceWatch) → new.tick ≡ w.tick + 1 → new.streams ≡ w.streams → new.wires ≡ w.wires → Watches t w run → Watches t new (run ++ Tick ∷ [])
watches-tick t v run w new ticked same_streams same_wires h =
    let n : tick_after (run ++ Tick ∷ []) ≡ suc (tick_after run) = omega (arith, tick-push run Tick) in
    let quiet : IsQuiet t run Tick = λ b l free. refl in
    record {
      kept = quiet_kept t v run Tick quiet h.kept;
      clock = omega (arith, h.clock, n);
      paces = λ s l free. (
          let P : Pace → Type 0 = λ p. IsPaceOf (stream_row t s).minimum (tick_after (run ++ Tick ∷ [])) (ticks_of (arrivals t s (run ++ Tick ∷ []))) p in
          subst P (sym (ap (λ x. get_or x.items s no_pace) same_streams))
          (pace-same (stream_row t s).minimum _ _ _ _ _ (omega (arith, n)) (quiet_stream t v run Tick quiet s l free) (h.paces s l free)));
      loads = λ b l free. (
          let P : WireLoad → Type 0 = λ w. IsLoad t.tick_us (bus_row t b).spacing (tick_after (run ++ Tick ∷ [])) (ticks_of (bus_arrivals t b (run ++ Tick ∷ []))) w in
          subst P (sym (ap (λ x. get_or x.items b no_load) same_wires))
          (load-same t.tick_us (bus_row t b).spacing _ _ _ _ _ n (quiet_bus t v run Tick quiet b l free) (load-tick t.tick_us (bus_row t b).spacing _ _ _ (bus_arrivals-none_later t b run) (h.loads b l free))));
    }

-- ---- no events

no_ticks : tick_after [] ≡ 0
unfolding ticks
no_ticks = refl

nothing-kept : (t : TableRows) → KeepsSources t []
nothing-kept t = record {
  streams_rest = λ s l free d u. omega (arith, ap (λ z. count_in u d z) (arrivals-nil t s), count_in-nil u d);
  wires_rest = λ b l free d some u. omega (arith, ap (λ z. count_in u d z) (bus_arrivals-nil t b), count_in-nil u d);
}

pub pace-new : (m k : ℕ) (ts : List ℕ) → ts ≡ [] → IsPaceOf m k ts no_pace
pace-new m k ts none = record { past = omega arith; number = ap (pace_of m) none ∙ pace_of-nil m }

pub watches-nothing : (t : TableRows) (w : SourceWatch) → w.tick ≡ 0 → AllMade (λ _. no_pace) no_pace (length t.streams) w.streams.items → AllMade (λ _. no_load) no_load (length t.buses) w.wires.items → Watches t w []
watches-nothing t w start streams wires = record {
  kept = nothing-kept t;
  clock = start ∙ sym no_ticks;
  paces = λ s l free. (
      let P : Pace → Type 0 = λ p. IsPaceOf (stream_row t s).minimum (tick_after []) (ticks_of (arrivals t s [])) p in
      subst P (sym (streams.1 s l)) (pace-new (stream_row t s).minimum (tick_after []) _ (arrivals-nil t s)));
  loads = λ b l free. (
      let P : WireLoad → Type 0 = λ w. IsLoad t.tick_us (bus_row t b).spacing (tick_after []) (ticks_of (bus_arrivals t b [])) w in
      subst P (sym (wires.1 b l)) (load-same t.tick_us (bus_row t b).spacing 0 _ [] _ no_load no_ticks (bus_arrivals-nil t b) (free-start t.tick_us (bus_row t b).spacing)));
}

-- ---- which events are arrivals

pub quiet_even : (t : TableRows) (run : List Event) (a w : ℕ) → is_odd w ≡ false → IsQuiet t run (Arrive w a)
quiet_even t run a w h = λ b l free. even-none t run a w h b

pub quiet_unknown : (t : TableRows) (run : List Event) (a w : ℕ) → length t.buses ≤ a → IsQuiet t run (Arrive w a)
quiet_unknown t run a w h = λ b l free. elsewhere-none t run a w b (λ e. omega (arith, e))

pub quiet_undeclared : (t : TableRows) (run : List Event) (a w : ℕ) → stream_of t a w ≡ None → IsQuiet t run (Arrive w a)
quiet_undeclared t run a w h = λ b l free. undeclared-none t run a w h b

-- a word of a policed bus concerns no other
pub quiet_policed : (t : TableRows) (run : List Event) (a w : ℕ) → is_policed t a ≡ true → IsQuiet t run (Arrive w a)
quiet_policed t run a w h = λ b l free. elim (cases_eq a b) [
  | inl same ↦ absurd (let both : true ≡ false = sym h ∙ ap (is_policed t) same ∙ free in cc)
  | inr other ↦ elsewhere-none t run a w b other
]

-- ---- an arrival

-- a word of the stream s of the bus a, which is not policed
pub record IsArrival (t : TableRows) (a w s : ℕ) : Type 0 where
  pub bus_there : a < length t.buses
  pub odd : is_odd w ≡ true
  pub declared : stream_of t a w ≡ Some s
  pub free : is_policed t a ≡ false

module _ (t : TableRows) (v : AreValid t) (run : List Event) (a w s : ℕ) (is : IsArrival t a w s) where
  let_in_here : refuses_early t a run (Some s) ≡ false
  let_in_here = refuses_early-none t a run (Some s) is.free

  here : arrival_of t a run (Arrive w a) ≡ Some s
  here = arrival-here t run a w s is.odd is.declared let_in_here

  own : (s < length t.streams) × ((stream_row t s).bus ≡ a)
  own = stream_of-there t a w s is.declared

  here_stream : arrival_on t s run (Arrive w a) ≡ Some s
  here_stream = arrival-own t run a w s is.odd is.declared let_in_here

  own_free : is_policed t (stream_row t s).bus ≡ false
  own_free = ap (is_policed t) own.1 ∙ is.free

  other_stream : (k : ℕ) → (s ≡ k → ⊥) → arrival_on t k run (Arrive w a) ≡ None
  other_stream k other = arrival-others t run a w s is.odd is.declared let_in_here k other

  minimum_some : 1 ≤ (stream_row t s).minimum
  minimum_some = v.minimums s own.0

  abbrev number : ℕ
  number = pace_of (stream_row t s).minimum (ticks_of (arrivals t s run))

  -- the stream comes too soon
  pub stream-breaks : KeepsSources t run → ltb (tick_after run + (stream_row t s).jitter) number ≡ true → KeepsSources t (run ++ Arrive w a ∷ []) → ⊥
  stream-breaks kept soon k =
      let late = (stream_rests-push t s s run (Arrive w a) minimum_some here_stream (kept.streams_rest s own.0 own_free)).1 (k.streams_rest s own.0 own_free) in
      let both : true ≡ false = sym soon ∙ late in cc

  -- the wire carries too many
  pub wire-breaks : (load : WireLoad) → IsLoad t.tick_us (bus_row t a).spacing (tick_after run) (ticks_of (bus_arrivals t a run)) load → t.tick_us < left_us t.tick_us (tick_after run) load → KeepsSources t (run ++ Arrive w a ∷ []) → ⊥
  wire-breaks load h full k =
      let l = lacks-room t.tick_us (bus_row t a).spacing (tick_after run) (ticks_of (bus_arrivals t a run)) load (v.spacings a is.bus_there) (bus_arrivals-none_later t a run) h full in
      let r = (wire_rests-push t a s (l.0 * t.tick_us / (bus_row t a).spacing + 1) l.0 run (Arrive w a) l.1 here).0 (k.wires_rest a is.bus_there is.free l.0 l.1) in
      omega (arith, r.1, l.2)

  -- neither
  kept-arrival : (load : WireLoad) → IsLoad t.tick_us (bus_row t a).spacing (tick_after run) (ticks_of (bus_arrivals t a run)) load → left_us t.tick_us (tick_after run) load ≤ t.tick_us
      → ltb (tick_after run + (stream_row t s).jitter) number ≡ false → KeepsSources t run → KeepsSources t (run ++ Arrive w a ∷ [])
  kept-arrival load h room rested k = record {
    streams_rest = λ x l free. elim (cases_eq s x) [
      | inl same ↦
          let P : ℕ → Type 0 = λ x. HoldsCap (cap_of t x) (ticks_of (arrivals t x (run ++ Arrive w a ∷ []))) in
          subst P same ((stream_rests-push t s s run (Arrive w a) minimum_some here_stream (k.streams_rest s own.0 own_free)).0 rested)
      | inr other ↦ λ d. rest-same _ _ _ _ (arrivals-other t x run (Arrive w a) (other_stream x other)) (k.streams_rest x l free d)
    ];
    wires_rest = λ b l free d some. elim (cases_eq a b) [
      | inl same ↦
          let P : ℕ → Type 0 = λ b. HoldAtMost (d * t.tick_us / (bus_row t b).spacing + 1) d (ticks_of (bus_arrivals t b (run ++ Arrive w a ∷ []))) in
          subst P same ((wire_rests-push t a s (d * t.tick_us / (bus_row t a).spacing + 1) d run (Arrive w a) some here).1
          (k.wires_rest a is.bus_there is.free d some, has-room t.tick_us (bus_row t a).spacing (tick_after run) (ticks_of (bus_arrivals t a run)) load (v.spacings a is.bus_there) (bus_arrivals-none_later t a run) h room d some))
      | inr other ↦ rest-same _ _ _ _ (bus_arrivals-other t b run (Arrive w a) (elsewhere-none t run a w b other)) (k.wires_rest b l free d some)
    ];
  }

  pub watches-arrival : (old new : SourceWatch) (pace : Pace) (load : WireLoad) → Watches t old run
      → length old.streams.items ≡ length t.streams → length old.wires.items ≡ length t.buses
      → new.tick ≡ old.tick → new.streams.items ≡ set old.streams.items s pace → new.wires.items ≡ set old.wires.items a load
      → pace ≡ moved (stream_row t s).minimum old.tick (get_or old.streams.items s no_pace) → load ≡ loaded t.tick_us (bus_row t a).spacing old.tick (get_or old.wires.items a no_load)
      → ltb (tick_after run + (stream_row t s).jitter) number ≡ false → left_us t.tick_us old.tick (get_or old.wires.items a no_load) ≤ t.tick_us
      → Watches t new (run ++ Arrive w a ∷ [])
  watches-arrival old new pace load h streams_sized wires_sized same_tick streams wires pace_is load_is rested room =
      let still : tick_after (run ++ Arrive w a ∷ []) ≡ tick_after run = calm run (Arrive w a) refl in
      let P : ℕ → Type 0 = λ n. left_us t.tick_us n (get_or old.wires.items a no_load) ≤ t.tick_us in
      let Q : ℕ → Type 0 = λ n. load ≡ loaded t.tick_us (bus_row t a).spacing n (get_or old.wires.items a no_load) in
      let room' : left_us t.tick_us (tick_after run) (get_or old.wires.items a no_load) ≤ t.tick_us = subst P h.clock room in
      let load' : load ≡ loaded t.tick_us (bus_row t a).spacing (tick_after run) (get_or old.wires.items a no_load) = subst Q h.clock load_is in
      record {
        kept = kept-arrival (get_or old.wires.items a no_load) (h.loads a is.bus_there is.free) room' rested h.kept;
        clock = same_tick ∙ h.clock ∙ sym still;
        paces = λ x l free. elim (cases_eq s x) [
          | inl same ↦
              let R : ℕ → Type 0 = λ x. IsPaceOf (stream_row t x).minimum (tick_after (run ++ Arrive w a ∷ [])) (ticks_of (arrivals t x (run ++ Arrive w a ∷ []))) (get_or new.streams.items x no_pace) in
              let S : Pace → Type 0 = λ p. IsPaceOf (stream_row t s).minimum (tick_after (run ++ Arrive w a ∷ [])) (ticks_of (arrivals t s (run ++ Arrive w a ∷ []))) p in
              let T : ℕ → Type 0 = λ n. pace ≡ moved (stream_row t s).minimum n (get_or old.streams.items s no_pace) in
              let pace' : pace ≡ moved (stream_row t s).minimum (tick_after run) (get_or old.streams.items s no_pace) = subst T h.clock pace_is in
              subst R same (subst S (sym (ap (λ xs. get_or xs s no_pace) streams ∙ get_or-set_same old.streams.items s pace no_pace (omega (arith, own.0)) ∙ pace'))
              (pace-same (stream_row t s).minimum (tick_after run) _ _ _ _ (omega (arith, still)) (arrivals-push t s s run (Arrive w a) here_stream) (pace-push (stream_row t s).minimum (tick_after run) (ticks_of (arrivals t s run)) (get_or old.streams.items s no_pace) (h.paces s own.0 own_free))))
          | inr other ↦
              let ne : x ≡ s → ⊥ = λ e. other (sym e) in
              let S : Pace → Type 0 = λ p. IsPaceOf (stream_row t x).minimum (tick_after (run ++ Arrive w a ∷ [])) (ticks_of (arrivals t x (run ++ Arrive w a ∷ []))) p in
              subst S (sym (ap (λ xs. get_or xs x no_pace) streams ∙ get_or-set_other old.streams.items s x pace no_pace ne))
              (pace-same (stream_row t x).minimum (tick_after run) _ _ _ _ (omega (arith, still)) (arrivals-other t x run (Arrive w a) (other_stream x other)) (h.paces x l free))
        ];
        loads = λ b l free. elim (cases_eq a b) [
          | inl same ↦
              let R : ℕ → Type 0 = λ b. IsLoad t.tick_us (bus_row t b).spacing (tick_after (run ++ Arrive w a ∷ [])) (ticks_of (bus_arrivals t b (run ++ Arrive w a ∷ []))) (get_or new.wires.items b no_load) in
              let S : WireLoad → Type 0 = λ x. IsLoad t.tick_us (bus_row t a).spacing (tick_after (run ++ Arrive w a ∷ [])) (ticks_of (bus_arrivals t a (run ++ Arrive w a ∷ []))) x in
              subst R same (subst S (sym (ap (λ xs. get_or xs a no_load) wires ∙ get_or-set_same old.wires.items a load no_load (omega (arith, is.bus_there)) ∙ load'))
              (load-same t.tick_us (bus_row t a).spacing _ _ _ _ _ still (bus_arrivals-push t a s run (Arrive w a) here) (load-push t.tick_us (bus_row t a).spacing (tick_after run) (ticks_of (bus_arrivals t a run)) (get_or old.wires.items a no_load) (h.loads a is.bus_there is.free))))
          | inr other ↦
              let ne : b ≡ a → ⊥ = λ e. other (sym e) in
              let S : WireLoad → Type 0 = λ x. IsLoad t.tick_us (bus_row t b).spacing (tick_after (run ++ Arrive w a ∷ [])) (ticks_of (bus_arrivals t b (run ++ Arrive w a ∷ []))) x in
              subst S (sym (ap (λ xs. get_or xs b no_load) wires ∙ get_or-set_other old.wires.items a b load no_load ne))
              (load-same t.tick_us (bus_row t b).spacing _ _ _ _ _ still (bus_arrivals-other t b run (Arrive w a) (elsewhere-none t run a w b other)) (h.loads b l free))
        ];
      }

  -- what the tests say of it
  pub rested-test : (old : SourceWatch) (early : Bool) (pace : Pace) (row : Stream) → Watches t old run → row ≡ stream_row t s → pace ≡ get_or old.streams.items s no_pace
      → early ≡ is_early_at row.jitter old.tick pace → early ≡ ltb (tick_after run + (stream_row t s).jitter) number
  rested-test old early pace row h row_is pace_is test =
      test ∙ ap (λ (r : Stream). is_early_at r.jitter old.tick pace) row_is
      ∙ ap (λ p. is_early_at (stream_row t s).jitter old.tick p) pace_is
      ∙ ap (λ n. is_early_at (stream_row t s).jitter n (get_or old.streams.items s no_pace)) h.clock
      ∙ pace-test (stream_row t s).minimum (stream_row t s).jitter (tick_after run) (ticks_of (arrivals t s run)) (get_or old.streams.items s no_pace) (h.paces s own.0 own_free)

  pub seen-arrival : (old new : SourceWatch) (pace : Pace) (load : WireLoad) (carried : Bool) → Watches t old run
      → length old.streams.items ≡ length t.streams → length old.wires.items ≡ length t.buses
      → new.tick ≡ old.tick → new.streams.items ≡ set old.streams.items s pace → new.wires.items ≡ set old.wires.items a load
      → pace ≡ moved (stream_row t s).minimum old.tick (get_or old.streams.items s no_pace) → carried ≡ can_carry t.tick_us old.tick (get_or old.wires.items a no_load)
      → (carried ≡ true → load ≡ loaded t.tick_us (bus_row t a).spacing old.tick (get_or old.wires.items a no_load))
      → ltb (tick_after run + (stream_row t s).jitter) number ≡ false
      → Seen t new run (Arrive w a) carried
  seen-arrival old new pace load carried h streams_sized wires_sized same_tick streams wires pace_is test load_is rested =
      let P : Bool → Type 0 = λ b. Seen t new run (Arrive w a) b in
      elim (cases_lt t.tick_us (left_us t.tick_us old.tick (get_or old.wires.items a no_load))) [
        | inl full ↦
            let Q : ℕ → Type 0 = λ n. t.tick_us < left_us t.tick_us n (get_or old.wires.items a no_load) in
            subst P (sym (test ∙ lt-leb _ _ full)) (wire-breaks (get_or old.wires.items a no_load) (h.loads a is.bus_there is.free) (subst Q h.clock full))
        | inr room ↦
            let yes' : carried ≡ true = test ∙ le-leb _ _ room in
            subst P (sym yes') (watches-arrival old new pace load h streams_sized wires_sized same_tick streams wires pace_is (load_is yes') rested room)
      ]
