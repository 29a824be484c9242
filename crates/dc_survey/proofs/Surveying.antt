-- One more word keeps what a survey stands for.
use Rattle.std.proofs.Common.{◌≡◌, ◌≢◌, ℕ, ◌+◌, ◌-◌, ◌≤◌, ◌<◌, ◌^◌, ◌==◌, min, Bool, true, false, Some, None, List, [], ◌∷◌, ◌++◌, length, get_or, set, refl, sym, ap, ◌∙◌, subst, arith, inl, inr}
use Rattle.std.specs.Prelude.{count_by}
use Rattle.std.proofs.lemmas.List.{get_or-set_same, get_or-set_other}
use Rattle.std.proofs.lemmas.List.Sums.{count_by-le-length}
use Rattle.std.proofs.lemmas.Bool.{cases_eq, ne_eqb, eq-eqb}
use Rattle.dc_bound.specs.Window.{ticks_of}
use Rattle.dc_bound.specs.Turns.{NeverFall}
use Rattle.dc_bound.specs.lemmas.Earliness.{none_later-rise}
use Rattle.dc_bound.specs.lemmas.Pacing.{in_order-push}
use Rattle.dc_word.specs.Word.{is_odd}
use Rattle.dc_tables.specs.Declares.{stream_of}
use Rattle.dc_tables.specs.TableRows.{TableRows, bus_row}
use Rattle.dc_gauge.specs.Times.{last_time}
use Rattle.dc_gauge.specs.Gauges.{IsStreamGauge, IsWireGauge}
use Rattle.dc_gauge.specs.Steps.{no_stream_words}
use Rattle.dc_gauge.specs.declared.stream.StreamGauge.{StreamGauge}
use Rattle.dc_gauge.specs.declared.wire.WireGauge.{WireGauge}
use Rattle.dc_gauge.specs.lemmas.StreamSteps.{stream-new}
use Rattle.dc_gauge.specs.lemmas.WireSteps.{wire-new}
use Rattle.dc_gauge.specs.lemmas.OneMore.{last_none_later, length-push}
use Rattle.dc_survey.specs.Captures.{picked, of_stream, offered_on, even_on, undeclared_on}
use Rattle.dc_survey.specs.Surveys.{no_timing, no_bus_words, IsSized, IsBusGauge, Surveys, AllMade}
use Rattle.dc_survey.specs.lemmas.Picking.{picked-nil, picked-push, picked-other, capture_times-push, picked-last, picked-few, counted-push}
use Rattle.dc_survey.specs.declared.survey.Survey.{Survey}
use Rattle.dc_survey.specs.declared.bus_gauge.BusGauge.{BusGauge}

-- a list with one part changed
pub set-each : {X : Type 0} (P : ℕ → X → Type 0) (xs : List X) (k : ℕ) (x d : X) → k < length xs → P k x → ((s : ℕ) → s < length xs → k ≢ s → P s (get_or xs s d)) → (s : ℕ) → s < length xs → P s (get_or (set xs k x) s d)
set-each P xs k x d there here others s l =
    elim (cases_eq k s) [
      | inl mine ↦ subst (λ s. P s (get_or (set xs k x) s d)) mine (let R = P k in subst R (sym (get_or-set_same xs k x d there)) here)
      | inr other ↦ (let ne : s ≡ k → ⊥ = λ e. other (sym e) in let R = P s in subst R (sym (get_or-set_other xs k s x d ne)) (others s l other))
    ]

-- ---- before any word

empty_order : NeverFall []
unfolding NeverFall
empty_order = tt

pub surveys-nothing : (t : TableRows) (w : Survey) → w.line ≡ 0 → AllMade (λ _. no_stream_words) no_stream_words (length t.streams) w.streams.items → AllMade (λ _. no_bus_words) no_bus_words (length t.buses) w.buses.items → Surveys t [] w
surveys-nothing t w line streams buses = record {
  order = empty_order;
  line = line;
  streams = λ s l. rw (streams.1 s l, picked-nil (of_stream t s)) (stream-new (get_or w.timings.items s no_timing));
  buses = λ b l. rw (buses.1 b l) (record { wire = rw (picked-nil (offered_on t b)) (wire-new (bus_row t b).spacing); parity = refl; undeclared = refl });
}

-- ---- one more word

module _ (t : TableRows) (old new : Survey) (capture : List (ℕ × (ℕ × ℕ))) (time b w : ℕ) (h : Surveys t capture old) (later : last_time (ticks_of capture) ≤ time) (few : length capture < 2 ^ 64 - 1)
    (lined : new.line ≡ min (old.line + 1) (2 ^ 64 - 1)) (same : new.timings ≡ old.timings) where
  word : ℕ × (ℕ × ℕ)
  word = (time, (b, w))

  ordered : NeverFall (ticks_of (capture ++ (time, (b, w)) ∷ []))
  ordered = rw (capture_times-push capture (time, (b, w))) (in_order-push (ticks_of capture) time h.order (none_later-rise (last_time (ticks_of capture)) time (ticks_of capture) later (last_none_later (ticks_of capture) h.order)))

  numbered : new.line ≡ length (capture ++ (time, (b, w)) ∷ [])
  numbered = omega (arith, lined, h.line, length-push capture (time, (b, w)))

  -- the gauge of a stream, in the new survey's timings
  abbrev IsNow : ℕ → StreamGauge → Type 0
  IsNow s g = IsStreamGauge (get_or new.timings.items s no_timing) (picked (of_stream t s) (capture ++ (time, (b, w)) ∷ [])) g

  stream-other : (s : ℕ) → s < length t.streams → of_stream t s (time, (b, w)) ≡ false → IsNow s (get_or old.streams.items s no_stream_words)
  stream-other s l miss = rw (picked-other (of_stream t s) capture (time, (b, w)) miss, same) (h.streams s l)

  bus-other : (a : ℕ) → a < length t.buses → b ≢ a → IsBusGauge t a (capture ++ (time, (b, w)) ∷ []) (get_or old.buses.items a no_bus_words)
  bus-other a l other =
      let g = h.buses a l in
      let miss : (b == a) ≡ false = ne_eqb b a other in
      record {
        wire = rw (picked-other (offered_on t a) capture (time, (b, w)) (rw miss refl)) g.wire;
        parity = g.parity ∙ sym (counted-push (even_on a) capture (time, (b, w)) ∙ rw miss (omega arith));
        undeclared = g.undeclared ∙ sym (counted-push (undeclared_on t a) capture (time, (b, w)) ∙ rw miss (omega arith));
      }

  mine : (b == b) ≡ true
  mine = eq-eqb b b refl

  one : (n : ℕ) (p : ℕ × (ℕ × ℕ) → Bool) → n ≡ count_by p capture → min (n + 1) (2 ^ 64 - 1) ≡ n + 1
  one n p e = omega (arith, count_by-le-length p capture)

  all-same : new.streams ≡ old.streams → ((s : ℕ) → of_stream t s (time, (b, w)) ≡ false) → (s : ℕ) → s < length t.streams → IsNow s (get_or new.streams.items s no_stream_words)
  all-same e miss s l = rw e (stream-other s l (miss s))

  buses-from : (g : BusGauge) → new.buses.items ≡ set old.buses.items b g → length old.buses.items ≡ length t.buses → b < length t.buses → IsBusGauge t b (capture ++ (time, (b, w)) ∷ []) g → (a : ℕ) → a < length t.buses → IsBusGauge t a (capture ++ (time, (b, w)) ∷ []) (get_or new.buses.items a no_bus_words)
  buses-from g e sized there here a l = rw e (set-each (λ a g. IsBusGauge t a (capture ++ (time, (b, w)) ∷ []) g) old.buses.items b g no_bus_words (omega arith) here (λ s k ne. bus-other s (omega arith) ne) a (omega arith))

  pub even-word : is_odd w ≡ false → new.streams ≡ old.streams → length old.buses.items ≡ length t.buses → b < length t.buses → (g : BusGauge) → g ≡ get_or old.buses.items b no_bus_words
      → new.buses.items ≡ set old.buses.items b (record { wire = g.wire; parity = min (g.parity + 1) (2 ^ 64 - 1); undeclared = g.undeclared }) → Surveys t (capture ++ (time, (b, w)) ∷ []) new
  even-word even streams sized there g read buses =
      let P : BusGauge → Type 0 = λ g. IsBusGauge t b capture g in
      let was : IsBusGauge t b capture g = subst P (sym read) (h.buses b there) in
      record {
        order = ordered;
        line = numbered;
        streams = all-same streams (λ s. rw even refl);
        buses = buses-from (record { wire = g.wire; parity = min (g.parity + 1) (2 ^ 64 - 1); undeclared = g.undeclared }) buses sized there (record {
          wire = rw (picked-other (offered_on t b) capture (time, (b, w)) (rw (mine, even) refl)) was.wire;
          parity = one g.parity (even_on b) was.parity ∙ ap (λ n. n + 1) was.parity ∙ sym (counted-push (even_on b) capture (time, (b, w)) ∙ rw (mine, even) refl);
          undeclared = was.undeclared ∙ sym (counted-push (undeclared_on t b) capture (time, (b, w)) ∙ rw (mine, even) (omega arith));
        });
      }

  pub undeclared-word : is_odd w ≡ true → stream_of t b w ≡ None → new.streams ≡ old.streams → length old.buses.items ≡ length t.buses → b < length t.buses → (g : BusGauge) → g ≡ get_or old.buses.items b no_bus_words
      → new.buses.items ≡ set old.buses.items b (record { wire = g.wire; parity = g.parity; undeclared = min (g.undeclared + 1) (2 ^ 64 - 1) }) → Surveys t (capture ++ (time, (b, w)) ∷ []) new
  undeclared-word odd none streams sized there g read buses =
      let P : BusGauge → Type 0 = λ g. IsBusGauge t b capture g in
      let was : IsBusGauge t b capture g = subst P (sym read) (h.buses b there) in
      record {
        order = ordered;
        line = numbered;
        streams = all-same streams (λ s. rw (odd, none) refl);
        buses = buses-from (record { wire = g.wire; parity = g.parity; undeclared = min (g.undeclared + 1) (2 ^ 64 - 1) }) buses sized there (record {
          wire = rw (picked-other (offered_on t b) capture (time, (b, w)) (rw (mine, odd, none) refl)) was.wire;
          parity = was.parity ∙ sym (counted-push (even_on b) capture (time, (b, w)) ∙ rw (mine, odd) (omega arith));
          undeclared = one g.undeclared (undeclared_on t b) was.undeclared ∙ ap (λ n. n + 1) was.undeclared ∙ sym (counted-push (undeclared_on t b) capture (time, (b, w)) ∙ rw (mine, odd, none) refl);
        });
      }

  pub offered-word : (k : ℕ) → is_odd w ≡ true → stream_of t b w ≡ Some k → k < length t.streams → IsSized t old → b < length t.buses → (g : BusGauge) → g ≡ get_or old.buses.items b no_bus_words
      → (wire : WireGauge) → ((came : List (ℕ × ℕ)) → IsWireGauge (bus_row t b).spacing came g.wire → last_time (ticks_of came) ≤ time → length came < 2 ^ 64 - 1 → IsWireGauge (bus_row t b).spacing (came ++ (time, new.line) ∷ []) wire)
      → new.buses.items ≡ set old.buses.items b (record { wire = wire; parity = g.parity; undeclared = g.undeclared })
      → (stream : StreamGauge) → ((came : List (ℕ × ℕ)) → IsStreamGauge (get_or old.timings.items k no_timing) came (get_or old.streams.items k no_stream_words) → last_time (ticks_of came) ≤ time → length came < 2 ^ 64 - 1 → IsStreamGauge (get_or old.timings.items k no_timing) (came ++ (time, new.line) ∷ []) stream)
      → new.streams.items ≡ set old.streams.items k stream → Surveys t (capture ++ (time, (b, w)) ∷ []) new
  offered-word k odd some known sized there g read wire takes buses stream steps streams =
      let P : BusGauge → Type 0 = λ g. IsBusGauge t b capture g in
      let was : IsBusGauge t b capture g = subst P (sym read) (h.buses b there) in
      let at : new.line ≡ 1 + length capture = omega (arith, numbered, length-push capture (time, (b, w))) in
      record {
        order = ordered;
        line = numbered;
        streams = λ s l. rw streams (set-each (λ s g. IsNow s g) old.streams.items k stream no_stream_words (omega (arith, sized.streams)) (
            let own : of_stream t k (time, (b, w)) ≡ true = rw (odd, some) (eq-eqb k k refl) in
            rw (picked-push (of_stream t k) capture (time, (b, w)) own, same, ← at)
            (steps (picked (of_stream t k) capture) (h.streams k known) (omega (arith, picked-last (of_stream t k) capture h.order)) (omega (arith, picked-few (of_stream t k) capture)))
            ) (λ s m ne. stream-other s (omega (arith, sized.streams)) (rw (odd, some) (ne_eqb k s ne))) s (omega (arith, sized.streams)));
        buses = buses-from (record { wire = wire; parity = g.parity; undeclared = g.undeclared }) buses sized.buses there (record {
          wire = (let own : offered_on t b (time, (b, w)) ≡ true = rw (mine, odd, some) refl in
              rw (picked-push (offered_on t b) capture (time, (b, w)) own, ← at)
              (takes (picked (offered_on t b) capture) was.wire (omega (arith, picked-last (offered_on t b) capture h.order)) (omega (arith, picked-few (offered_on t b) capture))));
          parity = was.parity ∙ sym (counted-push (even_on b) capture (time, (b, w)) ∙ rw (mine, odd) (omega arith));
          undeclared = was.undeclared ∙ sym (counted-push (undeclared_on t b) capture (time, (b, w)) ∙ rw (mine, odd, some) (omega arith));
        });
      }
