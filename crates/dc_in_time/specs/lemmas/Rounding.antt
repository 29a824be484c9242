-- The rows of a document have its intervals, rounded.
use Rattle.std.proofs.Common.{suc, ◌+◌, ◌*◌, ◌/◌, ◌≤◌, ◌≡◌, ℕ, zero, ◌<◌, Bool, true, false, is_none, Option, Some, None, option_map, List, length, get_or, map, refl, sym, ap, ◌∙◌, subst, arith, inl, inr}
use Rattle.std.specs.Prelude.{slice_get}
use Rattle.std.specs.Option.{option_map_or, option_and_then}
use Rattle.std.proofs.lemmas.Option.{slice_get_cases, slice_get-map, get_or_from_slice_get}
use Rattle.std.proofs.lemmas.List.{length-map}
use Rattle.dc_dict.specs.Ticks.{in_minimum, in_maximum, out_minimum, out_maximum, jitter_ticks}
use Rattle.dc_dict.specs.declared.parameter.Parameter.{Parameter as ParameterPart}
use Rattle.dc_document.specs.Document.{Document}
use Rattle.dc_document.specs.Keys.{stream_key, label_key}
use Rattle.dc_document.specs.declared.parts.StreamPart.{StreamPart}
use Rattle.dc_document.specs.declared.parts.LabelPart.{LabelPart}
use Rattle.dc_rules.specs.Rules.{parameter_of, stream_names}
use Rattle.dc_rules.specs.Obeys.{Obeys}
use Rattle.dc_rules.specs.lemmas.Picks.{each_fails}
use Rattle.dc_build.specs.RowsOf.{AreRows, stream_row_of, label_row_of}
use Rattle.dc_tables.specs.TableRows.{TableRows, AreValid, stream_row, label_row}
use Rattle.dc_tables.specs.declared.rows.Stream.{Stream}
use Rattle.dc_tables.specs.declared.rows.OutputLabel.{OutputLabel}
use Rattle.dc_word.specs.declared.format.Format.TheVariants.{Bnr}
use Rattle.std.proofs.Math.Nat.{div-mul-le_self}
use Rattle.std.proofs.lemmas.Grind.{div_ceil_times}
use Rattle.dc_spans.specs.Spans.{exact_clock}
use Rattle.dc_time.specs.Intervals.{FitsClock}
use Rattle.dc_in_time.specs.Documents.{stream_parameter, label_parameter, intervals_of}

-- a row is made of a part
record IsMadeOf {A B : Type 0} (f : A → B) (xs : List A) (ys : List B) (i : ℕ) (e : B) (x : A) : Type 0 where
  there : i < length xs
  got : slice_get xs i ≡ Some x
  made : get_or ys i e ≡ f x

made-of : {A B : Type 0} (f : A → B) (xs : List A) (ys : List B) (i : ℕ) (e : B) → ys ≡ map f xs → i < length ys → (x : A) × IsMadeOf f xs ys i e x
made-of {A} {B} f xs ys i e is l =
    elim (slice_get_cases xs i).1 [
      | inl (x, there, got, same) ↦ (x, record { there = there; got = got; made = get_or_from_slice_get ys i (f x) e (ap (λ (z : List B). slice_get z i) is ∙ slice_get-map f xs i ∙ ap (option_map f) got) })
      | inr (past, _) ↦ absurd (omega (arith, l, ap (λ (z : List B). length z) is, length-map xs f))
    ]

-- a parameter that is there
there-is : (o : Option ParameterPart) → is_none o ≡ false → (p : ParameterPart) × (o ≡ Some p)
there-is None h = absurd cc
there-is (Some p) h = (p, refl)

module _ (d : Document) (obeys : Obeys d) (t : TableRows) (rows : AreRows d t) where
  -- ---- streams

  stream : (s : ℕ) → s < length t.streams → (x : StreamPart) × IsMadeOf (stream_row_of d.tick_us d.parameters) d.streams t.streams s (record { bus = 0; label = 0; sdi = None; format = Bnr; minimum = 0; maximum = 0; jitter = 0 }) x
  stream s there = made-of (stream_row_of d.tick_us d.parameters) d.streams t.streams s (record { bus = 0; label = 0; sdi = None; format = Bnr; minimum = 0; maximum = 0; jitter = 0 }) rows.streams there

  known_stream : (s : ℕ) (x : StreamPart) → s < length d.streams → slice_get d.streams s ≡ Some x → (p : ParameterPart) × (parameter_of d.parameters (stream_key x) ≡ Some p)
  known_stream s x there got =
      let same : get_or d.streams s x ≡ x = get_or_from_slice_get d.streams s x x got in
      there-is (parameter_of d.parameters (stream_key x)) (sym (ap (λ (z : StreamPart). is_none (parameter_of d.parameters (stream_key z))) same) ∙ each_fails (λ (z : StreamPart). is_none (parameter_of d.parameters (stream_key z))) d.streams obeys.references.streams s x there)

  -- what is read of the stream's parameter is read of its row
  of_stream : (f : ParameterPart → ℕ) (g : ℕ → ℕ → ℕ) (h : Stream → ℕ) (s : ℕ) → s < length t.streams → ((x : StreamPart) → h (stream_row_of d.tick_us d.parameters x) ≡ option_map_or (λ p. g (f p) d.tick_us) (parameter_of d.parameters (stream_key x)) 0)
      → h (stream_row t s) ≡ g (option_map_or f (stream_parameter d s) 0) t.tick_us
  of_stream f g h s there is =
      let r = stream s there in
      let p = known_stream s r.0 r.1.there r.1.got in
      ap h r.1.made ∙ is r.0 ∙ ap (λ o. option_map_or (λ p. g (f p) d.tick_us) o 0) p.1
      ∙ sym (ap (λ o. g (option_map_or f (option_and_then (λ (row : StreamPart). parameter_of d.parameters (stream_key row)) o) 0) t.tick_us) r.1.got ∙ ap (λ o. g (option_map_or f o 0) t.tick_us) p.1 ∙ ap (λ k. g (f p.0) k) rows.tick)

  jitter : (s : ℕ) → s < length t.streams → (stream_row t s).jitter ≡ jitter_ticks (option_map_or (λ (row : StreamPart). row.jitter_us) (slice_get d.streams s) 0) t.tick_us
  jitter s there =
      let r = stream s there in
      ap (λ (z : Stream). z.jitter) r.1.made ∙ sym (ap (λ (o : Option StreamPart). jitter_ticks (option_map_or (λ (row : StreamPart). row.jitter_us) o 0) t.tick_us) r.1.got ∙ ap (λ k. jitter_ticks r.0.jitter_us k) rows.tick)

  -- ---- labels

  label : (x : ℕ) → x < length t.labels → (y : LabelPart) × IsMadeOf (label_row_of d.tick_us d.parameters (stream_names d)) d.labels t.labels x (record { output = 0; label = 0; sdi = 0; format = Bnr; sources = Rattle.std.proofs.Common.[]; stale = 0; age_limit = 0; minimum = 0; maximum = 0 }) y
  label x there = made-of (label_row_of d.tick_us d.parameters (stream_names d)) d.labels t.labels x (record { output = 0; label = 0; sdi = 0; format = Bnr; sources = Rattle.std.proofs.Common.[]; stale = 0; age_limit = 0; minimum = 0; maximum = 0 }) rows.labels there

  known_label : (x : ℕ) (y : LabelPart) → x < length d.labels → slice_get d.labels x ≡ Some y → (p : ParameterPart) × (parameter_of d.parameters (label_key y) ≡ Some p)
  known_label x y there got =
      let same : get_or d.labels x y ≡ y = get_or_from_slice_get d.labels x y y got in
      there-is (parameter_of d.parameters (label_key y)) (sym (ap (λ (z : LabelPart). is_none (parameter_of d.parameters (label_key z))) same) ∙ each_fails (λ (z : LabelPart). is_none (parameter_of d.parameters (label_key z))) d.labels obeys.references.labels x y there)

  of_label : (f : ParameterPart → ℕ) (g : ℕ → ℕ → ℕ) (h : OutputLabel → ℕ) (x : ℕ) → x < length t.labels → ((y : LabelPart) → h (label_row_of d.tick_us d.parameters (stream_names d) y) ≡ option_map_or (λ p. g (f p) d.tick_us) (parameter_of d.parameters (label_key y)) 0)
      → h (label_row t x) ≡ g (option_map_or f (label_parameter d x) 0) t.tick_us
  of_label f g h x there is =
      let r = label x there in
      let p = known_label x r.0 r.1.there r.1.got in
      ap h r.1.made ∙ is r.0 ∙ ap (λ o. option_map_or (λ p. g (f p) d.tick_us) o 0) p.1
      ∙ sym (ap (λ o. g (option_map_or f (option_and_then (λ (row : LabelPart). parameter_of d.parameters (label_key row)) o) 0) t.tick_us) r.1.got ∙ ap (λ o. g (option_map_or f o 0) t.tick_us) p.1 ∙ ap (λ k. g (f p.0) k) rows.tick)

  -- by a clock whose ticks are of the tables' length
  pub fits-exactly : (valid : AreValid t) (start : ℕ) → FitsClock t (intervals_of d t) (exact_clock start t.tick_us)
  fits-exactly valid start =
      let some : 1 ≤ t.tick_us = omega (arith, valid.ticks_some) in
      record {
        spacings = λ b l. omega arith;
        spacings_some = λ b l. valid.spacings b l;
        stream_minimums = λ s l.
            omega (arith, div-mul-le_self (option_map_or (λ (p : ParameterPart). p.min_us) (stream_parameter d s) 0) t.tick_us, ap (λ k. k * t.tick_us) (of_stream (λ p. p.min_us) in_minimum (λ r. r.minimum) s l (λ _. refl)));
        stream_maximums = λ s l.
            omega (arith, (div_ceil_times (option_map_or (λ (p : ParameterPart). p.max_us) (stream_parameter d s) 0) t.tick_us some).0, ap (λ k. k * t.tick_us) (of_stream (λ p. p.max_us) in_maximum (λ r. r.maximum) s l (λ _. refl)));
        stream_jitters = λ s l.
            omega (arith, (div_ceil_times (option_map_or (λ (row : StreamPart). row.jitter_us) (slice_get d.streams s) 0) t.tick_us some).0, ap (λ k. k * t.tick_us) (jitter s l));
        label_minimums = λ x l.
            omega (arith, (div_ceil_times (option_map_or (λ (p : ParameterPart). p.min_us) (label_parameter d x) 0) t.tick_us some).0, ap (λ k. k * t.tick_us) (of_label (λ p. p.min_us) out_minimum (λ r. r.minimum) x l (λ _. refl)));
        label_maximums = λ x l.
            let max_is = of_label (λ p. p.max_us) out_maximum (λ r. r.maximum) x l (λ _. refl) in
            let min_is = of_label (λ p. p.min_us) out_minimum (λ r. r.minimum) x l (λ _. refl) in
            let one : option_map_or (λ (p : ParameterPart). p.max_us) (label_parameter d x) 0 / t.tick_us ≡ suc (label_row t x).maximum = omega (arith, max_is, min_is, valid.intervals x l) in
            omega (arith, div-mul-le_self (option_map_or (λ (p : ParameterPart). p.max_us) (label_parameter d x) 0) t.tick_us, ap (λ k. k * t.tick_us) one);
      }

pub fits_clock : (t : TableRows) → AreValid t → (d : Document) → Obeys d → AreRows d t → (start : ℕ) → FitsClock t (intervals_of d t) (exact_clock start t.tick_us)
fits_clock t valid d obeys rows start = fits-exactly d obeys t rows valid start
