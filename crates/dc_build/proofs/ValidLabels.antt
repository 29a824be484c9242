-- The labels of tables that break no rule.
use Rattle.std.proofs.Common.{◌≡◌, ℕ, ◌+◌, ◌<◌, ◌≤◌, ◌||◌, ◌==◌, Bool, is_none, List, [], ◌∷◌, length, get_or, map, refl, sym, ap, ◌∙◌, arith, subst}
use Rattle.std.specs.List.{count_by}
use Rattle.std.proofs.lemmas.List.{length-map, get_or-map}
use Rattle.dc_word.specs.declared.format.Format.TheVariants.{Bnr}
use Rattle.dc_document.specs.Document.{Document, label_owners, IsInOrder}
use Rattle.dc_rules.specs.Rules.{outside, counts, offsets_out, label_out, parameter_of, no_interval, has_unknown, stream_names}
use Rattle.dc_document.specs.Keys.{label_key}
use Rattle.dc_build.specs.RowsOf.{number_in, label_row_of, AreRows}
use Rattle.dc_tables.specs.TableRows.{TableRows, label_row}
use Rattle.dc_tables.specs.declared.rows.OutputLabel.{OutputLabel}
use Rattle.dc_document.specs.declared.parts.LabelPart.{LabelPart}
use Rattle.dc_document.specs.declared.parts.StreamPart.{StreamPart}
use Rattle.dc_rules.specs.lemmas.Picks.{rows_each, each_fails, not_outside, or_none}
use Rattle.dc_rules.specs.lemmas.Apart.{counts_at, counts_length}
use Rattle.dc_rules.specs.lemmas.Owners.{counted}
use Rattle.dc_rules.specs.lemmas.Found.{found_holds}
use Rattle.dc_build.proofs.Intervals.{interval_there, interval_small}
use Rattle.dc_build.proofs.ValidBuses.{stream_count, tick_in, max_in}
use Rattle.dc_build.proofs.ValidRouters.{numbers_always, map_from}
use Rattle.dc_rules.specs.Obeys.{ShapeObeys, ReferencesObey, QuantitiesObey}

module _ (d : Document) (t : TableRows) (rows : AreRows d t) where
  pub label_count : length t.labels ≡ length d.labels
  label_count = ap (λ (l : List OutputLabel). length l) rows.labels ∙ length-map d.labels (label_row_of d.tick_us d.parameters (stream_names d))

  pub each_label : (P : OutputLabel → Type 0) → ((k : ℕ) (x : LabelPart) → k < length d.labels → P (label_row_of d.tick_us d.parameters (stream_names d) (get_or d.labels k x))) → (x : ℕ) → x < length t.labels → P (label_row t x)
  each_label P each = rows_each P (label_row_of d.tick_us d.parameters (stream_names d)) d.labels t.labels (record { output = 0; label = 0; sdi = 0; format = Bnr; sources = []; stale = 0; age_limit = 0; minimum = 0; maximum = 0 }) rows.labels each

  -- the same, of each row with its number
  pub each_label_at : (P : ℕ → OutputLabel → Type 0) → ((k : ℕ) (x : LabelPart) → k < length d.labels → P k (label_row_of d.tick_us d.parameters (stream_names d) (get_or d.labels k x))) → (x : ℕ) → x < length t.labels → P x (label_row t x)
  each_label_at P each x h =
      let f = label_row_of d.tick_us d.parameters (stream_names d) in
      let e : OutputLabel = record { output = 0; label = 0; sdi = 0; format = Bnr; sources = []; stale = 0; age_limit = 0; minimum = 0; maximum = 0 } in
      let z : 0 + x ≡ x = omega arith in
      let Q : List OutputLabel → Type 0 = λ ws. P x (get_or ws x e) in
      let R : ℕ → Type 0 = λ j. P j (get_or (map f d.labels) x e) in
      subst Q (sym rows.labels) (subst R z (map_from P f 0 d.labels e (λ k y l.
      let s : 0 + k ≡ k = omega arith in
      let S : ℕ → Type 0 = λ j. P j (f (get_or d.labels k y)) in
      subst S (sym s) (each k y l)) x (omega (arith, label_count))))

  sources_length : length (stream_names d) ≡ length t.streams
  sources_length = length-map d.streams (λ (s : StreamPart). s.name) ∙ sym (stream_count d t rows)

  pub output_of : (k : ℕ) (x : LabelPart) → k < length d.labels → get_or (label_owners d) k 0 ≡ (get_or d.labels k x).output
  output_of k x l = get_or-map (λ (y : LabelPart). y.output) d.labels k x 0 l

  pub labels_on_outputs : IsInOrder d → (x : ℕ) → x < length t.labels → (label_row t x).output < length t.outputs
  labels_on_outputs order = each_label (λ r. r.output < length t.outputs) (λ k x l.
      omega (arith, order.labels.below k (omega (arith, length-map d.labels (λ (y : LabelPart). y.output))), output_of k x l, rows.outputs_there))

count_mapped : {X Y : Type 0} (p : Y → Bool) (f : X → Y) (xs : List X) → count_by p (map f xs) ≡ count_by (λ x. p (f x)) xs
count_mapped p f [] = refl
count_mapped p f (x ∷ xs) = omega (arith, counted p (f x) (map f xs), counted (λ y. p (f y)) x xs, count_mapped p f xs)

module _ (d : Document) (t : TableRows) (rows : AreRows d t) (shape : ShapeObeys d) where
  -- how many labels an output has
  owned : (o : ℕ) → count_by (λ (r : OutputLabel). r.output == o) t.labels ≡ count_by (λ w. w == o) (label_owners d)
  owned o =
      ap (λ (l : List OutputLabel). count_by (λ (r : OutputLabel). r.output == o) l) rows.labels
      ∙ count_mapped (λ (r : OutputLabel). r.output == o) (label_row_of d.tick_us d.parameters (stream_names d)) d.labels
      ∙ sym (count_mapped (λ w. w == o) (λ (y : LabelPart). y.output) d.labels)

  pub few_output_labels : (o : ℕ) → o < length t.outputs → count_by (λ (r : OutputLabel). r.output == o) t.labels ≤ 256
  few_output_labels o h =
      let l : o < length d.outputs = omega (arith, rows.outputs_there) in
      let all = counts (label_owners d) (length d.outputs) in
      let in_range = not_outside 1 256 (get_or all o 0) (each_fails (λ n. outside 1 256 n) all shape.labels_of o 0 (omega (arith, l, counts_length (label_owners d) (length d.outputs)))) in
      omega (arith, in_range.1, counts_at (label_owners d) (length d.outputs) o l, owned o)

  sources_in : (k : ℕ) (x : LabelPart) → k < length d.labels → (1 ≤ length (get_or d.labels k x).sources.items) × (length (get_or d.labels k x).sources.items ≤ 8)
  sources_in k x l = not_outside 1 8 (length (get_or d.labels k x).sources.items) (each_fails (λ y. outside 1 8 (length y.sources.items)) d.labels shape.sources k x l)

  sources_made : (k : ℕ) (x : LabelPart) → length (label_row_of d.tick_us d.parameters (stream_names d) (get_or d.labels k x)).sources ≡ length (get_or d.labels k x).sources.items
  sources_made k x = length-map (get_or d.labels k x).sources.items (number_in (stream_names d))

  pub sources_some : (x : ℕ) → x < length t.labels → 1 ≤ length (label_row t x).sources
  sources_some = each_label d t rows (λ r. 1 ≤ length r.sources) (λ k x l. omega (arith, sources_made k x, (sources_in k x l).0))

  pub few_sources : (x : ℕ) → x < length t.labels → length (label_row t x).sources ≤ 8
  few_sources = each_label d t rows (λ r. length r.sources ≤ 8) (λ k x l. omega (arith, sources_made k x, (sources_in k x l).1))

  numbers_in : (k : ℕ) (x : LabelPart) → k < length d.labels → ((1 ≤ (get_or d.labels k x).stale) × ((get_or d.labels k x).stale ≤ 1000000)) × ((1 ≤ (get_or d.labels k x).age) × ((get_or d.labels k x).age ≤ 2000000))
  numbers_in k x l =
      let r = get_or d.labels k x in
      let a = or_none (outside 1 1000000 r.stale || outside 1 2000000 r.age) (offsets_out r.offsets.items) (each_fails label_out d.labels shape.labels k x l) in
      let b = or_none (outside 1 1000000 r.stale) (outside 1 2000000 r.age) a.0 in
      (not_outside 1 1000000 r.stale b.0, not_outside 1 2000000 r.age b.1)

  pub stales : (x : ℕ) → x < length t.labels → (1 ≤ (label_row t x).stale) × ((label_row t x).stale ≤ 1000000)
  stales = each_label d t rows (λ r. (1 ≤ r.stale) × (r.stale ≤ 1000000)) (λ k x l. (numbers_in k x l).0)

  pub limits : (x : ℕ) → x < length t.labels → (1 ≤ (label_row t x).age_limit) × ((label_row t x).age_limit ≤ 2000000)
  limits = each_label d t rows (λ r. (1 ≤ r.age_limit) × (r.age_limit ≤ 2000000)) (λ k x l. (numbers_in k x l).1)

  pub intervals_small : (x : ℕ) → x < length t.labels → (label_row t x).maximum ≤ 600000
  intervals_small = each_label d t rows (λ r. r.maximum ≤ 600000) (λ k x l.
      let key = label_key (get_or d.labels k x) in
      interval_small d.tick_us (parameter_of d.parameters key) (tick_in d t rows shape).0 (λ p e. found_holds (λ q. q.max_us ≤ 60000000) d.parameters key p (max_in d t rows shape) e))

module _ (d : Document) (t : TableRows) (rows : AreRows d t) (shape : ShapeObeys d) (quantities : QuantitiesObey d) (refs : ReferencesObey d) where
  pub sources_there : (x k : ℕ) → x < length t.labels → k < length (label_row t x).sources → get_or (label_row t x).sources k 0 < length t.streams
  sources_there x k h l = each_label d t rows (λ r. get_or r.sources k 0 < length t.streams) (λ j y m.
      omega (arith, numbers_always (stream_names d) (get_or d.labels j y).sources.items (each_fails (λ w. has_unknown (stream_names d) w.sources.items) d.labels refs.sources j y m) (sources_in d t rows shape j y m).0 k, sources_length d t rows)) x h

  pub intervals : (x : ℕ) → x < length t.labels → (label_row t x).minimum ≤ (label_row t x).maximum
  intervals = each_label d t rows (λ r. r.minimum ≤ r.maximum) (λ k x l.
      interval_there d.tick_us (parameter_of d.parameters (label_key (get_or d.labels k x)))
      (each_fails (λ y. is_none (parameter_of d.parameters (label_key y))) d.labels refs.labels k x l)
      (each_fails (λ y. no_interval d.tick_us (parameter_of d.parameters (label_key y))) d.labels quantities.labels k x l))
