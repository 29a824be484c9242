-- What differs in tables that break no rule: names, streams of a bus, sources of a label, labels of an output.
use Rattle.std.proofs.Common.{◌≡◌, ℕ, ◌<◌, inl, inr, Bool, true, false, ◌&&◌, ◌==◌, Option, Some, None, is_none, List, [], ◌∷◌, length, get_or, map, refl, sym, ap, ◌∙◌, arith}
use Rattle.std.specs.Prelude.{is_some}
use Rattle.std.specs.Str.{bytes_eq}
use Rattle.std.proofs.lemmas.List.{length-map, get_or-map}
use Rattle.std.proofs.lemmas.Bool.{cases_lt}
use Rattle.std.proofs.lemmas.Bool.Decides.{nat_tests}
use Rattle.std.proofs.lemmas.Slice.Eq.{bytes_eq-Decides}
use Rattle.dc_document.specs.Document.{Document}
use Rattle.dc_rules.specs.Obeys.{ReferencesObey, SchedulesObey}
use Rattle.dc_rules.specs.Rules.{doubled, doubled_name, has_unknown, stream_names, overlap, same_label, label_id}
use Rattle.dc_tables.specs.Sdis.{sdis_meet}
use Rattle.dc_document.specs.Names.{number_of}
use Rattle.dc_rules.specs.declared.keys.LabelKey.{LabelKey}
use Rattle.dc_document.specs.declared.parts.StreamPart.{StreamPart}
use Rattle.dc_document.specs.declared.parts.LabelPart.{LabelPart}
use Rattle.dc_rules.specs.lemmas.Apart.{apart}
use Rattle.dc_rules.specs.lemmas.Picks.{each_fails, any_fails, number_there}
use Rattle.dc_word.specs.declared.format.Format.TheVariants.{Bnr}
use Rattle.dc_tables.specs.Named.{AreOnce}
use Rattle.dc_build.specs.RowsOf.{number_in, stream_row_of, label_row_of, AreRows}
use Rattle.dc_tables.specs.TableRows.{TableRows, stream_row, label_row}
use Rattle.dc_tables.specs.declared.rows.Stream.{Stream}
use Rattle.dc_tables.specs.declared.rows.OutputLabel.{OutputLabel}
use Rattle.dc_build.proofs.ValidBuses.{stream_count}
use Rattle.dc_build.proofs.ValidRouters.{named_as}
use Rattle.dc_build.proofs.ValidLabels.{label_count, each_label}

pub is_eq : (a b : ℕ) → a ≡ b → (a == b) ≡ true
is_eq a b h = grind (arith, nat_tests)

pub and_true : (a b : Bool) → a ≡ true → b ≡ true → (a && b) ≡ true
and_true true b h k = k
and_true false b h k = absurd (cc h)

last_false : (a b e : Bool) → a ≡ true → b ≡ true → ((a && b) && e) ≡ false → e ≡ false
last_false true true e p q h = h
last_false true false e p q h = absurd (cc q)
last_false false b e p q h = absurd (cc p)

none_when : (r : Option ℕ) → is_some r ≡ false → r ≡ None
none_when None h = refl
none_when (Some i) h = absurd (cc h)

-- an item of a list that has some
pub item : {A : Type 0} (xs : List A) (k : ℕ) → k < length xs → A
item [] k h = absurd (omega arith)
item (x ∷ xs) k h = x

-- where no item is doubled, two that are related are one
pub no_two : {A : Type 0} (R : A → A → Bool) (xs : List A) (d : A) → doubled R xs ≡ None → (i j : ℕ) → i < length xs → j < length xs → R (get_or xs i d) (get_or xs j d) ≡ true → R (get_or xs j d) (get_or xs i d) ≡ true → i ≡ j
no_two R xs d h i j l m p q =
    elim (cases_lt i j) [
      | inl less ↦ absurd (cc (sym (apart R xs h i j d less m) ∙ q))
      | inr more ↦ elim (cases_lt j i) [
        | inl less ↦ absurd (cc (sym (apart R xs h j i d less l) ∙ p))
        | inr same ↦ omega arith
      ]
    ]

-- names that are not doubled stand once
pub names_once : (names : List (List ℕ)) → doubled_name names ≡ None → AreOnce names
names_once names h i j l m e =
    let a = get_or names i [] in
    let b = get_or names j [] in
    no_two bytes_eq names [] h i j l m ((bytes_eq-Decides a b).1 e) ((bytes_eq-Decides b a).1 (sym e))

-- a name that is there is the one of its number
pub name_is : (names wanted : List (List ℕ)) → has_unknown names wanted ≡ false → (m : ℕ) → m < length wanted → get_or wanted m [] ≡ get_or names (number_in names (get_or wanted m [])) []
name_is names wanted h m l =
    let w = get_or wanted m [] in
    let known = any_fails (λ v. is_none (number_of names v)) wanted h m [] l in
    (bytes_eq-Decides w (get_or names (number_in names w) [])).0 (named_as names w (number_of names w) (number_in names w) refl known refl)

-- and its number is below their count
pub number_below : (names wanted : List (List ℕ)) → has_unknown names wanted ≡ false → (m : ℕ) → m < length wanted → number_in names (get_or wanted m []) < length names
number_below names wanted h m l = number_there (bytes_eq (get_or wanted m [])) names (any_fails (λ v. is_none (number_of names v)) wanted h m [] l)

-- names that stand once have each their number
numbers_once : (names wanted : List (List ℕ)) → has_unknown names wanted ≡ false → AreOnce wanted → (i j : ℕ) → i < length (map (number_in names) wanted) → j < length (map (number_in names) wanted)
    → get_or (map (number_in names) wanted) i 0 ≡ get_or (map (number_in names) wanted) j 0 → i ≡ j
numbers_once names wanted h once i j l m e =
    let count = length-map wanted (number_in names) in
    let l2 : i < length wanted = omega (arith, l, count) in
    let m2 : j < length wanted = omega (arith, m, count) in
    let same : number_in names (get_or wanted i []) ≡ number_in names (get_or wanted j []) = sym (get_or-map (number_in names) wanted i [] 0 l2) ∙ e ∙ get_or-map (number_in names) wanted j [] 0 m2 in
    once i j l2 m2 (name_is names wanted h i l2 ∙ ap (λ n. get_or names n []) same ∙ sym (name_is names wanted h j m2))

not_met : (s u : StreamPart) → overlap s u ≡ false → s.bus ≡ u.bus → s.label ≡ u.label → sdis_meet s.sdi u.sdi ≡ false
not_met s u h b l = last_false (s.bus == u.bus) (s.label == u.label) (sdis_meet s.sdi u.sdi) (is_eq s.bus u.bus b) (is_eq s.label u.label l) h

same_keys : (a b : LabelKey) → a.output ≡ b.output → a.label ≡ b.label → a.sdi ≡ b.sdi → same_label a b ≡ true
same_keys a b o l s = and_true (a.output == b.output) ((a.label == b.label) && (a.sdi == b.sdi)) (is_eq a.output b.output o) (and_true (a.label == b.label) (a.sdi == b.sdi) (is_eq a.label b.label l) (is_eq a.sdi b.sdi s))

abbrev pub no_stream : StreamPart
no_stream = record { bus = 0; name = []; label = 0; equipment = 0; sdi = None; jitter_us = 0 }

module _ (d : Document) (t : TableRows) (rows : AreRows d t) where
  pub stream_at : (s : ℕ) (x : StreamPart) → s < length d.streams → stream_row t s ≡ stream_row_of d.tick_us d.parameters (get_or d.streams s x)
  stream_at s x l =
      let e : Stream = record { bus = 0; label = 0; sdi = None; format = Bnr; minimum = 0; maximum = 0; jitter = 0 } in
      ap (λ (ws : List Stream). get_or ws s e) rows.streams ∙ get_or-map (stream_row_of d.tick_us d.parameters) d.streams s x e l

  pub label_at : (x : ℕ) (p : LabelPart) → x < length d.labels → label_row t x ≡ label_row_of d.tick_us d.parameters (stream_names d) (get_or d.labels x p)
  label_at x p l =
      let e : OutputLabel = record { output = 0; label = 0; sdi = 0; format = Bnr; sources = []; stale = 0; age_limit = 0; minimum = 0; maximum = 0 } in
      ap (λ (ws : List OutputLabel). get_or ws x e) rows.labels ∙ get_or-map (label_row_of d.tick_us d.parameters (stream_names d)) d.labels x p e l

  pub streams_apart : ReferencesObey d → (s u : ℕ) → u < s → s < length t.streams → (stream_row t s).bus ≡ (stream_row t u).bus → (stream_row t s).label ≡ (stream_row t u).label → sdis_meet (stream_row t s).sdi (stream_row t u).sdi ≡ false
  streams_apart refs s u less l bus label =
      let m : s < length d.streams = omega (arith, stream_count d t rows) in
      let a : StreamPart = get_or d.streams s no_stream in
      let b : StreamPart = get_or d.streams u no_stream in
      let ea = stream_at s no_stream m in
      let eb = stream_at u no_stream (omega (arith, m)) in
      ap (λ (r : Stream). sdis_meet r.sdi (stream_row t u).sdi) ea
      ∙ ap (λ (r : Stream). sdis_meet a.sdi r.sdi) eb
      ∙ not_met a b (apart overlap d.streams refs.apart u s no_stream less m)
      (sym (ap (λ (r : Stream). r.bus) ea) ∙ bus ∙ ap (λ (r : Stream). r.bus) eb)
      (sym (ap (λ (r : Stream). r.label) ea) ∙ label ∙ ap (λ (r : Stream). r.label) eb)

  pub labels_apart : SchedulesObey d → (x y : ℕ) → x < length t.labels → y < length t.labels → (label_row t x).output ≡ (label_row t y).output → (label_row t x).label ≡ (label_row t y).label → (label_row t x).sdi ≡ (label_row t y).sdi → x ≡ y
  labels_apart schedules x y hx hy output label sdi =
      let l : x < length d.labels = omega (arith, label_count d t rows) in
      let m : y < length d.labels = omega (arith, label_count d t rows) in
      let p : LabelPart = item d.labels x l in
      let e : LabelKey = record { output = 0; label = 0; sdi = 0 } in
      let keys = map label_id d.labels in
      let count : length keys ≡ length d.labels = length-map d.labels label_id in
      let a : LabelKey = label_id (get_or d.labels x p) in
      let b : LabelKey = label_id (get_or d.labels y p) in
      let ka : get_or keys x e ≡ a = get_or-map label_id d.labels x p e l in
      let kb : get_or keys y e ≡ b = get_or-map label_id d.labels y p e m in
      let ex = label_at x p l in
      let ey = label_at y p m in
      let o : a.output ≡ b.output = sym (ap (λ (r : OutputLabel). r.output) ex) ∙ output ∙ ap (λ (r : OutputLabel). r.output) ey in
      let n : a.label ≡ b.label = sym (ap (λ (r : OutputLabel). r.label) ex) ∙ label ∙ ap (λ (r : OutputLabel). r.label) ey in
      let s : a.sdi ≡ b.sdi = sym (ap (λ (r : OutputLabel). r.sdi) ex) ∙ sdi ∙ ap (λ (r : OutputLabel). r.sdi) ey in
      no_two same_label keys e schedules.labels x y (omega (arith, count)) (omega (arith, count))
      (ap (λ k. same_label k (get_or keys y e)) ka ∙ ap (λ k. same_label a k) kb ∙ same_keys a b o n s)
      (ap (λ k. same_label k (get_or keys x e)) kb ∙ ap (λ k. same_label b k) ka ∙ same_keys b a (sym o) (sym n) (sym s))

  pub sources_once : ReferencesObey d → (x i j : ℕ) → x < length t.labels → i < length (label_row t x).sources → j < length (label_row t x).sources → get_or (label_row t x).sources i 0 ≡ get_or (label_row t x).sources j 0 → i ≡ j
  sources_once refs x i j h = each_label d t rows (λ r. i < length r.sources → j < length r.sources → get_or r.sources i 0 ≡ get_or r.sources j 0 → i ≡ j) (λ k y l.
      let wanted = (get_or d.labels k y).sources.items in
      numbers_once (stream_names d) wanted (each_fails (λ w. has_unknown (stream_names d) w.sources.items) d.labels refs.sources k y l)
      (names_once wanted (none_when (doubled_name wanted) (each_fails (λ w. is_some (doubled_name w.sources.items)) d.labels refs.sources_once k y l))) i j) x h
