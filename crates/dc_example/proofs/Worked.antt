-- What the text of examples/small.toml says, the documents that say so, and their rows.
use Rattle.std.proofs.Common.{◌≡◌, ℕ, zero, suc, ◌<◌, ◌≤◌, List, [], ◌∷◌, map, length, false, Ok, None, Vec, IsPermutation, swap, refl, sym, ap, subst, ◌∙◌, arith, lit≤, slice_index_or}
use Rattle.std.proofs.lemmas.List.Sorted.{IsPermutation-keeps}
use Rattle.dc_document.specs.Names.{padded}
use Rattle.dc_document.specs.Document.{Document}
use Rattle.dc_document.specs.declared.parts.Version.TheVariants.{One}
use Rattle.dc_document.specs.declared.parts.RouterPart.{RouterPart}
use Rattle.dc_document.specs.declared.parts.LabelPart.{LabelPart}
use Rattle.dc_toml.specs.Written.{Written, RouterText, LabelText, written, router_text, label_text}
use Rattle.dc_tables.specs.TableRows.{TableRows, output_row}
use Rattle.dc_build.specs.RowsOf.{AreRows, IsOutputRow}
use Rattle.dc_tables.specs.declared.rows.Output.{Output}
use Rattle.dc_tables.specs.declared.rows.Entry.{Entry}
use Rattle.dc_rules.specs.Rules.{verdict_of}
use Rattle.dc_rules.specs.declared.keys.PlacedEntry.{PlacedEntry}
use Rattle.dc_document.specs.declared.parts.OutputPart.{OutputPart}
use Rattle.dc_document.specs.declared.parts.Speed.TheVariants.{High}
use Rattle.dc_word.specs.declared.format.Format.TheVariants.{Bnr}
use Rattle.dc_check.specs.Small.{small_tables, small_output}

-- ---- what the text says

abbrev visits : List (List ℕ)
visits = padded (65 ∷ []) ∷ []

abbrev sources : List (List ℕ)
sources = padded (65 ∷ 45 ∷ 50 ∷ 48 ∷ 51 ∷ []) ∷ []

abbrev offsets : List ℕ
offsets = 0 ∷ []

abbrev the_router : RouterText
the_router = record { name = padded (82 ∷ 49 ∷ []); steps = 1; within = 1; most = 2; visits = visits }

abbrev the_output : OutputPart
the_output = record { name = padded (79 ∷ []); speed = High; steps = 1; within = 2; frame = 15 }

abbrev the_label : LabelText
the_label = record { output = 0; name = padded (120 ∷ []); label = 131; equipment = 1; sdi = 0; sources = sources; stale = 22; age = 30; offsets = offsets }

abbrev pub example_written : Written
example_written = record {
  version = One;
  tick_us = 1000;
  parameters =
      record { label = 131; equipment = 1; format = Bnr; min_us = 10000; max_us = 20000 }
      ∷ record { label = 132; equipment = 1; format = Bnr; min_us = 10000; max_us = 20000 }
      ∷ [];
  buses = record { name = padded (65 ∷ []); speed = High; queue = 2; police = false } ∷ [];
  streams =
      record { bus = 0; name = padded (65 ∷ 45 ∷ 50 ∷ 48 ∷ 51 ∷ []); label = 131; equipment = 1; sdi = None; jitter_us = 0 }
      ∷ record { bus = 0; name = padded (65 ∷ 45 ∷ 50 ∷ 48 ∷ 52 ∷ []); label = 132; equipment = 1; sdi = None; jitter_us = 0 }
      ∷ [];
  routers = the_router ∷ [];
  outputs = the_output ∷ [];
  labels = the_label ∷ [];
}

-- ---- lists and vectors

abbrev first_or : {B : Type 0} → B → List B → B
first_or b [] = b
first_or b (y ∷ ys) = y

map_one : {A B : Type 0} (f : A → B) (b : B) (xs : List A) → map f xs ≡ b ∷ [] → (x : A) × (xs ≡ x ∷ []) × (f x ≡ b)
map_one f b [] e = absurd (omega (arith, ap length e))
map_one f b (x ∷ []) e = (x, refl, ap (first_or b) e)
map_one f b (x ∷ y ∷ xs) e = absurd (omega (arith, ap length e))

-- a vector with these items in place of its own
abbrev Fits : {X H : Type 0} → Vec X H → List X → Type 0
Fits v xs = (v.len ≡ length xs) × (v.len ≤ v.cap)

abbrev holding : {X H : Type 0} (v : Vec X H) (xs : List X) → Fits v xs → Vec X H
holding v xs ok = record { ptr = v.ptr; len = v.len; cap = v.cap; alloc = v.alloc; items = xs; ok = ok; small = v.small }

known : {X H : Type 0} (v : Vec X H) (xs : List X) → v.items ≡ xs → (ok : Fits v xs) × (v ≡ holding v xs ok)
known v xs e = subst (λ ys. (ok : Fits v ys) × (v ≡ holding v ys ok)) e (v.ok, refl)

-- ---- the document

-- a router that says this and a label that says that, whatever else is in their vectors
abbrev example_router : (r : RouterPart) → Fits r.visits visits → RouterPart
example_router r a = record { name = the_router.name; steps = the_router.steps; within = the_router.within; most = the_router.most; visits = holding r.visits visits a }

abbrev example_label : (x : LabelPart) → Fits x.sources sources → Fits x.offsets offsets → LabelPart
example_label x b c = record {
  output = the_label.output;
  name = the_label.name;
  label = the_label.label;
  equipment = the_label.equipment;
  sdi = the_label.sdi;
  sources = holding x.sources sources b;
  stale = the_label.stale;
  age = the_label.age;
  offsets = holding x.offsets offsets c;
}

abbrev example_document : (r : RouterPart) (x : LabelPart) → Fits r.visits visits → Fits x.sources sources → Fits x.offsets offsets → Document
example_document r x a b c = record {
  version = example_written.version;
  tick_us = example_written.tick_us;
  parameters = example_written.parameters;
  buses = example_written.buses;
  streams = example_written.streams;
  routers = example_router r a ∷ [];
  outputs = example_written.outputs;
  labels = example_label x b c ∷ [];
}

router_known : (r : RouterPart) → router_text r ≡ the_router → (a : Fits r.visits visits) × (r ≡ example_router r a)
router_known r e =
    let k : (a : Fits r.visits visits) × (r.visits ≡ holding r.visits visits a) = known r.visits visits (λ i. (e i).visits) in
    (k.0, λ i. record { name = (e i).name; steps = (e i).steps; within = (e i).within; most = (e i).most; visits = k.1 i })

label_known : (x : LabelPart) → label_text x ≡ the_label → (b : Fits x.sources sources) × (c : Fits x.offsets offsets) × (x ≡ example_label x b c)
label_known x e =
    let k : (b : Fits x.sources sources) × (x.sources ≡ holding x.sources sources b) = known x.sources sources (λ i. (e i).sources) in
    let l : (c : Fits x.offsets offsets) × (x.offsets ≡ holding x.offsets offsets c) = known x.offsets offsets (λ i. (e i).offsets) in
    (k.0, l.0, λ i. record { output = (e i).output; name = (e i).name; label = (e i).label; equipment = (e i).equipment; sdi = (e i).sdi; sources = k.1 i; stale = (e i).stale; age = (e i).age; offsets = l.1 i })

-- what holds of each such document holds of what says the example's tables
pub of_example : (P : Document → Type 0) → ((r : RouterPart) (x : LabelPart) (a : Fits r.visits visits) (b : Fits x.sources sources) (c : Fits x.offsets offsets) → P (example_document r x a b c)) → (d : Document) → written d ≡ example_written → P d
of_example P each d e =
    let r : (r : RouterPart) × (d.routers ≡ r ∷ []) × (router_text r ≡ the_router) = map_one router_text the_router d.routers (λ i. (e i).routers) in
    let x : (x : LabelPart) × (d.labels ≡ x ∷ []) × (label_text x ≡ the_label) = map_one label_text the_label d.labels (λ i. (e i).labels) in
    let rk : (a : Fits r.0.visits visits) × (r.0 ≡ example_router r.0 a) = router_known r.0 r.2 in
    let xk : (b : Fits x.0.sources sources) × (c : Fits x.0.offsets offsets) × (x.0 ≡ example_label x.0 b c) = label_known x.0 x.2 in
    let routers : d.routers ≡ example_router r.0 rk.0 ∷ [] = r.1 ∙ ap (λ y. y ∷ []) rk.1 in
    let labels : d.labels ≡ example_label x.0 xk.0 xk.1 ∷ [] = x.1 ∙ ap (λ y. y ∷ []) xk.2 in
    let same : d ≡ example_document r.0 x.0 rk.0 xk.0 xk.1 = λ i. record { version = (e i).version; tick_us = (e i).tick_us; parameters = (e i).parameters; buses = (e i).buses; streams = (e i).streams; routers = routers i; outputs = (e i).outputs; labels = labels i } in
    subst P (sym same) (each r.0 x.0 rk.0 xk.0 xk.1)

-- ---- its rules

pub passes : (r : RouterPart) (x : LabelPart) (a : Fits r.visits visits) (b : Fits x.sources sources) (c : Fits x.offsets offsets) → verdict_of (example_document r x a b c) ≡ Ok tt
passes r x a b c = refl

-- ---- its rows

abbrev the_placed : PlacedEntry
the_placed = record { output = 0; offset = 0; label = 0 }

abbrev the_entry : Entry
the_entry = record { offset = 0; label = 0 }

alone : (e : Entry) (i j : ℕ) → i < 1 → j < 1 → swap (e ∷ []) i j ≡ e ∷ []
alone e zero zero h k = refl
alone e zero (suc j) h k = absurd (omega (arith, k))
alone e (suc i) j h k = absurd (omega (arith, h))

kept_alone : (e : Entry) (l : List Entry) (i j : ℕ) → i < length l → j < length l → l ≡ e ∷ [] → swap l i j ≡ e ∷ []
kept_alone e l i j h k same = subst (λ m. i < length m → j < length m → swap m i j ≡ e ∷ []) (sym same) (alone e i j) h k

frame_alone : (e : Entry) (frame : List Entry) → IsPermutation (e ∷ []) frame → frame ≡ e ∷ []
frame_alone e frame same = IsPermutation-keeps (e ∷ []) (λ l. l ≡ e ∷ []) refl (kept_alone e) frame same

one_output : (o : Output) (outputs : List Output) → length outputs ≡ 1 → slice_index_or outputs 0 o ≡ small_output → outputs ≡ small_output ∷ []
one_output o [] there e = absurd (omega (arith, there))
one_output o (y ∷ []) there e = ap (λ z. z ∷ []) e
one_output o (y ∷ z ∷ ys) there e = absurd (omega (arith, there))

pub rows_are : (r : RouterPart) (x : LabelPart) (a : Fits r.visits visits) (b : Fits x.sources sources) (c : Fits x.offsets offsets) (rows : TableRows) → AreRows (example_document r x a b c) rows → rows ≡ small_tables
rows_are r x a b c rows h =
    let u : IsOutputRow 1000 (the_placed ∷ []) 0 the_output (output_row rows 0) = h.outputs 0 the_output (lit≤ tt) in
    let row : output_row rows 0 ≡ small_output = λ i. record { steps = u.steps i; within = u.within i; gap = u.gap i; frame = u.frame i; entries = frame_alone the_entry (output_row rows 0).entries u.entries.same i } in
    let outputs : rows.outputs ≡ small_output ∷ [] = one_output _ rows.outputs h.outputs_there row in
    λ i. record { tick_us = h.tick i; buses = h.buses i; streams = h.streams i; routers = h.routers i; outputs = outputs i; labels = h.labels i; names = h.names i }
