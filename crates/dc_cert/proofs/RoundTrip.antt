-- What was printed of a certificate within the limits reads as that certificate.
use Rattle.std.proofs.Common.{◌≡◌, ℕ, suc, ◌+◌, ◌<◌, ◌≤◌, ◌^◌, List, [], ◌∷◌, length, map, true, false, Some, Ok, refl, sym, ap, ◌∙◌, arith, nat_le}
use Rattle.std.proofs.lemmas.Bool.Decides.{nat_tests}
use Rattle.std.proofs.lemmas.List.Elements.{All-tail}
use Rattle.std.specs.Prelude.{All}
use Rattle.std.specs.Str.{IsUtf8}
use Rattle.serde_json.specs.Data.{Data, depth}
use Rattle.serde_json.specs.Events.{items_len}
use Rattle.serde_json.specs.Read.{read, max_depth}
use Rattle.serde_json.specs.View.{items_of}
use Rattle.serde_json.specs.Written.{has_float, compact_text}
use Rattle.dc_cert.specs.NamedRows.{NamedInput, NamedOutput, NamedLabel, NamedRows}
use Rattle.dc_cert.specs.Limits.{IsWithinLimits, InputFits, OutputFits, LabelFits, ClaimsFit}
use Rattle.dc_cert.specs.Printing.{input_data, output_data, label_data, claims_data, claims_text}
use Rattle.dc_cert.specs.Reading.{Reading, input_of, output_of, label_of, rows_of, claims_in, certificate_of, ◌>>=◌}
use Rattle.dc_cert.proofs.Lengths.{length-claims_text}
use Rattle.dc_cert.proofs.Lexed.{IsPlain, ItemsArePlain, read-line_feed}
use Rattle.dc_cert.proofs.PrintingLemmas.{has_float-claims_data, depth-claims_data}
use Rattle.dc_cert.proofs.ReadingLemmas.{document_good}
use Rattle.dc_document.specs.lemmas.Spelled.{is_spelled-from_IsSpelled}

fits : (n : ℕ) → n < 2 ^ 32 → nat_le n 4294967295 ≡ true
fits n h = grind (arith, nat_tests)

few : (n : ℕ) → n ≤ 1024 → nat_le n 1024 ≡ true
few n h = grind (arith, nat_tests)

-- ---- rows

input_back : (n : ℕ) (x : NamedInput) → InputFits x → input_of n (input_data x) ≡ Ok x
unfolding input_of
input_back n x h = rw (is_spelled-from_IsSpelled x.bus h.named, fits x.window h.window, fits x.backlog h.backlog, fits x.delay h.delay) refl

output_back : (n : ℕ) (x : NamedOutput) → OutputFits x → output_of n (output_data x) ≡ Ok x
unfolding output_of
output_back n x h = rw (is_spelled-from_IsSpelled x.output h.named, fits x.window h.window, fits x.delay h.delay) refl

label_back : (n : ℕ) (x : NamedLabel) → LabelFits x → label_of n (label_data x) ≡ Ok x
unfolding label_of
label_back n x h = rw (is_spelled-from_IsSpelled x.label h.named, fits x.age h.age) refl

rows_back : {C : Type 0} (row : ℕ → Data → Reading C) (printed : C → Data) (P : C → Type 0) → ((n : ℕ) (x : C) → P x → row n (printed x) ≡ Ok x)
    → (n : ℕ) (xs : List C) → All P xs → rows_of row n (items_of (map printed xs)) ≡ Ok xs
rows_back row printed P each n [] all = refl
rows_back row printed P each n (x ∷ xs) all = rw (each n x (all 0 x (omega arith)), rows_back row printed P each (n + 1) xs (All-tail P x xs all)) refl

items_len-rows : {C : Type 0} (printed : C → Data) (xs : List C) → items_len (items_of (map printed xs)) ≡ length xs
items_len-rows printed [] = refl
items_len-rows printed (x ∷ xs) = ap suc (items_len-rows printed xs)

-- ---- the certificate

claims_back : (claims : NamedRows) → IsWithinLimits claims → ClaimsFit claims → claims_in (claims_data claims) ≡ Ok claims
unfolding claims_in
claims_back claims limits fit =
    let inputs = rows_back input_of input_data InputFits input_back 0 claims.inputs fit.inputs_fit in
    let outputs = rows_back output_of output_data OutputFits output_back 0 claims.outputs fit.outputs_fit in
    let labels = rows_back label_of label_data LabelFits label_back 0 claims.labels fit.labels_fit in
    rw (
      items_len-rows input_data claims.inputs,
      few (length claims.inputs) limits.few_inputs,
      items_len-rows output_data claims.outputs,
      few (length claims.outputs) limits.few_outputs,
      items_len-rows label_data claims.labels,
      few (length claims.labels) limits.few_labels,
      inputs,
      outputs,
      labels,
    ) refl

-- ---- the text

plain_rows : {C : Type 0} (printed : C → Data) (P : C → Type 0) → ((x : C) → P x → IsPlain (printed x)) → (xs : List C) → All P xs → ItemsArePlain (items_of (map printed xs))
plain_rows printed P each [] all = tt
plain_rows printed P each (x ∷ xs) all = (each x (all 0 x (omega arith)), plain_rows printed P each xs (All-tail P x xs all))

plain_input : (x : NamedInput) → InputFits x → IsPlain (input_data x)
plain_input x h = (omega (arith, h.backlog), (tt, (omega (arith, h.delay), (omega (arith, h.window), tt))))

plain_output : (x : NamedOutput) → OutputFits x → IsPlain (output_data x)
plain_output x h = (omega (arith, h.delay), (tt, (omega (arith, h.window), tt)))

plain_label : (x : NamedLabel) → LabelFits x → IsPlain (label_data x)
plain_label x h = (omega (arith, h.age), (tt, tt))

plain_claims : (claims : NamedRows) → ClaimsFit claims → IsPlain (claims_data claims)
plain_claims claims fit = (
  plain_rows input_data InputFits plain_input claims.inputs fit.inputs_fit,
  (
    plain_rows label_data LabelFits plain_label claims.labels fit.labels_fit,
    (
      plain_rows output_data OutputFits plain_output claims.outputs fit.outputs_fit,
      (omega arith, tt),
    ),
  ),
)

-- the printed value with its line feed, where it reads without it
pub reads_back : (claims : NamedRows) (d : Data) (old new : List ℕ) → d ≡ claims_data claims → (has_float d ≡ false → old ≡ compact_text d)
    → (depth d ≤ max_depth → read old ≡ Some d) → new ≡ claims_text claims → IsUtf8 new → ClaimsFit claims → IsWithinLimits claims → certificate_of new ≡ Ok claims
unfolding claims_text
reads_back claims d old new is text back printed utf8 fit limits =
    let shown : old ≡ compact_text (claims_data claims) = text (ap has_float is ∙ has_float-claims_data claims) ∙ ap compact_text is in
    let shallow : depth d ≤ max_depth = rw is (depth-claims_data claims) in
    let good : read new ≡ Some (claims_data claims) =
    ap read printed ∙ read-line_feed (claims_data claims) (plain_claims claims fit) ∙ sym (ap read shown) ∙ back shallow ∙ ap Some is in
    let short : length new ≤ 1048576 = rw printed (length-claims_text claims limits fit) in
    ap (λ r. r >>= claims_in) (document_good new (claims_data claims) short utf8 good) ∙ claims_back claims limits fit
