-- What each printed line says.
use Rattle.std.proofs.Common.{◌≡◌, ◌≢◌, ℕ, ◌+◌, ◌<◌, if◌then◌else◌, Option, Some, None, List, length, drop, Ok, Err, refl, ap, ◌∙◌, subst, codes, decimal, arith}
use Rattle.std.proofs.lemmas.Bool.{cond-false, cond-true, false_from_ne_true}
use Rattle.std.proofs.lemmas.Fmt.{digits_decimal}
use Rattle.std.proofs.lemmas.Slice.Eq.{bytes_eq-Decides}
use Rattle.std.proofs.lemmas.Str.Parse.{digit_from_value}
use Rattle.std.specs.Prelude.{IfSome, option_and_then, option_map, slice_index}
use Rattle.std.specs.Str.{bytes_eq}
use Rattle.std.specs.Str.Parse.{AllDigits}
use Rattle.dc_cert.specs.Bounds.{CertificateRows, input_bound, output_bound}
use Rattle.dc_document.specs.Names.{IsSpelled}
use Rattle.dc_event.specs.ReplyText.{name_at}
use Rattle.dc_event.specs.TraceText.{fields_of}
use Rattle.dc_observe.specs.declared.labels.LabelNumbers.{LabelNumbers}
use Rattle.dc_run_observe.specs.Lines.{maybe_text}
use Rattle.dc_tables.specs.TableRows.{TableRows, label_row}
use Rattle.dc_seen.specs.Kinds.{field, has_form, is_word, kind_of}
use Rattle.dc_seen.specs.Numbers.{is_decimal, maybe_number_of, number_of}
use Rattle.dc_seen.specs.Rows.{as_input, as_label, as_output, input_numbers, label_numbers, named, number_beside, or_wrong, output_numbers, seen_input, seen_output}
use Rattle.dc_seen.specs.Said.{SeenRows, line_said, one_input, one_label, one_output, rows_said}
use Rattle.dc_seen.specs.lemmas.Digits.{number_is, own}
use Rattle.dc_seen.specs.lemmas.Wanted.{input_line, label_line, output_line}
use Rattle.dc_seen.specs.declared.fault.SeenRule.TheVariants.{NotNext}
use Rattle.dc_seen.specs.declared.kind.Kind.TheVariants.{Input, Output, Label}
use Rattle.dc_read_back.specs.Printed.{InputIsSmall, IsSmall, LabelIsSmall, input_at, input_printed, label_at, label_printed, output_at, output_printed}
use Rattle.dc_read_back.proofs.Printing.{input_fields, input_plain, input_spaced, label_fields, label_plain, label_spaced, output_fields, output_plain, output_spaced}
use Rattle.dc_read_back.proofs.Spaced.{fields_spaced}

-- ---- kinds

input_kind : (name b m w d : List ℕ) → kind_of (input_fields name b m w d) ≡ Ok Input
unfolding kind_of has_form
input_kind name b m w d = refl

output_kind : (name l d : List ℕ) → kind_of (output_fields name l d) ≡ Ok Output
unfolding kind_of has_form
output_kind name l d = refl

label_kind : (name s f o a l m g x : List ℕ) → kind_of (label_fields name s f o a l m g x) ≡ Ok Label
unfolding kind_of has_form
label_kind name s f o a l m g x = refl

-- ---- numbers beside their bounds

number_back : (n bound : ℕ) → IsSmall n → (if is_decimal (decimal bound) bound then number_of (decimal n) else None) ≡ Some n
number_back n bound small =
    cond-true (is_decimal (decimal bound) bound) (number_of (decimal n)) None ((bytes_eq-Decides (decimal bound) (decimal bound)).1 refl) ∙ number_is (decimal n) n small refl

no_dash : (ds : List ℕ) → AllDigits 10 ds → ds ≢ codes "-"
no_dash ds all is = (let d : AllDigits 10 (codes "-") = subst (AllDigits 10) is all in let range = digit_from_value 45 d.0 in omega (arith, range))

maybe_is : (n : Option ℕ) → IfSome n IsSmall → maybe_number_of (maybe_text n) ≡ Some n
unfolding maybe_number_of
maybe_is None small = refl
maybe_is (Some n) small =
    cond-false (bytes_eq (decimal n) (codes "-")) (Some None) (option_map (λ m. Some m) (number_of (decimal n)))
    (false_from_ne_true (bytes_eq (decimal n) (codes "-")) (λ e. no_dash (decimal n) (digits_decimal own n small) ((bytes_eq-Decides (decimal n) (codes "-")).0 e)))
    ∙ ap (option_map (λ m. Some m)) (number_is (decimal n) n small refl)

maybe_back : (n : Option ℕ) (bound : ℕ) → IfSome n IsSmall → (if is_decimal (decimal bound) bound then maybe_number_of (maybe_text n) else None) ≡ Some n
maybe_back n bound small =
    cond-true (is_decimal (decimal bound) bound) (maybe_number_of (maybe_text n)) None ((bytes_eq-Decides (decimal bound) (decimal bound)).1 refl) ∙ maybe_is n small

-- ---- the numbers of each kind

input_back : (name : List ℕ) (b m w d : ℕ) → IsSmall b → IsSmall w → input_numbers m d (input_fields name (decimal b) (decimal m) (decimal w) (decimal d)) ≡ Some (seen_input b w)
input_back name b m w d small_b small_w =
    let fields : List (List ℕ) = input_fields name (decimal b) (decimal m) (decimal w) (decimal d) in
    ap (option_and_then (λ backlog. option_map (λ wait. seen_input backlog wait) (number_beside fields 7 d))) (number_back b m small_b)
    ∙ ap (option_map (λ wait. seen_input b wait)) (number_back w d small_w)

output_back : (name : List ℕ) (l d : ℕ) → IsSmall l → output_numbers d (output_fields name (decimal l) (decimal d)) ≡ Some (seen_output l)
output_back name l d small = ap (option_map (λ late. seen_output late)) (number_back l d small)

label_back : (name : List ℕ) (n : LabelNumbers) (a m x : ℕ) → LabelIsSmall n
    → label_numbers a m x (label_fields name (decimal n.sent) (decimal n.fallback) (maybe_text n.age) (decimal a) (maybe_text n.least) (decimal m) (decimal n.greatest) (decimal x)) ≡ Some n
label_back name n a m x small =
    rw (number_is (decimal n.sent) n.sent small.sent refl, number_is (decimal n.fallback) n.fallback small.fallback refl, maybe_back n.age a small.age, maybe_back n.least m small.least, number_back n.greatest x small.greatest) refl

-- ---- the row of a name

named_back : {X : Type 0} (name : List ℕ) (fields : List (List ℕ)) (numbers : Option X) (x : X) → field fields 1 ≡ name → numbers ≡ Some x → named name fields numbers ≡ Ok x
named_back name fields numbers x is counted =
    cond-true (is_word fields 1 name) (or_wrong numbers) (Err NotNext) ((bytes_eq-Decides (field fields 1) name).1 is) ∙ ap or_wrong counted

-- ---- lines

pub input_says : (t : TableRows) (c : CertificateRows) (s : SeenRows) (k b : ℕ) → b < length t.buses → k ≡ b → IsSpelled (name_at t.names.buses b) → InputIsSmall (input_at s b)
    → IsSmall (input_bound c b).backlog → IsSmall (input_bound c b).delay → line_said t c k (input_printed t c s b) ≡ Ok (one_input (input_at s b))
input_says t c s k b there at is_name small m d =
    let n = input_at s b in
    let most : ℕ = (input_bound c b).backlog in
    let delay : ℕ = (input_bound c b).delay in
    let name : List ℕ = name_at t.names.buses b in
    let fields : List (List ℕ) = input_fields name (decimal n.backlog) (decimal most) (decimal n.wait) (decimal delay) in
    let parts : fields_of (input_printed t c s b) ≡ fields =
    ap fields_of (input_spaced name n.backlog most n.wait delay) ∙ fields_spaced (codes "input") (drop 1 fields) (input_plain name n.backlog most n.wait delay is_name small.0 m small.1 d) in
    input_line t c k b (input_printed t c s b) there at
    ∙ ap (λ fs. rows_said one_input (as_input (kind_of fs) (named name fs (input_numbers most delay fs)))) parts
    ∙ ap (λ kind. rows_said one_input (as_input kind (named name fields (input_numbers most delay fields)))) (input_kind name (decimal n.backlog) (decimal most) (decimal n.wait) (decimal delay))
    ∙ ap (rows_said one_input) (named_back name fields (input_numbers most delay fields) n refl (input_back name n.backlog most n.wait delay small.0 small.1))

pub output_says : (t : TableRows) (c : CertificateRows) (s : SeenRows) (k o : ℕ) → o < length t.outputs → k ≡ length t.buses + o → IsSpelled (name_at t.names.outputs o) → IsSmall (output_at s o).late
    → IsSmall (output_bound c o).delay → line_said t c k (output_printed t c s o) ≡ Ok (one_output (output_at s o))
output_says t c s k o there at is_name small d =
    let n = output_at s o in
    let delay : ℕ = (output_bound c o).delay in
    let name : List ℕ = name_at t.names.outputs o in
    let fields : List (List ℕ) = output_fields name (decimal n.late) (decimal delay) in
    let parts : fields_of (output_printed t c s o) ≡ fields =
    ap fields_of (output_spaced name n.late delay) ∙ fields_spaced (codes "output") (drop 1 fields) (output_plain name n.late delay is_name small d) in
    output_line t c k o (output_printed t c s o) there at
    ∙ ap (λ fs. rows_said one_output (as_output (kind_of fs) (named name fs (output_numbers delay fs)))) parts
    ∙ ap (λ kind. rows_said one_output (as_output kind (named name fields (output_numbers delay fields)))) (output_kind name (decimal n.late) (decimal delay))
    ∙ ap (rows_said one_output) (named_back name fields (output_numbers delay fields) n refl (output_back name n.late delay small))

pub label_says : (t : TableRows) (c : CertificateRows) (s : SeenRows) (k x : ℕ) → x < length t.labels → k ≡ length t.buses + length t.outputs + x → IsSpelled (name_at t.names.labels x)
    → LabelIsSmall (label_at s x) → IsSmall (slice_index c.ages x) → IsSmall (label_row t x).minimum → IsSmall (label_row t x).maximum
    → line_said t c k (label_printed t c s x) ≡ Ok (one_label (label_at s x))
label_says t c s k x there at is_name small a m g =
    let n = label_at s x in
    let age : ℕ = slice_index c.ages x in
    let minimum : ℕ = (label_row t x).minimum in
    let maximum : ℕ = (label_row t x).maximum in
    let name : List ℕ = name_at t.names.labels x in
    let fields : List (List ℕ) =
    label_fields name (decimal n.sent) (decimal n.fallback) (maybe_text n.age) (decimal age) (maybe_text n.least) (decimal minimum) (decimal n.greatest) (decimal maximum) in
    let parts : fields_of (label_printed t c s x) ≡ fields =
    ap fields_of (label_spaced name n age minimum maximum) ∙ fields_spaced (codes "label") (drop 1 fields) (label_plain name n age minimum maximum is_name small a m g) in
    label_line t c k x (label_printed t c s x) there at
    ∙ ap (λ fs. rows_said one_label (as_label (kind_of fs) (named name fs (label_numbers age minimum maximum fs)))) parts
    ∙ ap (λ kind. rows_said one_label (as_label kind (named name fields (label_numbers age minimum maximum fields))))
    (label_kind name (decimal n.sent) (decimal n.fallback) (maybe_text n.age) (decimal age) (maybe_text n.least) (decimal minimum) (decimal n.greatest) (decimal maximum))
    ∙ ap (rows_said one_label) (named_back name fields (label_numbers age minimum maximum fields) n refl (label_back name n age minimum maximum small))
