-- How long the text of a certificate is at most.
use Rattle.std.proofs.Common.{ℕ, ◌+◌, ◌*◌, ◌/◌, ◌%◌, ◌<◌, ◌≤◌, ◌^◌, List, [], ◌∷◌, ◌++◌, length, map, Bool, true, false, cond, nat_lt, codes, arith, length-append}
use Rattle.std.proofs.lemmas.Fmt.{length-decimal-le}
use Rattle.std.proofs.lemmas.List.Elements.{All-tail}
use Rattle.std.specs.Char.{digit_char}
use Rattle.std.specs.Prelude.{All}
use Rattle.json.specs.Print.{escape_letter, escape_byte, escape, quoted}
use Rattle.serde_json.specs.Data.{Data, number, unsigned, string, array, Members, no_members, member}
use Rattle.serde_json.specs.View.{items_of}
use Rattle.serde_json.specs.Written.{comma_if, compact_text, items_text, members_text}
use Rattle.dc_cert.specs.NamedRows.{NamedInput, NamedOutput, NamedLabel, NamedRows}
use Rattle.dc_cert.specs.Limits.{IsWithinLimits, InputFits, OutputFits, LabelFits, ClaimsFit}
use Rattle.dc_cert.specs.Printing.{input_data, output_data, label_data, claims_data, claims_text}
use Rattle.dc_document.specs.Names.{IsSpelled}

either_short : (b : Bool) (xs ys : List ℕ) → length xs ≤ 6 → length ys ≤ 6 → length (cond b xs ys) ≤ 6
either_short true xs ys h k = h
either_short false xs ys h k = k

length-escape_byte : (x : ℕ) → length (escape_byte x) ≤ 6
unfolding escape_byte
length-escape_byte x =
    let rule = 92 ∷ 117 ∷ 48 ∷ 48 ∷ digit_char (x / 16) ∷ digit_char (x % 16) ∷ [] in
    let longer : length (cond (nat_lt x 32) rule (x ∷ [])) ≤ 6 = either_short (nat_lt x 32) rule (x ∷ []) (omega arith) (omega arith) in
    either_short (nat_lt 0 (escape_letter x)) (92 ∷ escape_letter x ∷ []) (cond (nat_lt x 32) rule (x ∷ [])) (omega arith) longer

length-escape : (s : List ℕ) → length (escape s) ≤ 6 * length s
length-escape [] = omega arith
length-escape (x ∷ s) = let here = length-escape_byte x in let rest = length-escape s in omega (arith, length-append (escape_byte x) (escape s))

pub length-quoted : (s : List ℕ) → length (quoted s) ≤ 6 * length s + 2
length-quoted s = let inner = length-escape s in omega (arith, length-append (escape s) (34 ∷ []))

length-comma_if : (later : Bool) → length (comma_if later) ≤ 1
length-comma_if true = omega arith
length-comma_if false = omega arith

pub length-member : (later : Bool) (k : List ℕ) (d : Data) (ms : Members)
    → length (members_text later (member k d ms)) ≤ 6 * length k + 4 + length (compact_text d) + length (members_text true ms)
length-member later k d ms =
    let comma = length-comma_if later in
    let key = length-quoted k in
    omega (arith, length-append (comma_if later) (quoted k ++ 58 ∷ (compact_text d ++ members_text true ms)), length-append (quoted k) (58 ∷ (compact_text d ++ members_text true ms)), length-append (compact_text d) (members_text true ms))

pub length-number : (n : ℕ) → n < 2 ^ 32 → length (compact_text (number (unsigned n))) ≤ 10
length-number n h = length-decimal-le 10 n (omega arith) (omega arith) (omega arith)

pub length-items : {C : Type 0} (printed : C → Data) (k : ℕ) (P : C → Type 0) → ((x : C) → P x → length (compact_text (printed x)) ≤ k) → (later : Bool) (xs : List C) → All P xs
    → length (items_text later (items_of (map printed xs))) ≤ (k + 1) * length xs + 1
length-items printed k P each later [] all = omega arith
length-items printed k P each later (x ∷ xs) all =
    let comma = length-comma_if later in
    let here = each x (all 0 x (omega arith)) in
    let rest = length-items printed k P each true xs (All-tail P x xs all) in
    omega (arith, length-append (comma_if later) (compact_text (printed x) ++ items_text true (items_of (map printed xs))), length-append (compact_text (printed x)) (items_text true (items_of (map printed xs))))

-- ---- a certificate within the limits

length-name : (s : List ℕ) → IsSpelled s → length (compact_text (string s)) ≤ 98
length-name s named = let short = named.most in let text = length-quoted s in omega arith

length-input_data : (x : NamedInput) → InputFits x → length (compact_text (input_data x)) ≤ 300
length-input_data x h =
    let backlog = length-number x.backlog h.backlog in
    let bus = length-name x.bus h.named in
    let delay = length-number x.delay h.delay in
    let window = length-number x.window h.window in
    let fourth = member (codes "window") (number (unsigned x.window)) no_members in
    let third = member (codes "delay") (number (unsigned x.delay)) fourth in
    let second = member (codes "bus") (string x.bus) third in
    omega (
      arith,
      length-member false (codes "backlog") (number (unsigned x.backlog)) second,
      length-member true (codes "bus") (string x.bus) third,
      length-member true (codes "delay") (number (unsigned x.delay)) fourth,
      length-member true (codes "window") (number (unsigned x.window)) no_members,
    )

length-output_data : (x : NamedOutput) → OutputFits x → length (compact_text (output_data x)) ≤ 250
length-output_data x h =
    let delay = length-number x.delay h.delay in
    let output = length-name x.output h.named in
    let window = length-number x.window h.window in
    let third = member (codes "window") (number (unsigned x.window)) no_members in
    let second = member (codes "output") (string x.output) third in
    omega (
      arith,
      length-member false (codes "delay") (number (unsigned x.delay)) second,
      length-member true (codes "output") (string x.output) third,
      length-member true (codes "window") (number (unsigned x.window)) no_members,
    )

length-label_data : (x : NamedLabel) → LabelFits x → length (compact_text (label_data x)) ≤ 200
length-label_data x h =
    let age = length-number x.age h.age in
    let label = length-name x.label h.named in
    let second = member (codes "label") (string x.label) no_members in
    omega (arith, length-member false (codes "age") (number (unsigned x.age)) second, length-member true (codes "label") (string x.label) no_members)

pub length-claims_text : (claims : NamedRows) → IsWithinLimits claims → ClaimsFit claims → length (claims_text claims) ≤ 1048576
unfolding claims_text
length-claims_text claims limits fit =
    let inputs = length-items input_data 300 InputFits length-input_data false claims.inputs fit.inputs_fit in
    let outputs = length-items output_data 250 OutputFits length-output_data false claims.outputs fit.outputs_fit in
    let labels = length-items label_data 200 LabelFits length-label_data false claims.labels fit.labels_fit in
    let few_inputs = limits.few_inputs in
    let few_outputs = limits.few_outputs in
    let few_labels = limits.few_labels in
    let fourth = member (codes "version") (number (unsigned 1)) no_members in
    let third = member (codes "outputs") (array (items_of (map output_data claims.outputs))) fourth in
    let second = member (codes "labels") (array (items_of (map label_data claims.labels))) third in
    let one = length-number 1 (omega arith) in
    omega (
      arith,
      length-append (compact_text (claims_data claims)) (10 ∷ []),
      length-member false (codes "inputs") (array (items_of (map input_data claims.inputs))) second,
      length-member true (codes "labels") (array (items_of (map label_data claims.labels))) third,
      length-member true (codes "outputs") (array (items_of (map output_data claims.outputs))) fourth,
      length-member true (codes "version") (number (unsigned 1)) no_members,
    )
