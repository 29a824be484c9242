-- A line is its fields with spaces between them, and fields of a form are these.
use Rattle.std.proofs.Common.{◌≡◌, ℕ, zero, suc, ◌+◌, ◌*◌, ◌<◌, ◌==◌, Bool, true, false, if◌then◌else◌, List, [], ◌∷◌, length, Result, Ok, Err, refl, sym, ap, ◌∙◌, subst, inl, inr, codes, arith}
use Rattle.std.proofs.lemmas.Bool.{and_parts, cases_Bool, cond-false, cond-true, eqb-true}
use Rattle.std.proofs.lemmas.Slice.Eq.{bytes_eq-Decides}
use Rattle.dc_event.specs.TraceText.{fields_of, onto_field}
use Rattle.dc_seen.specs.Kinds.{are_words, field, formed, has_form, input_words, is_word, kind_of, label_words, output_words}
use Rattle.dc_seen.specs.declared.fault.SeenRule.{SeenRule}
use Rattle.dc_seen.specs.declared.fault.SeenRule.TheVariants.{KindUnknown}
use Rattle.dc_seen.specs.declared.kind.Kind.{Kind}
use Rattle.dc_seen.specs.declared.kind.Kind.TheVariants.{Input, Output, Label}
use Rattle.dc_read_back.proofs.Printing.{input_fields, label_fields, output_fields}
use Rattle.dc_read_back.proofs.Spaced.{spaced}

-- ---- a line and its fields

spaced_new : (fs : List (List ℕ)) → 0 < length fs → spaced ([] ∷ fs) ≡ 32 ∷ spaced fs
spaced_new [] some = absurd (omega arith)
spaced_new (f ∷ fs) some = refl

-- one byte more: a space begins a field, another byte goes on with one
one_more : (b : Bool) (c : ℕ) (cs : List ℕ) (fs : List (List ℕ)) → (b ≡ true → c ≡ 32) → 0 < length fs → spaced fs ≡ cs
    → (0 < length (if b then [] ∷ fs else onto_field c fs)) × (spaced (if b then [] ∷ fs else onto_field c fs) ≡ c ∷ cs)
one_more true c cs fs is some whole = (omega arith, spaced_new fs some ∙ (λ i. sym (is refl) i ∷ whole i))
one_more false c cs [] is some whole = absurd (omega (arith, some))
one_more false c cs (f ∷ []) is some whole = (omega arith, ap (λ l. c ∷ l) whole)
one_more false c cs (f ∷ g ∷ gs) is some whole = (omega arith, ap (λ l. c ∷ l) whole)

fields_whole : (text : List ℕ) → (0 < length (fields_of text)) × (spaced (fields_of text) ≡ text)
fields_whole [] = (omega arith, refl)
fields_whole (c ∷ cs) = (let w = fields_whole cs in one_more (c == 32) c cs (fields_of cs) (eqb-true c 32) w.0 w.1)

pub line_is : (line : List ℕ) (fields : List (List ℕ)) → fields_of line ≡ fields → line ≡ spaced fields
line_is line fields is = sym (fields_whole line).1 ∙ ap spaced is

-- ---- a list by its members

listed : ℕ → (ℕ → List ℕ) → List (List ℕ)
listed zero f = []
listed (suc n) f = f 0 ∷ listed n (λ k. f (suc k))

all_listed : (fs : List (List ℕ)) → fs ≡ listed (length fs) (λ k. field fs k)
unfolding listed
all_listed [] = refl
all_listed (f ∷ fs) = ap (λ l. f ∷ l) (all_listed fs)

-- ---- forms

form_says : (fields words : List (List ℕ)) → has_form fields words ≡ true → (length fields ≡ 2 + 2 * length words) × (are_words fields 2 words ≡ true)
unfolding has_form
form_says fields words h = (let p = and_parts (length fields == 2 + 2 * length words) (are_words fields 2 words) h in (eqb-true (length fields) (2 + 2 * length words) p.0, p.1))

word_says : (fields : List (List ℕ)) (k : ℕ) (word : List ℕ) (words : List (List ℕ)) → are_words fields k (word ∷ words) ≡ true → (field fields k ≡ word) × (are_words fields (k + 2) words ≡ true)
word_says fields k word words h = (let p = and_parts (is_word fields k word) (are_words fields (k + 2) words) h in ((bytes_eq-Decides (field fields k) word).0 p.0, p.1))

abbrev HasKind : List (List ℕ) → Kind → Type 0
HasKind fields Input = (field fields 0 ≡ codes "input") × (has_form fields input_words ≡ true)
HasKind fields Output = (field fields 0 ≡ codes "output") × (has_form fields output_words ≡ true)
HasKind fields Label = (field fields 0 ≡ codes "label") × (has_form fields label_words ≡ true)

formed_says : (kind found : Kind) (well : Bool) → formed kind well ≡ Ok found → (well ≡ true) × (kind ≡ found)
formed_says kind found true is = (refl, cc)
formed_says kind found false is = absurd (cc)

abbrev label_or : List (List ℕ) → Result Kind SeenRule
label_or fields = if is_word fields 0 (codes "label") then formed Label (has_form fields label_words) else Err KindUnknown

abbrev output_or : List (List ℕ) → Result Kind SeenRule
output_or fields = if is_word fields 0 (codes "output") then formed Output (has_form fields output_words) else label_or fields

label_kind_says : (fields : List (List ℕ)) (kind : Kind) → label_or fields ≡ Ok kind → HasKind fields kind
label_kind_says fields kind is = elim (cases_Bool (is_word fields 0 (codes "label"))) [
  | inl e ↦
      let p = formed_says Label kind (has_form fields label_words) (sym (cond-true (is_word fields 0 (codes "label")) (formed Label (has_form fields label_words)) (Err KindUnknown) e) ∙ is) in
      subst (λ k. HasKind fields k) p.1 ((bytes_eq-Decides (field fields 0) (codes "label")).0 e, p.0)
  | inr e ↦ let none : label_or fields ≡ Err KindUnknown = cond-false (is_word fields 0 (codes "label")) (formed Label (has_form fields label_words)) (Err KindUnknown) e in absurd (cc)
]

output_kind_says : (fields : List (List ℕ)) (kind : Kind) → output_or fields ≡ Ok kind → HasKind fields kind
output_kind_says fields kind is = elim (cases_Bool (is_word fields 0 (codes "output"))) [
  | inl e ↦
      let p = formed_says Output kind (has_form fields output_words) (sym (cond-true (is_word fields 0 (codes "output")) (formed Output (has_form fields output_words)) (label_or fields) e) ∙ is) in
      subst (λ k. HasKind fields k) p.1 ((bytes_eq-Decides (field fields 0) (codes "output")).0 e, p.0)
  | inr e ↦ label_kind_says fields kind (sym (cond-false (is_word fields 0 (codes "output")) (formed Output (has_form fields output_words)) (label_or fields) e) ∙ is)
]

kind_says : (fields : List (List ℕ)) (kind : Kind) → kind_of fields ≡ Ok kind → HasKind fields kind
unfolding kind_of
kind_says fields kind is = elim (cases_Bool (is_word fields 0 (codes "input"))) [
  | inl e ↦
      let p = formed_says Input kind (has_form fields input_words) (sym (cond-true (is_word fields 0 (codes "input")) (formed Input (has_form fields input_words)) (output_or fields) e) ∙ is) in
      subst (λ k. HasKind fields k) p.1 ((bytes_eq-Decides (field fields 0) (codes "input")).0 e, p.0)
  | inr e ↦ output_kind_says fields kind (sym (cond-false (is_word fields 0 (codes "input")) (formed Input (has_form fields input_words)) (output_or fields) e) ∙ is)
]

-- the fields of an input, of an output, of a label
pub input_shape : (fields : List (List ℕ)) → kind_of fields ≡ Ok Input → fields ≡ input_fields (field fields 1) (field fields 3) (field fields 5) (field fields 7) (field fields 9)
unfolding listed
input_shape fields is =
    let kind : HasKind fields Input = kind_says fields Input is in
    let form = form_says fields input_words kind.1 in
    let w2 = word_says fields 2 (codes "backlog") (codes "of" ∷ codes "wait" ∷ codes "of" ∷ []) form.1 in
    let w4 = word_says fields 4 (codes "of") (codes "wait" ∷ codes "of" ∷ []) w2.1 in
    let w6 = word_says fields 6 (codes "wait") (codes "of" ∷ []) w4.1 in
    let w8 = word_says fields 8 (codes "of") [] w6.1 in
    all_listed fields ∙ ap (λ n. listed n (λ k. field fields k)) form.0
    ∙ (λ i. kind.0 i ∷ field fields 1 ∷ w2.0 i ∷ field fields 3 ∷ w4.0 i ∷ field fields 5 ∷ w6.0 i ∷ field fields 7 ∷ w8.0 i ∷ field fields 9 ∷ [])

pub output_shape : (fields : List (List ℕ)) → kind_of fields ≡ Ok Output → fields ≡ output_fields (field fields 1) (field fields 3) (field fields 5)
unfolding listed
output_shape fields is =
    let kind : HasKind fields Output = kind_says fields Output is in
    let form = form_says fields output_words kind.1 in
    let w2 = word_says fields 2 (codes "late") (codes "of" ∷ []) form.1 in
    let w4 = word_says fields 4 (codes "of") [] w2.1 in
    all_listed fields ∙ ap (λ n. listed n (λ k. field fields k)) form.0 ∙ (λ i. kind.0 i ∷ field fields 1 ∷ w2.0 i ∷ field fields 3 ∷ w4.0 i ∷ field fields 5 ∷ [])

pub label_shape : (fields : List (List ℕ)) → kind_of fields ≡ Ok Label
    → fields ≡ label_fields (field fields 1) (field fields 3) (field fields 5) (field fields 7) (field fields 9) (field fields 11) (field fields 13) (field fields 15) (field fields 17)
unfolding listed
label_shape fields is =
    let kind : HasKind fields Label = kind_says fields Label is in
    let form = form_says fields label_words kind.1 in
    let w2 = word_says fields 2 (codes "sent") (codes "fallback" ∷ codes "age" ∷ codes "of" ∷ codes "least" ∷ codes "of" ∷ codes "greatest" ∷ codes "of" ∷ []) form.1 in
    let w4 = word_says fields 4 (codes "fallback") (codes "age" ∷ codes "of" ∷ codes "least" ∷ codes "of" ∷ codes "greatest" ∷ codes "of" ∷ []) w2.1 in
    let w6 = word_says fields 6 (codes "age") (codes "of" ∷ codes "least" ∷ codes "of" ∷ codes "greatest" ∷ codes "of" ∷ []) w4.1 in
    let w8 = word_says fields 8 (codes "of") (codes "least" ∷ codes "of" ∷ codes "greatest" ∷ codes "of" ∷ []) w6.1 in
    let w10 = word_says fields 10 (codes "least") (codes "of" ∷ codes "greatest" ∷ codes "of" ∷ []) w8.1 in
    let w12 = word_says fields 12 (codes "of") (codes "greatest" ∷ codes "of" ∷ []) w10.1 in
    let w14 = word_says fields 14 (codes "greatest") (codes "of" ∷ []) w12.1 in
    let w16 = word_says fields 16 (codes "of") [] w14.1 in
    all_listed fields ∙ ap (λ n. listed n (λ k. field fields k)) form.0
    ∙ (λ i. kind.0 i ∷ field fields 1 ∷ w2.0 i ∷ field fields 3 ∷ w4.0 i ∷ field fields 5 ∷ w6.0 i ∷ field fields 7 ∷ w8.0 i ∷ field fields 9 ∷ w10.0 i ∷ field fields 11 ∷ w12.0 i ∷ field fields 13 ∷ w14.0 i ∷ field fields 15 ∷ w16.0 i ∷ field fields 17 ∷ [])
