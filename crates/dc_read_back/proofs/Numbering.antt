-- Texts that are read as numbers are the digits of these numbers.
use Rattle.std.proofs.Common.{◌≡◌, ℕ, ◌+◌, ◌^◌, ◌&&◌, Option, Some, None, List, nat_lt, refl, sym, ap, ◌∙◌, inl, inr, codes, decimal}
use Rattle.std.proofs.lemmas.Bool.{and_parts, cases_Bool, cond-false, cond-true}
use Rattle.std.proofs.lemmas.Slice.Eq.{bytes_eq-Decides}
use Rattle.std.specs.Prelude.{option_and_then, option_map}
use Rattle.std.specs.Str.{bytes_eq}
use Rattle.std.specs.Str.Parse.{digits_value}
use Rattle.dc_observe.specs.declared.labels.LabelNumbers.{LabelNumbers}
use Rattle.dc_run_observe.specs.Lines.{maybe_text}
use Rattle.dc_seen.specs.Kinds.{field}
use Rattle.dc_seen.specs.Numbers.{is_decimal, maybe_number_of, number_if, number_of}
use Rattle.dc_seen.specs.Rows.{input_numbers, label_numbers, label_rest, maybe_beside, number_beside, output_numbers, seen_input, seen_label, seen_output}
use Rattle.dc_seen.specs.declared.rows.InputNumbers.{InputNumbers}
use Rattle.dc_seen.specs.declared.rows.OutputNumbers.{OutputNumbers}

-- ---- one number

number_if_says : (text : List ℕ) (m n : ℕ) → number_if text m ≡ Some n → text ≡ decimal n
number_if_says text m n is = elim (cases_Bool (nat_lt m (2 ^ 64) && is_decimal text m)) [
  | inl e ↦
      let whole : number_if text m ≡ Some m = cond-true (nat_lt m (2 ^ 64) && is_decimal text m) (Some m) None e in
      let same : m ≡ n = cc in
      (bytes_eq-Decides text (decimal m)).0 (and_parts (nat_lt m (2 ^ 64)) (is_decimal text m) e).1 ∙ ap decimal same
  | inr e ↦ let none : number_if text m ≡ None = cond-false (nat_lt m (2 ^ 64) && is_decimal text m) (Some m) None e in absurd (cc)
]

number_says : (text : List ℕ) (n : ℕ) → number_of text ≡ Some n → text ≡ decimal n
unfolding number_of
number_says text n is = number_if_says text (digits_value 10 text) n is

maybe_digits : (text : List ℕ) (o n : Option ℕ) → number_of text ≡ n → option_map (λ m. Some m) n ≡ Some o → text ≡ maybe_text o
maybe_digits text o None is mapped = absurd (cc)
maybe_digits text o (Some n) is mapped = (let same : Some n ≡ o = cc in number_says text n is ∙ ap maybe_text same)

maybe_says : (text : List ℕ) (o : Option ℕ) → maybe_number_of text ≡ Some o → text ≡ maybe_text o
unfolding maybe_number_of
maybe_says text o is = elim (cases_Bool (bytes_eq text (codes "-"))) [
  | inl e ↦
      let dash : maybe_number_of text ≡ Some None = cond-true (bytes_eq text (codes "-")) (Some None) (option_map (λ m. Some m) (number_of text)) e in
      let none : None ≡ o = cc in
      (bytes_eq-Decides text (codes "-")).0 e ∙ ap maybe_text none
  | inr e ↦ maybe_digits text o (number_of text) refl (sym (cond-false (bytes_eq text (codes "-")) (Some None) (option_map (λ m. Some m) (number_of text)) e) ∙ is)
]

-- ---- one beside its bound

beside_says : (fields : List (List ℕ)) (k bound n : ℕ) → number_beside fields k bound ≡ Some n → (field fields k ≡ decimal n) × (field fields (k + 2) ≡ decimal bound)
beside_says fields k bound n is = elim (cases_Bool (is_decimal (field fields (k + 2)) bound)) [
  | inl e ↦ (
    number_says (field fields k) n (sym (cond-true (is_decimal (field fields (k + 2)) bound) (number_of (field fields k)) None e) ∙ is),
    (bytes_eq-Decides (field fields (k + 2)) (decimal bound)).0 e,
  )
  | inr e ↦ let none : number_beside fields k bound ≡ None = cond-false (is_decimal (field fields (k + 2)) bound) (number_of (field fields k)) None e in absurd (cc)
]

maybe_beside_says : (fields : List (List ℕ)) (k bound : ℕ) (o : Option ℕ) → maybe_beside fields k bound ≡ Some o → (field fields k ≡ maybe_text o) × (field fields (k + 2) ≡ decimal bound)
maybe_beside_says fields k bound o is = elim (cases_Bool (is_decimal (field fields (k + 2)) bound)) [
  | inl e ↦ (
    maybe_says (field fields k) o (sym (cond-true (is_decimal (field fields (k + 2)) bound) (maybe_number_of (field fields k)) None e) ∙ is),
    (bytes_eq-Decides (field fields (k + 2)) (decimal bound)).0 e,
  )
  | inr e ↦ let none : maybe_beside fields k bound ≡ None = cond-false (is_decimal (field fields (k + 2)) bound) (maybe_number_of (field fields k)) None e in absurd (cc)
]

-- ---- those of a line

and_then_says : {A B : Type 0} (f : A → Option B) (o : Option A) (y : B) → option_and_then f o ≡ Some y → (x : A) × (o ≡ Some x) × (f x ≡ Some y)
and_then_says f None y is = absurd (cc)
and_then_says f (Some x) y is = (x, refl, is)

map_says : {A B : Type 0} (f : A → B) (o : Option A) (y : B) → option_map f o ≡ Some y → (x : A) × (o ≡ Some x) × (f x ≡ y)
map_says f None y is = absurd (cc)
map_says f (Some x) y is = (let same : f x ≡ y = cc in (x, refl, same))

pub record InputTexts (fields : List (List ℕ)) (x : InputNumbers) (most delay : ℕ) : Type 0 where
  pub backlog_text : field fields 3 ≡ decimal x.backlog
  pub most_text : field fields 5 ≡ decimal most
  pub wait_text : field fields 7 ≡ decimal x.wait
  pub delay_text : field fields 9 ≡ decimal delay

input_from : (most delay : ℕ) (fields : List (List ℕ)) (x : InputNumbers) (b w : ℕ) → number_beside fields 3 most ≡ Some b → number_beside fields 7 delay ≡ Some w → seen_input b w ≡ x
    → InputTexts fields x most delay
input_from most delay fields x b w first second same =
    let p = beside_says fields 3 most b first in
    let q = beside_says fields 7 delay w second in
    record {
      backlog_text = p.0 ∙ ap (λ (r : InputNumbers). decimal r.backlog) same;
      most_text = p.1;
      wait_text = q.0 ∙ ap (λ (r : InputNumbers). decimal r.wait) same;
      delay_text = q.1;
    }

pub input_texts : (most delay : ℕ) (fields : List (List ℕ)) (x : InputNumbers) → input_numbers most delay fields ≡ Some x → InputTexts fields x most delay
input_texts most delay fields x h =
    let (b, first, more) = and_then_says (λ backlog. option_map (λ wait. seen_input backlog wait) (number_beside fields 7 delay)) (number_beside fields 3 most) x h in
    let (w, second, same) = map_says (λ wait. seen_input b wait) (number_beside fields 7 delay) x more in
    input_from most delay fields x b w first second same

pub record OutputTexts (fields : List (List ℕ)) (x : OutputNumbers) (delay : ℕ) : Type 0 where
  pub late_text : field fields 3 ≡ decimal x.late
  pub delay_text : field fields 5 ≡ decimal delay

pub output_texts : (delay : ℕ) (fields : List (List ℕ)) (x : OutputNumbers) → output_numbers delay fields ≡ Some x → OutputTexts fields x delay
output_texts delay fields x h =
    let (l, first, same) = map_says (λ late. seen_output late) (number_beside fields 3 delay) x h in
    let p = beside_says fields 3 delay l first in
    record { late_text = p.0 ∙ ap (λ (r : OutputNumbers). decimal r.late) same; delay_text = p.1 }

pub record LabelTexts (fields : List (List ℕ)) (x : LabelNumbers) (age minimum maximum : ℕ) : Type 0 where
  pub sent_text : field fields 3 ≡ decimal x.sent
  pub fallback_text : field fields 5 ≡ decimal x.fallback
  pub oldest_text : field fields 7 ≡ maybe_text x.age
  pub age_text : field fields 9 ≡ decimal age
  pub least_text : field fields 11 ≡ maybe_text x.least
  pub minimum_text : field fields 13 ≡ decimal minimum
  pub greatest_text : field fields 15 ≡ decimal x.greatest
  pub maximum_text : field fields 17 ≡ decimal maximum

label_from : (age minimum maximum : ℕ) (fields : List (List ℕ)) (x : LabelNumbers) (s f : ℕ) (o l : Option ℕ) (g : ℕ) → number_of (field fields 3) ≡ Some s → number_of (field fields 5) ≡ Some f
    → maybe_beside fields 7 age ≡ Some o → maybe_beside fields 11 minimum ≡ Some l → number_beside fields 15 maximum ≡ Some g → seen_label s f o l g ≡ x → LabelTexts fields x age minimum maximum
label_from age minimum maximum fields x s f o l g first second third fourth fifth same =
    let p = maybe_beside_says fields 7 age o third in
    let q = maybe_beside_says fields 11 minimum l fourth in
    let r = beside_says fields 15 maximum g fifth in
    record {
      sent_text = number_says (field fields 3) s first ∙ ap (λ (n : LabelNumbers). decimal n.sent) same;
      fallback_text = number_says (field fields 5) f second ∙ ap (λ (n : LabelNumbers). decimal n.fallback) same;
      oldest_text = p.0 ∙ ap (λ (n : LabelNumbers). maybe_text n.age) same;
      age_text = p.1;
      least_text = q.0 ∙ ap (λ (n : LabelNumbers). maybe_text n.least) same;
      minimum_text = q.1;
      greatest_text = r.0 ∙ ap (λ (n : LabelNumbers). decimal n.greatest) same;
      maximum_text = r.1;
    }

label_more : (age minimum maximum : ℕ) (fields : List (List ℕ)) (x : LabelNumbers) (s f : ℕ) → number_of (field fields 3) ≡ Some s → number_of (field fields 5) ≡ Some f
    → label_rest s f age minimum maximum fields ≡ Some x → LabelTexts fields x age minimum maximum
label_more age minimum maximum fields x s f first second rest =
    let (o, third, left) =
    and_then_says (λ oldest. option_and_then (λ least. option_map (λ greatest. seen_label s f oldest least greatest) (number_beside fields 15 maximum)) (maybe_beside fields 11 minimum)) (maybe_beside fields 7 age) x rest in
    let (l, fourth, last) = and_then_says (λ least. option_map (λ greatest. seen_label s f o least greatest) (number_beside fields 15 maximum)) (maybe_beside fields 11 minimum) x left in
    let (g, fifth, same) = map_says (λ greatest. seen_label s f o l greatest) (number_beside fields 15 maximum) x last in
    label_from age minimum maximum fields x s f o l g first second third fourth fifth same

pub label_texts : (age minimum maximum : ℕ) (fields : List (List ℕ)) (x : LabelNumbers) → label_numbers age minimum maximum fields ≡ Some x → LabelTexts fields x age minimum maximum
label_texts age minimum maximum fields x h =
    let (s, first, more) = and_then_says (λ sent. option_and_then (λ fallback. label_rest sent fallback age minimum maximum fields) (number_of (field fields 5))) (number_of (field fields 3)) x h in
    let (f, second, rest) = and_then_says (λ fallback. label_rest s fallback age minimum maximum fields) (number_of (field fields 5)) x more in
    label_more age minimum maximum fields x s f first second rest
