-- The printed lines, by their fields.
use Rattle.std.proofs.Common.{◌≡◌, ℕ, ◌≤◌, Option, Some, None, List, [], ◌∷◌, ◌++◌, length, refl, sym, ap, subst, codes, decimal, arith, append_assoc}
use Rattle.std.proofs.lemmas.Fmt.{length-decimal-le}
use Rattle.std.specs.Prelude.{IfSome}
use Rattle.dc_device.specs.Lines.{NoFeed}
use Rattle.dc_document.specs.Names.{IsSpelled}
use Rattle.dc_observe.specs.declared.labels.LabelNumbers.{LabelNumbers}
use Rattle.dc_run_observe.specs.Lines.{input_text, label_text, maybe_text, output_text}
use Rattle.dc_read_back.specs.Printed.{IsSmall, LabelIsSmall}
use Rattle.dc_read_back.proofs.Spaced.{ArePlain, IsPlain, plain_decimal, plain_name, plain_text, room_of, spaced, spaced_plain, spaced_short}

-- ---- the fields of each kind

abbrev pub input_fields : (name backlog most wait delay : List ℕ) → List (List ℕ)
input_fields name backlog most wait delay =
    codes "input" ∷ name ∷ codes "backlog" ∷ backlog ∷ codes "of" ∷ most ∷ codes "wait" ∷ wait ∷ codes "of" ∷ delay ∷ []

abbrev pub output_fields : (name late delay : List ℕ) → List (List ℕ)
output_fields name late delay = codes "output" ∷ name ∷ codes "late" ∷ late ∷ codes "of" ∷ delay ∷ []

abbrev pub label_fields : (name sent fallback oldest age least minimum greatest maximum : List ℕ) → List (List ℕ)
label_fields name sent fallback oldest age least minimum greatest maximum =
    codes "label" ∷ name ∷ codes "sent" ∷ sent ∷ codes "fallback" ∷ fallback ∷ codes "age" ∷ oldest ∷ codes "of" ∷ age ∷ codes "least" ∷ least ∷ codes "of" ∷ minimum ∷ codes "greatest"
    ∷ greatest ∷ codes "of" ∷ maximum ∷ []

-- ---- a line is its fields with spaces between them

input_regroup : (i n k1 b o m k2 w d : List ℕ) → ((i ++ n) ++ (((k1 ++ b) ++ o) ++ m)) ++ (((k2 ++ w) ++ o) ++ d) ≡ i ++ (n ++ (k1 ++ (b ++ (o ++ (m ++ (k2 ++ (w ++ (o ++ d))))))))
input_regroup i n k1 b o m k2 w d = simp append_assoc

pub input_spaced : (name : List ℕ) (backlog most wait delay : ℕ)
    → input_text name backlog most wait delay ≡ spaced (input_fields name (decimal backlog) (decimal most) (decimal wait) (decimal delay))
input_spaced name backlog most wait delay =
    input_regroup (codes "input ") name (codes " backlog ") (decimal backlog) (codes " of ") (decimal most) (codes " wait ") (decimal wait) (decimal delay)

output_regroup : (i n k l o d : List ℕ) → (i ++ n) ++ (((k ++ l) ++ o) ++ d) ≡ i ++ (n ++ (k ++ (l ++ (o ++ d))))
output_regroup i n k l o d = simp append_assoc

pub output_spaced : (name : List ℕ) (late delay : ℕ) → output_text name late delay ≡ spaced (output_fields name (decimal late) (decimal delay))
output_spaced name late delay = output_regroup (codes "output ") name (codes " late ") (decimal late) (codes " of ") (decimal delay)

label_regroup : (i n k1 s k2 f k3 a o x k4 l y k5 g z : List ℕ)
    → ((i ++ n) ++ ((k1 ++ s) ++ (k2 ++ f))) ++ (((((k3 ++ a) ++ o) ++ x) ++ (((k4 ++ l) ++ o) ++ y)) ++ (((k5 ++ g) ++ o) ++ z))
    ≡ i ++ (n ++ (k1 ++ (s ++ (k2 ++ (f ++ (k3 ++ (a ++ (o ++ (x ++ (k4 ++ (l ++ (o ++ (y ++ (k5 ++ (g ++ (o ++ z))))))))))))))))
label_regroup i n k1 s k2 f k3 a o x k4 l y k5 g z = simp append_assoc

pub label_spaced : (name : List ℕ) (n : LabelNumbers) (age minimum maximum : ℕ)
    → label_text name n age minimum maximum
    ≡ spaced (label_fields name (decimal n.sent) (decimal n.fallback) (maybe_text n.age) (decimal age) (maybe_text n.least) (decimal minimum) (decimal n.greatest) (decimal maximum))
label_spaced name n age minimum maximum =
    label_regroup (codes "label ") name (codes " sent ") (decimal n.sent) (codes " fallback ") (decimal n.fallback) (codes " age ") (maybe_text n.age) (codes " of ") (decimal age) (codes " least ") (maybe_text n.least)
    (decimal minimum) (codes " greatest ") (decimal n.greatest) (decimal maximum)

-- ---- no field has a space or a line feed

plain_maybe : (n : Option ℕ) → IfSome n IsSmall → IsPlain (maybe_text n)
plain_maybe None small = plain_text (codes "-") refl
plain_maybe (Some n) small = plain_decimal n small

pub input_plain : (name : List ℕ) (backlog most wait delay : ℕ) → IsSpelled name → IsSmall backlog → IsSmall most → IsSmall wait → IsSmall delay
    → ArePlain (input_fields name (decimal backlog) (decimal most) (decimal wait) (decimal delay))
input_plain name backlog most wait delay named b m w d = (
  plain_text (codes "input") refl,
  (
    plain_name name named,
    (plain_text (codes "backlog") refl, (plain_decimal backlog b, (plain_text (codes "of") refl, (plain_decimal most m, (plain_text (codes "wait") refl, (plain_decimal wait w, (plain_text (codes "of") refl, (plain_decimal delay d, tt)))))))),
  ),
)

pub output_plain : (name : List ℕ) (late delay : ℕ) → IsSpelled name → IsSmall late → IsSmall delay → ArePlain (output_fields name (decimal late) (decimal delay))
output_plain name late delay named l d =
    (plain_text (codes "output") refl, (plain_name name named, (plain_text (codes "late") refl, (plain_decimal late l, (plain_text (codes "of") refl, (plain_decimal delay d, tt))))))

label_bounds_plain : (oldest least : Option ℕ) (age minimum greatest maximum : ℕ) → IfSome oldest IsSmall → IfSome least IsSmall → IsSmall age → IsSmall minimum → IsSmall greatest → IsSmall maximum
    → ArePlain (codes "age" ∷ maybe_text oldest ∷ codes "of" ∷ decimal age ∷ codes "least" ∷ maybe_text least ∷ codes "of" ∷ decimal minimum ∷ codes "greatest" ∷ decimal greatest ∷ codes "of" ∷ decimal maximum ∷ [])
label_bounds_plain oldest least age minimum greatest maximum o l a m g x =
    (plain_text (codes "age") refl, (plain_maybe oldest o, (plain_text (codes "of") refl, (plain_decimal age a, (plain_text (codes "least") refl, (plain_maybe least l, (plain_text (codes "of") refl, (plain_decimal minimum m, (plain_text (codes "greatest") refl, (plain_decimal greatest g, (plain_text (codes "of") refl, (plain_decimal maximum x, tt))))))))))))

pub label_plain : (name : List ℕ) (n : LabelNumbers) (age minimum maximum : ℕ) → IsSpelled name → LabelIsSmall n → IsSmall age → IsSmall minimum → IsSmall maximum
    → ArePlain (label_fields name (decimal n.sent) (decimal n.fallback) (maybe_text n.age) (decimal age) (maybe_text n.least) (decimal minimum) (decimal n.greatest) (decimal maximum))
label_plain name n age minimum maximum named small a m x = (
  plain_text (codes "label") refl,
  (
    plain_name name named,
    (
      plain_text (codes "sent") refl,
      (
        plain_decimal n.sent small.sent,
        (
          plain_text (codes "fallback") refl,
          (
            plain_decimal n.fallback small.fallback,
            label_bounds_plain n.age n.least age minimum n.greatest maximum small.age small.least a m small.greatest x,
          ),
        ),
      ),
    ),
  ),
)

-- ---- no line is longer than a line may be

length_decimal : (n : ℕ) → IsSmall n → length (decimal n) ≤ 20
length_decimal n small = length-decimal-le 20 n (omega arith) (omega arith) small

length_maybe : (n : Option ℕ) → IfSome n IsSmall → length (maybe_text n) ≤ 20
length_maybe None small = omega arith
length_maybe (Some n) small = length_decimal n small

pub input_short : (name : List ℕ) (backlog most wait delay : ℕ) → IsSpelled name → IsSmall backlog → IsSmall most → IsSmall wait → IsSmall delay
    → room_of (input_fields name (decimal backlog) (decimal most) (decimal wait) (decimal delay)) ≤ 256
input_short name backlog most wait delay named b m w d =
    omega (arith, named.most, length_decimal backlog b, length_decimal most m, length_decimal wait w, length_decimal delay d)

pub output_short : (name : List ℕ) (late delay : ℕ) → IsSpelled name → IsSmall late → IsSmall delay → room_of (output_fields name (decimal late) (decimal delay)) ≤ 256
output_short name late delay named l d = omega (arith, named.most, length_decimal late l, length_decimal delay d)

pub label_short : (name : List ℕ) (n : LabelNumbers) (age minimum maximum : ℕ) → IsSpelled name → LabelIsSmall n → IsSmall age → IsSmall minimum → IsSmall maximum
    → room_of (label_fields name (decimal n.sent) (decimal n.fallback) (maybe_text n.age) (decimal age) (maybe_text n.least) (decimal minimum) (decimal n.greatest) (decimal maximum)) ≤ 256
label_short name n age minimum maximum named small a m x =
    omega (
      arith,
      named.most,
      length_decimal n.sent small.sent,
      length_decimal n.fallback small.fallback,
      length_maybe n.age small.age,
      length_decimal age a,
      length_maybe n.least small.least,
      length_decimal minimum m,
      length_decimal n.greatest small.greatest,
      length_decimal maximum x,
    )

-- ---- a printed line has no line feed, and is no longer than a line may be

good : (text : List ℕ) (fields : List (List ℕ)) → text ≡ spaced fields → ArePlain fields → room_of fields ≤ 256 → NoFeed text × (length text ≤ 256)
good text fields is plain room = (subst NoFeed (sym is) (spaced_plain fields plain), omega (arith, ap length is, spaced_short fields, room))

pub input_good : (name : List ℕ) (backlog most wait delay : ℕ) → IsSpelled name → IsSmall backlog → IsSmall most → IsSmall wait → IsSmall delay
    → NoFeed (input_text name backlog most wait delay) × (length (input_text name backlog most wait delay) ≤ 256)
input_good name backlog most wait delay named b m w d =
    good (input_text name backlog most wait delay) (input_fields name (decimal backlog) (decimal most) (decimal wait) (decimal delay)) (input_spaced name backlog most wait delay)
    (input_plain name backlog most wait delay named b m w d) (input_short name backlog most wait delay named b m w d)

pub output_good : (name : List ℕ) (late delay : ℕ) → IsSpelled name → IsSmall late → IsSmall delay → NoFeed (output_text name late delay) × (length (output_text name late delay) ≤ 256)
output_good name late delay named l d =
    good (output_text name late delay) (output_fields name (decimal late) (decimal delay)) (output_spaced name late delay) (output_plain name late delay named l d) (output_short name late delay named l d)

pub label_good : (name : List ℕ) (n : LabelNumbers) (age minimum maximum : ℕ) → IsSpelled name → LabelIsSmall n → IsSmall age → IsSmall minimum → IsSmall maximum
    → NoFeed (label_text name n age minimum maximum) × (length (label_text name n age minimum maximum) ≤ 256)
label_good name n age minimum maximum named small a m x =
    good (label_text name n age minimum maximum)
    (label_fields name (decimal n.sent) (decimal n.fallback) (maybe_text n.age) (decimal age) (maybe_text n.least) (decimal minimum) (decimal n.greatest) (decimal maximum)) (label_spaced name n age minimum maximum)
    (label_plain name n age minimum maximum named small a m x) (label_short name n age minimum maximum named small a m x)
