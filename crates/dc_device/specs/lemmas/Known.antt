-- Lemmas on known bytes: what was written and read, in one step after another.
use Rattle.std.proofs.Common.{◌≡◌, ℕ, List, [], ◌++◌, sym, ◌∙◌, ap, append_assoc, append-nil, Option, Result, Ok, Err, subst, take, drop, take-append-drop}
use Rattle.std.proofs.KnownBytes.{Appends-trans}
use Rattle.std.specs.Io.KnownBytes.{Appends}
use Rattle.dc_device.specs.Bytes.{AppendsFront, Gathered, Gathers, Writes}

-- a front of some bytes is a front of more bytes
pub front_more : (r s : Option (List ℕ)) (xs ys : List ℕ) → AppendsFront r s xs → AppendsFront r s (xs ++ ys)
front_more r s xs ys (front, back, whole, p) =
    (front, back ++ ys, sym (append_assoc front back ys) ∙ ap (λ l. l ++ ys) whole, p)

pub front_after : (r s t : Option (List ℕ)) (xs ys : List ℕ) → Appends r s xs → AppendsFront s t ys → AppendsFront r t (xs ++ ys)
front_after r s t xs ys p (front, back, whole, q) =
    (xs ++ front, back, append_assoc xs front back ∙ ap (λ l. xs ++ l) whole, Appends-trans r s t xs front p q)

-- one more push of a slice's front
pub push_more : (r s t : Option (List ℕ)) (front rest all : List ℕ) (n : ℕ) → front ++ rest ≡ all → Appends r s front → Appends s t (take n rest)
    → (done : List ℕ) × (done ++ drop n rest ≡ all) × Appends r t done
push_more r s t front rest all n whole p q = (
  front ++ take n rest,
  append_assoc front (take n rest) (drop n rest) ∙ ap (λ l. front ++ l) (take-append-drop n rest) ∙ whole,
  Appends-trans r s t front (take n rest) p q,
)

-- what waited was pushed, and then bytes, and nothing waits
pub pushed_then_pushed : {T E : Type 0} (r s t : Option (List ℕ)) (old mid empty new bytes : List ℕ) (result : Result T E) → mid ≡ old → Appends r s mid
    → Writes s t bytes result → empty ≡ [] → new ≡ empty → Gathers r old t new bytes result
pushed_then_pushed r s t old mid empty new bytes (Ok x) same p q e f = (
  mid ++ bytes,
  Appends-trans r s t mid bytes p q,
  ap (λ l. (mid ++ bytes) ++ l) (f ∙ e) ∙ append-nil (mid ++ bytes) ∙ ap (λ l. l ++ bytes) same,
)
pushed_then_pushed r s t old mid empty new bytes (Err x) same p q e f =
    (subst (λ l. AppendsFront r t (l ++ bytes)) same (front_after r s t mid bytes p q), f ∙ e)

-- what waited was pushed in part
pub given_up : {T E : Type 0} (r s : Option (List ℕ)) (old mid new bytes : List ℕ) (result : Result T E) (e : E) → result ≡ Err e → mid ≡ old
    → AppendsFront r s mid → new ≡ [] → Gathers r old s new bytes result
given_up r s old mid new bytes result e is same p empty =
    rw is (front_more r s old bytes (subst (AppendsFront r s) same p), empty)

-- one write after another, the first of which went well
pub gathers_after : {T E : Type 0} (r s t : Option (List ℕ)) (a b c xs ys : List ℕ) (result : Result T E)
    → Gathered r a s b xs → Gathers s b t c ys result → Gathers r a t c (xs ++ ys) result
gathers_after r s t a b c xs ys (Ok x) (front, p, whole) (more, q, rest) = (
  front ++ more,
  Appends-trans r s t front more p q,
  append_assoc front more c ∙ ap (λ l. front ++ l) rest ∙ sym (append_assoc front b ys) ∙ ap (λ l. l ++ ys) whole ∙ append_assoc a xs ys,
)
gathers_after r s t a b c xs ys (Err e) (front, p, whole) ((more, back, rest, q), empty) = (
  (
    front ++ more,
    back,
    append_assoc front more back ∙ ap (λ l. front ++ l) rest ∙ sym (append_assoc front b ys) ∙ ap (λ l. l ++ ys) whole ∙ append_assoc a xs ys,
    Appends-trans r s t front more p q,
  ),
  empty,
)

-- bytes that all of these are the front of
pub gathers_front : (r s : Option (List ℕ)) (a b xs ys : List ℕ) → AppendsFront r s (a ++ xs) → AppendsFront r s (a ++ (xs ++ ys))
gathers_front r s a b xs ys p = subst (AppendsFront r s) (append_assoc a xs ys) (front_more r s (a ++ xs) ys p)

-- the first of two writes failed
pub first_failed : {T E : Type 0} (r s : Option (List ℕ)) (a b xs ys : List ℕ) (result : Result T E) (e : E) → result ≡ Err e
    → AppendsFront r s (a ++ xs) × (b ≡ []) → Gathers r a s b (xs ++ ys) result
first_failed r s a b xs ys result e is p = rw is (gathers_front r s a b xs ys p.0, p.1)
