-- Lists that are paired, member by member.
use Rattle.std.proofs.Common.{Bool, true, false, ◌≡◌, ℕ, zero, suc, ◌<◌, List, [], ◌∷◌, length, drop, get_or, map, slice_get, Option, Some, None, refl, sym, ap, subst, arith}
use Rattle.std.specs.Bool.{Decides}
use Rattle.dc_document.specs.Document.{Document}
use Rattle.dc_toml.specs.Written.{label_text, router_text, written}
use Rattle.dc_same_tables.specs.Pairs.{ArePaired}

-- what is at a place of both, and the rest of both
pub one_more : {X : Type 0} (R : X → X → Type 0) (xs ys : List X) (i : ℕ) (x y : X) → slice_get xs i ≡ Some x → slice_get ys i ≡ Some y → R x y → ArePaired R (drop (suc i) xs) (drop (suc i) ys)
    → ArePaired R (drop i xs) (drop i ys)
one_more R [] ys i x y here there r more = absurd (cc here)
one_more R (a ∷ xs) [] i x y here there r more = absurd (cc there)
one_more R (a ∷ xs) (b ∷ ys) zero x y here there r more = let e : a ≡ x = cc in let f : b ≡ y = cc in (subst (λ z. R z b) (sym e) (subst (λ z. R x z) (sym f) r), more)
one_more R (a ∷ xs) (b ∷ ys) (suc i) x y here there r more = one_more R xs ys i x y here there r more

-- nothing is left of both
pub none_left : {X : Type 0} (R : X → X → Type 0) (xs ys : List X) → length xs ≡ length ys → ArePaired R (drop (length xs) xs) (drop (length xs) ys)
none_left R [] [] same = tt
none_left R [] (y ∷ ys) same = absurd (omega (arith, same))
none_left R (x ∷ xs) [] same = absurd (omega (arith, same))
none_left R (x ∷ xs) (y ∷ ys) same = none_left R xs ys (omega (arith, same))

-- ---- documents

-- members that are the same make lists that are
pub same_list : {X : Type 0} (xs ys : List X) → ArePaired (λ x y. x ≡ y) xs ys → xs ≡ ys
same_list [] [] h = refl
same_list [] (y ∷ ys) h = absurd h
same_list (x ∷ xs) [] h = absurd h
same_list (x ∷ xs) (y ∷ ys) (h, more) = rw (h, same_list xs ys more) refl

-- members that are written the same make lists that are
pub same_texts : {X Y : Type 0} (f : X → Y) (xs ys : List X) → ArePaired (λ x y. f x ≡ f y) xs ys → map f xs ≡ map f ys
same_texts f [] [] h = refl
same_texts f [] (y ∷ ys) h = absurd h
same_texts f (x ∷ xs) [] h = absurd h
same_texts f (x ∷ xs) (y ∷ ys) (h, more) = rw (h, same_texts f xs ys more) refl

-- ---- and the other way round

-- lists that are paired have one length
pub one_length : {X : Type 0} (R : X → X → Type 0) (xs ys : List X) → ArePaired R xs ys → length xs ≡ length ys
one_length R [] [] h = refl
one_length R [] (y ∷ ys) h = absurd h
one_length R (x ∷ xs) [] h = absurd h
one_length R (x ∷ xs) (y ∷ ys) (h, more) = ap suc (one_length R xs ys more)

-- what is at one place of both is related
pub at_place : {X : Type 0} (R : X → X → Type 0) (xs ys : List X) (i : ℕ) (x y : X) → i < length xs → x ≡ get_or xs i x → y ≡ get_or ys i y → ArePaired R xs ys → R x y
at_place R [] ys i x y inside here there h = absurd (omega (arith, inside))
at_place R (a ∷ xs) [] i x y inside here there h = absurd h
at_place R (a ∷ xs) (b ∷ ys) zero x y inside here there (r, more) = subst (λ z. R z y) (sym here) (subst (λ z. R a z) (sym there) r)
at_place R (a ∷ xs) (b ∷ ys) (suc i) x y inside here there (r, more) = at_place R xs ys i x y (omega (arith, inside)) here there more

-- lists that are the same are paired by that
pub paired_list : {X : Type 0} (xs ys : List X) → xs ≡ ys → ArePaired (λ x y. x ≡ y) xs ys
paired_list [] ys same = rw (sym same) tt
paired_list (x ∷ xs) ys same = rw (sym same) (refl, paired_list xs xs refl)

-- lists that are written the same are paired by that
pub paired_texts : {X Y : Type 0} (f : X → Y) (xs ys : List X) → map f xs ≡ map f ys → ArePaired (λ x y. f x ≡ f y) xs ys
paired_texts f [] [] same = tt
paired_texts f [] (y ∷ ys) same = absurd (cc same)
paired_texts f (x ∷ xs) [] same = absurd (cc same)
paired_texts f (x ∷ xs) (y ∷ ys) same = let e : f x ≡ f y = cc in let more : map f xs ≡ map f ys = cc in (e, paired_texts f xs ys more)

-- what is not so lets nothing be so that asks for it
pub not_so : {A B : Type 0} (b : Bool) → Decides b A → b ≡ false → (B → A) → Decides false B
not_so true d is f = absurd (cc is)
not_so false d is f = (λ no. absurd (cc no), λ h. d.1 (f h))

-- ---- documents

abbrev pub OneHead : Document → Document → Type 0
OneHead d e = (d.version ≡ e.version) × (d.tick_us ≡ e.tick_us)

abbrev pub TakeSame : Document → Document → Type 0
TakeSame d e = ArePaired (λ x y. x ≡ y) d.parameters e.parameters × ArePaired (λ x y. x ≡ y) d.buses e.buses × ArePaired (λ x y. x ≡ y) d.streams e.streams

abbrev pub SendSame : Document → Document → Type 0
SendSame d e =
    ArePaired (λ x y. router_text x ≡ router_text y) d.routers e.routers × ArePaired (λ x y. x ≡ y) d.outputs e.outputs × ArePaired (λ x y. label_text x ≡ label_text y) d.labels e.labels

-- parts that say the same are written the same
pub written_same : (d e : Document) → OneHead d e → TakeSame d e → SendSame d e → written d ≡ written e
written_same d e (version, tick) (parameters, buses, streams) (routers, outputs, labels) =
    rw (
      version,
      tick,
      same_list d.parameters e.parameters parameters,
      same_list d.buses e.buses buses,
      same_list d.streams e.streams streams,
      same_texts router_text d.routers e.routers routers,
      same_list d.outputs e.outputs outputs,
      same_texts label_text d.labels e.labels labels,
    ) refl

-- and parts that are written the same say it
pub one_head : (d e : Document) → written d ≡ written e → OneHead d e
one_head d e same = (ap (λ w. w.version) same, ap (λ w. w.tick_us) same)

pub take_same : (d e : Document) → written d ≡ written e → TakeSame d e
take_same d e same =
    (paired_list d.parameters e.parameters (ap (λ w. w.parameters) same), paired_list d.buses e.buses (ap (λ w. w.buses) same), paired_list d.streams e.streams (ap (λ w. w.streams) same))

pub send_same : (d e : Document) → written d ≡ written e → SendSame d e
send_same d e same = (
  paired_texts router_text d.routers e.routers (ap (λ w. w.routers) same),
  paired_list d.outputs e.outputs (ap (λ w. w.outputs) same),
  paired_texts label_text d.labels e.labels (ap (λ w. w.labels) same),
)
