-- Seats that stay the same, with more receipts behind their own.
use Rattle.std.proofs.Common.{◌≡◌, suc, List, [], ◌∷◌, ◌++◌, map, reverse, append-nil, append_assoc, refl, sym, ap, subst, ◌∙◌}
use Rattle.std.specs.Prelude.{All, length}
use Rattle.std.proofs.lemmas.List.{map-append, reverse-append, nil_from_length}
use Rattle.std.proofs.lemmas.List.Elements.{All-push, All-head, All-tail, All-nil, All-cons}
use Rattle.dc_drive.specs.Played.{IsSameSeat, AreSame, counts, out_with}
use Rattle.dc_hub.specs.Views.{SeatView}

pub same-self : (s : SeatView) → IsSameSeat s s
same-self s = (refl, refl, ([], sym (append-nil s.receipts)))

pub same-trans : (s t u : SeatView) → IsSameSeat s t → IsSameSeat t u → IsSameSeat s u
same-trans s t u a b =
    (b.0 ∙ a.0, b.1 ∙ a.1, (a.2.0 ++ b.2.0, b.2.1 ∙ ap (λ rs. rs ++ b.2.0) a.2.1 ∙ append_assoc s.receipts a.2.0 b.2.0))

pub all_self : {X : Type 0} (f : X → SeatView) (xs : List X) → AreSame f xs xs
all_self f [] = tt
all_self f (x ∷ xs) = (same-self (f x), all_self f xs)

pub all-trans : {X : Type 0} (f : X → SeatView) (xs ys zs : List X) → AreSame f xs ys → AreSame f ys zs → AreSame f xs zs
all-trans f [] [] [] a b = tt
all-trans f [] [] (z ∷ zs) a b = absurd b
all-trans f [] (y ∷ ys) zs a b = absurd a
all-trans f (x ∷ xs) [] zs a b = absurd a
all-trans f (x ∷ xs) (y ∷ ys) [] a b = absurd b
all-trans f (x ∷ xs) (y ∷ ys) (z ∷ zs) a b = (same-trans (f x) (f y) (f z) a.0 b.0, all-trans f xs ys zs a.1 b.1)

-- one among them
pub one-among : {X : Type 0} (f : X → SeatView) (xs : List X) (x y : X) (zs : List X) → IsSameSeat (f x) (f y) → AreSame f (xs ++ (x ∷ zs)) (xs ++ (y ∷ zs))
one-among f [] x y zs same = (same, all_self f zs)
one-among f (w ∷ xs) x y zs same = (same-self (f w), one-among f xs x y zs same)

-- what was handed out last comes first
pub out-more : {H X : Type 0} (hs : List H) (h : H) (g : H → X) → out_with g (hs ++ h ∷ []) ≡ g h ∷ out_with g hs
out-more hs h g = ap reverse (map-append g hs (h ∷ [])) ∙ reverse-append (map g hs) (g h ∷ [])

-- a seat is handed to a thread
pub handed : {H X : Type 0} (hs hs' : List H) (h : H) (g : H → X) (all xs ys : List X) (x : X) → all ≡ xs ++ out_with g hs → xs ≡ ys ++ x ∷ [] → hs' ≡ hs ++ h ∷ [] → g h ≡ x → all ≡ ys ++ out_with g hs'
handed hs hs' h g all xs ys x whole popped pushed is =
    whole ∙ ap (λ l. l ++ out_with g hs) popped ∙ append_assoc ys (x ∷ []) (out_with g hs)
    ∙ ap (λ z. ys ++ (z ∷ out_with g hs)) (sym is) ∙ ap (λ l. ys ++ l) (sym (out-more hs h g)) ∙ ap (λ l. ys ++ out_with g l) (sym pushed)

-- a seat comes back, since no thread could be made
pub refused : {H X : Type 0} (f : X → SeatView) (hs : List H) (g : H → X) (all xs ys zs : List X) (x y : X) → all ≡ xs ++ out_with g hs → xs ≡ ys ++ x ∷ [] → zs ≡ ys ++ y ∷ [] → IsSameSeat (f x) (f y) → AreSame f all (zs ++ out_with g hs)
refused f hs g all xs ys zs x y whole popped pushed same =
    let out = out_with g hs in
    let from : all ≡ ys ++ (x ∷ out) = whole ∙ ap (λ l. l ++ out) popped ∙ append_assoc ys (x ∷ []) out in
    let to : zs ++ out ≡ ys ++ (y ∷ out) = ap (λ l. l ++ out) pushed ∙ append_assoc ys (y ∷ []) out in
    subst (λ l. AreSame f all l) (sym to) (subst (λ l. AreSame f l (ys ++ (y ∷ out))) (sym from) (one-among f ys x y out same))

-- a thread is joined, and its seat goes behind the others
pub joined : {H X : Type 0} (f : X → SeatView) (hs hs' : List H) (h : H) (g : H → X) (all xs ys : List X) (y : X) → AreSame f all (xs ++ out_with g hs) → hs ≡ hs' ++ h ∷ [] → ys ≡ xs ++ y ∷ [] → IsSameSeat (f (g h)) (f y) → AreSame f all (ys ++ out_with g hs')
joined f hs hs' h g all xs ys y before popped pushed same =
    let out = out_with g hs' in
    let from : xs ++ out_with g hs ≡ xs ++ (g h ∷ out) = ap (λ l. xs ++ out_with g l) popped ∙ ap (λ l. xs ++ l) (out-more hs' h g) in
    let to : ys ++ out ≡ xs ++ (y ∷ out) = ap (λ l. l ++ out) pushed ∙ append_assoc xs (y ∷ []) out in
    all-trans f all (xs ++ (g h ∷ out)) (ys ++ out) (subst (AreSame f all) from before) (subst (AreSame f (xs ++ (g h ∷ out))) (sym to) (one-among f xs (g h) y out same))

-- nothing was handed out
pub nothing-out : {H X : Type 0} (f : X → SeatView) (xs : List X) (hs : List H) (g : H → X) → length hs ≡ 0 → AreSame f xs (xs ++ out_with g hs)
nothing-out f xs hs g none =
    let is : xs ++ out_with g hs ≡ xs = ap (λ l. xs ++ out_with g l) (nil_from_length hs none) ∙ append-nil xs in
    subst (AreSame f xs) (sym is) (all_self f xs)

-- all as they were
pub all-eq : {X : Type 0} (f : X → SeatView) (xs ys : List X) → xs ≡ ys → AreSame f xs ys
all-eq f xs ys e = subst (AreSame f xs) e (all_self f xs)

pub all-before : {X : Type 0} (P : X → Type 0) (xs : List X) (x : X) → All P (xs ++ x ∷ []) → All P xs
all-before P [] x h = All-nil P
all-before P (w ∷ xs) x h = All-cons P w xs (All-head P w (xs ++ x ∷ []) h) (all-before P xs x (All-tail P w (xs ++ x ∷ []) h))

pub all-last : {X : Type 0} (P : X → Type 0) (xs : List X) (x : X) → All P (xs ++ x ∷ []) → P x
all-last P [] x h = All-head P x [] h
all-last P (w ∷ xs) x h = all-last P xs x (All-tail P w (xs ++ x ∷ []) h)

pub all-more : {H : Type 0} (P : H → Type 0) (hs hs' : List H) (h : H) → All P hs → P h → hs' ≡ hs ++ h ∷ [] → All P hs'
all-more P hs hs' h all one pushed = subst (All P) (sym pushed) (All-push P hs h all one)

pub all-fewer : {H : Type 0} (P : H → Type 0) (hs hs' : List H) (h : H) → All P hs → hs ≡ hs' ++ h ∷ [] → All P hs'
all-fewer P hs hs' h all popped = all-before P hs' h (subst (All P) popped all)

pub one-last : {H : Type 0} (P : H → Type 0) (hs hs' : List H) (h : H) → All P hs → hs ≡ hs' ++ h ∷ [] → P h
one-last P hs hs' h all popped = all-last P hs' h (subst (All P) popped all)

-- as many counts as seats
pub counted : {X : Type 0} (f : X → SeatView) (xs ys : List X) → AreSame f xs ys → length (counts f xs) ≡ length ys
counted f [] [] h = refl
counted f [] (y ∷ ys) h = absurd h
counted f (x ∷ xs) [] h = absurd h
counted f (x ∷ xs) (y ∷ ys) h = ap suc (counted f xs ys h.1)
