-- Seats that were answered nothing before a drive: all that they were answered is their role.
use Rattle.std.proofs.Common.{◌≡◌, suc, Option, Some, None, List, [], ◌∷◌, ◌++◌, map, length, refl, sym, ap, subst, arith}
use Rattle.std.specs.Prelude.{All, drop}
use Rattle.std.proofs.lemmas.List.Elements.{All-head, All-tail, All-nil, All-cons}
use Rattle.std.proofs.lemmas.List.Sums.{sum_by-cons, sum_by-append}
use Rattle.dc_drive.specs.Played.{AreSame, IsSameClock, AllPlayed, HasTicked, HavePlayed, HaveRoles, count_of, counts, events, itself, role, seat_of_wire}
use Rattle.dc_hub.specs.Closing.{all_seats, clock_seats}
use Rattle.dc_hub.specs.Views.{SeatView, WireView, receipts_in}
use Rattle.dc_script.specs.Script.{ScriptView}
use Rattle.dc_tables.specs.TableRows.{TableRows}

-- the seat's receipts are its role
abbrev Plays : TableRows → ScriptView → SeatView → Type 0
Plays t s seat = events seat.receipts ≡ role t s seat.actor

all-append : {X : Type 0} (P : X → Type 0) (xs ys : List X) → All P xs → All P ys → All P (xs ++ ys)
all-append P [] ys left right = right
all-append P (x ∷ xs) ys left right = All-cons P x (xs ++ ys) (All-head P x xs left) (all-append P xs ys (All-tail P x xs left) right)

map-itself : (xs : List SeatView) → map itself xs ≡ xs
map-itself [] = refl
map-itself (x ∷ xs) = ap (λ l. x ∷ l) (map-itself xs)

none-left : (xs ys : List SeatView) → receipts_in (xs ++ ys) ≡ 0 → receipts_in xs ≡ 0
none-left xs ys none = let s = sum_by-append (λ (x : SeatView). length x.receipts) xs ys in omega (arith, s, none)

none-right : (xs ys : List SeatView) → receipts_in (xs ++ ys) ≡ 0 → receipts_in ys ≡ 0
none-right xs ys none = let s = sum_by-append (λ (x : SeatView). length x.receipts) xs ys in omega (arith, s, none)

none-first : (x : SeatView) (xs : List SeatView) → receipts_in (x ∷ xs) ≡ 0 → length x.receipts ≡ 0
none-first x xs none = let s = sum_by-cons (λ (x : SeatView). length x.receipts) x xs in omega (arith, s, none)

none-rest : (x : SeatView) (xs : List SeatView) → receipts_in (x ∷ xs) ≡ 0 → receipts_in xs ≡ 0
none-rest x xs none = let s = sum_by-cons (λ (x : SeatView). length x.receipts) x xs in omega (arith, s, none)

-- of one list of seats
of-list : {X : Type 0} (f : X → SeatView) (t : TableRows) (s : ScriptView) (xs ys : List X) → AreSame f xs ys → receipts_in (map f xs) ≡ 0 → HavePlayed f t s (counts f xs) ys → HaveRoles t s (map f ys)
of-list f t s [] [] same none played = All-nil (Plays t s)
of-list f t s [] (y ∷ ys) same none played = absurd same
of-list f t s (x ∷ xs) [] same none played = absurd same
of-list f t s (x ∷ xs) (y ∷ ys) same none played =
    All-cons (Plays t s) (f y) (map f ys)
    (subst (λ n. events (drop n (f y).receipts) ≡ role t s (f y).actor) (none-first (f x) (map f xs) none) (played 0 (length (f x).receipts) y refl refl))
    (of-list f t s xs ys same.1 (none-rest (f x) (map f xs) none) (λ k n z there has. played (suc k) n z there has))

of-seats : (t : TableRows) (s : ScriptView) (xs ys : List SeatView) → AreSame itself xs ys → receipts_in xs ≡ 0 → HavePlayed itself t s (counts itself xs) ys → HaveRoles t s ys
of-seats t s xs ys same none played =
    subst (HaveRoles t s) (map-itself ys) (of-list itself t s xs ys same (subst (λ l. receipts_in l ≡ 0) (sym (map-itself xs)) none) played)

of-clock : (t : TableRows) (s : ScriptView) (c d : Option SeatView) → IsSameClock c d → receipts_in (clock_seats c) ≡ 0 → HasTicked t s (count_of c) d → HaveRoles t s (clock_seats d)
of-clock t s None None same none played = absurd played
of-clock t s None (Some d) same none played = absurd same
of-clock t s (Some c) None same none played = absurd same
of-clock t s (Some c) (Some d) same none played =
    All-cons (Plays t s) d [] (subst (λ n. events (drop n d.receipts) ≡ role t s d.actor) (none-first c [] none) played) (All-nil (Plays t s))

-- of all seats
pub of-all : (t : TableRows) (s : ScriptView) (wires wires' : List WireView) (routers routers' outputs outputs' : List SeatView) (clock clock' : Option SeatView)
    → AreSame seat_of_wire wires wires' → AreSame itself routers routers' → AreSame itself outputs outputs' → IsSameClock clock clock'
    → AllPlayed t s wires wires' routers routers' outputs outputs' clock clock' → receipts_in (all_seats wires routers outputs clock) ≡ 0 → HaveRoles t s (all_seats wires' routers' outputs' clock')
of-all t s wires wires' routers routers' outputs outputs' clock clock' ws rs os c played none =
    let of_wires : List SeatView = map seat_of_wire wires in
    let behind = none-right of_wires (routers ++ (outputs ++ clock_seats clock)) none in
    let last = none-right routers (outputs ++ clock_seats clock) behind in
    all-append (Plays t s) (map seat_of_wire wires') (routers' ++ (outputs' ++ clock_seats clock'))
    (of-list seat_of_wire t s wires wires' ws (none-left of_wires (routers ++ (outputs ++ clock_seats clock)) none) played.by_wires)
    (all-append (Plays t s) routers' (outputs' ++ clock_seats clock') (of-seats t s routers routers' rs (none-left routers (outputs ++ clock_seats clock) behind) played.by_routers)
    (all-append (Plays t s) outputs' (clock_seats clock') (of-seats t s outputs outputs' os (none-left outputs (clock_seats clock) last) played.by_outputs)
    (of-clock t s clock clock' c (none-right outputs (clock_seats clock) last) played.by_clock)))
