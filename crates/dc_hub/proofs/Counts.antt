-- The parts and receipts of all seats.
use Rattle.std.proofs.Common.{◌≡◌, ℕ, zero, suc, ◌+◌, ◌-◌, ◌<◌, ◌≤◌, Bool, true, false, if◌then◌else◌, nat_lt, Option, Some, List, [], ◌∷◌, ◌++◌, map, length, refl, sym, ap, subst, ◌∙◌, arith, slice_get}
use Rattle.std.specs.List.{sum_by}
use Rattle.std.proofs.lemmas.List.Sums.{sum_by-cons, sum_by-append}
use Rattle.std.proofs.lemmas.Bool.Decides.{nat_tests}
use Rattle.dc_check.specs.Lent.{tables_of}
use Rattle.dc_check.specs.declared.certified.Certified.{Certified}
use Rattle.dc_event.specs.declared.event.Actor.TheVariants.{Wire, Router, Output, Clock}
use Rattle.dc_hub.specs.Closing.{all_seats, clock_seats, actor_at, AreOneEach}
use Rattle.dc_hub.specs.Views.{SeatView, WireView, others, parts_for, parts_needed, receipts_in}

sum_by-map : {X Y : Type 0} (f : Y → ℕ) (g : X → Y) (xs : List X) → sum_by f (map g xs) ≡ sum_by (λ x. f (g x)) xs
sum_by-map f g [] = refl
sum_by-map f g (x ∷ xs) = sum_by-cons f (g x) (map g xs) ∙ ap (λ k. f (g x) + k) (sum_by-map f g xs) ∙ sym (sum_by-cons (λ y. f (g y)) x xs)

-- a sum over all seats is the sum of its four sums
pub of_all : (f : SeatView → ℕ) (wires : List WireView) (routers outputs : List SeatView) (clock : Option SeatView)
    → sum_by f (all_seats wires routers outputs clock) ≡ sum_by (λ (w : WireView). f w.seat) wires + (sum_by f routers + (sum_by f outputs + sum_by f (clock_seats clock)))
of_all f wires routers outputs clock =
    sum_by-append f (map (λ (w : WireView). w.seat) wires) (routers ++ (outputs ++ clock_seats clock))
    ∙ ap (λ k. k + sum_by f (routers ++ (outputs ++ clock_seats clock))) (sum_by-map f (λ (w : WireView). w.seat) wires)
    ∙ ap (λ k. sum_by (λ (w : WireView). f w.seat) wires + k) (sum_by-append f routers (outputs ++ clock_seats clock) ∙ ap (λ k. sum_by f routers + k) (sum_by-append f outputs (clock_seats clock)))

-- ones, and the last
pub sum-ones : {X : Type 0} (f : X → ℕ) (last n : ℕ) (xs : List X) → length xs ≡ n + 1 → ((p : ℕ) (x : X) → slice_get xs p ≡ Some x → p < n → f x ≡ 1) → ((x : X) → slice_get xs n ≡ Some x → f x ≡ last) → sum_by f xs ≡ n + last
sum-ones f last n [] h ones end = absurd (omega (arith, h))
sum-ones f last zero (x ∷ []) h ones end = sum_by-cons f x [] ∙ (let e = end x refl in omega (arith, e))
sum-ones f last zero (x ∷ y ∷ xs) h ones end = absurd (omega (arith, h))
sum-ones f last (suc n) (x ∷ xs) h ones end =
    let one = ones 0 x refl (omega arith) in
    let rest = sum-ones f last n xs (omega (arith, h)) (λ p y e below. ones (suc p) y e (omega (arith, below))) (λ y e. end y e) in
    sum_by-cons f x xs ∙ omega (arith, one, rest)

pub ge_from : (a b : ℕ) → nat_lt a b ≡ false → b ≤ a
ge_from a b h = grind (arith, nat_tests)

within : (n m : ℕ) → n ≤ m → nat_lt m n ≡ false
within n m h = grind (arith, nat_tests)

-- an actor that is not the clock has one part
not-clock : (certified : Option Certified) (whole w r o : ℕ) (a b d : Bool) → (a ≡ false → b ≡ false → d ≡ false → ⊥) → parts_for certified whole (if a then Wire w else if b then Router r else if d then Output o else Clock) ≡ 1
not-clock certified whole w r o true b d some = refl
not-clock certified whole w r o false true d some = refl
not-clock certified whole w r o false false true some = refl
not-clock certified whole w r o false false false some = absurd (some refl refl refl)

the-clock : (certified : Option Certified) (whole w r o : ℕ) (a b d : Bool) → a ≡ false → b ≡ false → d ≡ false → parts_for certified whole (if a then Wire w else if b then Router r else if d then Output o else Clock) ≡ whole - others certified
the-clock certified whole w r o a b d x y z = ap (λ i. parts_for certified whole (if i then Wire w else if b then Router r else if d then Output o else Clock)) x ∙ ap (λ i. parts_for certified whole (if i then Router r else if d then Output o else Clock)) y ∙ ap (λ i. parts_for certified whole (if i then Output o else Clock)) z

pub part_at : (c : Certified) (whole p : ℕ) → p < others (Some c) → parts_for (Some c) whole (actor_at (tables_of c) p) ≡ 1
part_at c whole p below =
    let t = tables_of c in
    not-clock (Some c) whole p (p - length t.buses) (p - length t.buses - length t.routers) (nat_lt p (length t.buses)) (nat_lt (p - length t.buses) (length t.routers)) (nat_lt (p - length t.buses - length t.routers) (length t.outputs))
    (λ x y z. let a = ge_from p (length t.buses) x in let b = ge_from (p - length t.buses) (length t.routers) y in let d = ge_from (p - length t.buses - length t.routers) (length t.outputs) z in absurd (omega (arith, below, a, b, d)))

pub part_last : (c : Certified) (whole : ℕ) → parts_for (Some c) whole (actor_at (tables_of c) (others (Some c))) ≡ whole - others (Some c)
part_last c whole =
    let t = tables_of c in
    let p = others (Some c) in
    the-clock (Some c) whole p (p - length t.buses) (p - length t.buses - length t.routers) (nat_lt p (length t.buses)) (nat_lt (p - length t.buses) (length t.routers)) (nat_lt (p - length t.buses - length t.routers) (length t.outputs))
    (within (length t.buses) p (omega arith)) (within (length t.routers) (p - length t.buses) (omega arith)) (within (length t.outputs) (p - length t.buses - length t.routers) (omega arith))

-- seats that are one for each actor have all parts
all_parts : (c : Certified) (whole : ℕ) (seats : List SeatView) → others (Some c) < whole → AreOneEach (tables_of c) seats → parts_needed (Some c) whole seats ≡ whole
all_parts c whole seats some each =
    let sum = sum-ones (λ (s : SeatView). parts_for (Some c) whole s.actor) (whole - others (Some c)) (others (Some c)) seats each.0
    (λ p s there below. ap (parts_for (Some c) whole) (each.1 p s there) ∙ part_at c whole p below)
    (λ s there. ap (parts_for (Some c) whole) (each.1 (others (Some c)) s there) ∙ part_last c whole) in
    sum ∙ omega (arith, some)

-- where the seats are one for each actor and their shares are merged, the count is of the whole
pub as_many : (certified : Option Certified) (c : Certified) (whole parts total parts_in amount entries : ℕ) (wires : List WireView) (routers outputs : List SeatView) (clock : Option SeatView)
    → certified ≡ Some c → others certified < whole → whole ≡ parts
    → parts_in ≡ sum_by (λ (w : WireView). parts_for certified whole w.seat.actor) wires + (parts_needed certified whole routers + (parts_needed certified whole outputs + parts_needed certified whole (clock_seats clock)))
    → amount ≡ sum_by (λ (w : WireView). length w.seat.receipts) wires + (receipts_in routers + (receipts_in outputs + receipts_in (clock_seats clock)))
    → (parts_in ≡ parts → amount ≡ total) → total ≡ entries
    → AreOneEach (tables_of c) (all_seats wires routers outputs clock) → entries ≡ receipts_in (all_seats wires routers outputs clock)
as_many certified c whole parts total parts_in amount entries wires routers outputs clock is some all merged counted audited same each =
    let needed : parts_in ≡ parts_needed certified whole (all_seats wires routers outputs clock) = merged ∙ sym (of_all (λ (s : SeatView). parts_for certified whole s.actor) wires routers outputs clock) in
    let needs : parts_needed certified whole (all_seats wires routers outputs clock) ≡ whole =
    subst (λ (o : Option Certified). parts_needed o whole (all_seats wires routers outputs clock) ≡ whole) (sym is)
    (all_parts c whole (all_seats wires routers outputs clock) (subst (λ (o : Option Certified). others o < whole) is some) each) in
    sym same ∙ sym (audited (needed ∙ needs ∙ all)) ∙ counted ∙ sym (of_all (λ (s : SeatView). length s.receipts) wires routers outputs clock)
