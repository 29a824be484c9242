-- The seats of a hub that opens are one for each actor, and have all parts of the count.
use Rattle.std.proofs.Common.{◌≡◌, ◌⊎◌, ⊎_elim, inl, inr, ℕ, zero, suc, ◌-◌, ◌<◌, ◌≤◌, true, false, if◌then◌else◌, nat_lt, Option, Some, List, [], ◌∷◌, ◌++◌, map, length, length-append, refl, sym, ap, subst, ◌∙◌, arith, slice_get}
use Rattle.std.specs.List.{sum_by}
use Rattle.std.proofs.lemmas.Bool.Decides.{nat_tests}
use Rattle.std.proofs.lemmas.List.{length-map}
use Rattle.std.proofs.lemmas.List.Sums.{sum_by-cons}
use Rattle.atomic_table.specs.Seated.{TableId}
use Rattle.dc_check.specs.Lent.{tables_of}
use Rattle.dc_check.specs.declared.certified.Certified.{Certified}
use Rattle.dc_event.specs.declared.event.Actor.TheVariants.{Wire, Router, Output, Clock}
use Rattle.dc_hub.specs.Closing.{all_seats, actor_at, actor_count, AreOneEach}
use Rattle.dc_hub.specs.Views.{SeatView, WireView, AreNewWires, AreNewSeats, unused, others, parts_for, parts_in, receipts_in}
use Rattle.dc_hub.proofs.Counts.{sum-ones, part_at, part_last}
use Rattle.dc_hub.proofs.Opens.{some-same, none-some}
use Rattle.dc_tables.specs.TableRows.{TableRows}

at_append : {X : Type 0} (xs ys : List X) (p : ℕ) (x : X) → slice_get (xs ++ ys) p ≡ Some x → ((p < length xs) × (slice_get xs p ≡ Some x)) ⊎ ((length xs ≤ p) × (slice_get ys (p - length xs) ≡ Some x))
at_append [] ys p x e = inr (omega arith, subst (λ k. slice_get ys k ≡ Some x) (omega arith) e)
at_append (y ∷ xs) ys zero x e = inl (omega arith, e)
at_append (y ∷ xs) ys (suc p) x e =
    ⊎_elim
    (λ (t : (p < length xs) × (slice_get xs p ≡ Some x)). inl (omega (arith, t.0), t.1))
    (λ (t : (length xs ≤ p) × (slice_get ys (p - length xs) ≡ Some x)). inr (omega (arith, t.0), subst (λ k. slice_get ys k ≡ Some x) (omega arith) t.1))
    (at_append xs ys p x e)

at_map : {X Y : Type 0} (f : X → Y) (xs : List X) (p : ℕ) (y : Y) → slice_get (map f xs) p ≡ Some y → (x : X) × (slice_get xs p ≡ Some x) × (f x ≡ y)
at_map f [] p y e = absurd (none-some y e)
at_map f (x ∷ xs) zero y e = (x, refl, some-same (f x) y e)
at_map f (x ∷ xs) (suc p) y e = at_map f xs p y e

beyond : (n m : ℕ) → m < n → nat_lt m n ≡ true
beyond n m h = grind (arith, nat_tests)

within : (n m : ℕ) → n ≤ m → nat_lt m n ≡ false
within n m h = grind (arith, nat_tests)

-- an actor by its place
at_wire : (t : TableRows) (p : ℕ) → p < length t.buses → actor_at t p ≡ Wire p
at_wire t p below = ap (λ b. if b then Wire p else if nat_lt (p - length t.buses) (length t.routers) then Router (p - length t.buses) else if nat_lt (p - length t.buses - length t.routers) (length t.outputs) then Output (p - length t.buses - length t.routers) else Clock) (beyond (length t.buses) p below)

past_wires : (t : TableRows) (p : ℕ) → length t.buses ≤ p
    → actor_at t p ≡ (if nat_lt (p - length t.buses) (length t.routers) then Router (p - length t.buses) else if nat_lt (p - length t.buses - length t.routers) (length t.outputs) then Output (p - length t.buses - length t.routers) else Clock)
past_wires t p past = ap (λ b. if b then Wire p else if nat_lt (p - length t.buses) (length t.routers) then Router (p - length t.buses) else if nat_lt (p - length t.buses - length t.routers) (length t.outputs) then Output (p - length t.buses - length t.routers) else Clock) (within (length t.buses) p past)

at_router : (t : TableRows) (p : ℕ) → length t.buses ≤ p → p - length t.buses < length t.routers → actor_at t p ≡ Router (p - length t.buses)
at_router t p past below = past_wires t p past ∙ ap (λ b. if b then Router (p - length t.buses) else if nat_lt (p - length t.buses - length t.routers) (length t.outputs) then Output (p - length t.buses - length t.routers) else Clock) (beyond (length t.routers) (p - length t.buses) below)

past_routers : (t : TableRows) (p : ℕ) → length t.buses ≤ p → length t.routers ≤ p - length t.buses
    → actor_at t p ≡ (if nat_lt (p - length t.buses - length t.routers) (length t.outputs) then Output (p - length t.buses - length t.routers) else Clock)
past_routers t p past beside = past_wires t p past ∙ ap (λ b. if b then Router (p - length t.buses) else if nat_lt (p - length t.buses - length t.routers) (length t.outputs) then Output (p - length t.buses - length t.routers) else Clock) (within (length t.routers) (p - length t.buses) beside)

at_output : (t : TableRows) (p : ℕ) → length t.buses ≤ p → length t.routers ≤ p - length t.buses → p - length t.buses - length t.routers < length t.outputs → actor_at t p ≡ Output (p - length t.buses - length t.routers)
at_output t p past beside below = past_routers t p past beside ∙ ap (λ b. if b then Output (p - length t.buses - length t.routers) else Clock) (beyond (length t.outputs) (p - length t.buses - length t.routers) below)

at_clock : (t : TableRows) (p : ℕ) → length t.buses ≤ p → length t.routers ≤ p - length t.buses → length t.outputs ≤ p - length t.buses - length t.routers → actor_at t p ≡ Clock
at_clock t p past beside behind = past_routers t p past beside ∙ ap (λ b. if b then Output (p - length t.buses - length t.routers) else Clock) (within (length t.outputs) (p - length t.buses - length t.routers) behind)

one-item : {X : Type 0} (x y : X) (p : ℕ) → slice_get (x ∷ []) p ≡ Some y → x ≡ y
one-item x y zero e = some-same x y e
one-item x y (suc p) e = absurd (none-some y e)

-- the seat at each place was answered nothing, is its actor's, and has its parts
new_at : (c : Certified) (whole : ℕ) (board : TableId × List ℕ) (wires : List WireView) (routers outputs : List SeatView) → AreNewWires board wires (length (tables_of c).buses) → AreNewSeats Router routers (length (tables_of c).routers)
    → AreNewSeats Output outputs (length (tables_of c).outputs) → (p : ℕ) (s : SeatView) → slice_get (all_seats wires routers outputs (Some (unused Clock (parts_for (Some c) whole Clock)))) p ≡ Some s
    → s ≡ unused (actor_at (tables_of c) p) (parts_for (Some c) whole (actor_at (tables_of c) p))
new_at c whole board wires routers outputs ws rs os p s there =
    let t = tables_of c in
    let last : List SeatView = unused Clock (parts_for (Some c) whole Clock) ∷ [] in
    let many : length (map (λ (w : WireView). w.seat) wires) ≡ length t.buses = length-map wires (λ (w : WireView). w.seat) ∙ ws.0 in
    ⊎_elim
    (λ (h : (p < length (map (λ (w : WireView). w.seat) wires)) × (slice_get (map (λ (w : WireView). w.seat) wires) p ≡ Some s)).
    let w = at_map (λ (w : WireView). w.seat) wires p s h.1 in
    sym w.2 ∙ (ws.1 p w.0 w.1).seat ∙ ap (λ a. unused a (parts_for (Some c) whole a)) (sym (at_wire t p (omega (arith, h.0, many)))))
    (λ (h : (length (map (λ (w : WireView). w.seat) wires) ≤ p) × (slice_get (routers ++ (outputs ++ last)) (p - length (map (λ (w : WireView). w.seat) wires)) ≡ Some s)).
    let q = p - length t.buses in
    let past : length t.buses ≤ p = omega (arith, h.0, many) in
    let here : slice_get (routers ++ (outputs ++ last)) q ≡ Some s = subst (λ k. slice_get (routers ++ (outputs ++ last)) (p - k) ≡ Some s) many h.1 in
    ⊎_elim
    (λ (h : (q < length routers) × (slice_get routers q ≡ Some s)).
    rs.1 q s h.1 ∙ ap (λ a. unused a (parts_for (Some c) whole a)) (sym (at_router t p past (omega (arith, h.0, rs.0)))))
    (λ (h : (length routers ≤ q) × (slice_get (outputs ++ last) (q - length routers) ≡ Some s)).
    let beside : length t.routers ≤ q = omega (arith, h.0, rs.0) in
    let here : slice_get (outputs ++ last) (q - length t.routers) ≡ Some s = subst (λ k. slice_get (outputs ++ last) (q - k) ≡ Some s) rs.0 h.1 in
    ⊎_elim
    (λ (h : (q - length t.routers < length outputs) × (slice_get outputs (q - length t.routers) ≡ Some s)).
    os.1 (q - length t.routers) s h.1 ∙ ap (λ a. unused a (parts_for (Some c) whole a)) (sym (at_output t p past beside (omega (arith, h.0, os.0)))))
    (λ (h : (length outputs ≤ q - length t.routers) × (slice_get last (q - length t.routers - length outputs) ≡ Some s)).
    sym (one-item (unused Clock (parts_for (Some c) whole Clock)) s (q - length t.routers - length outputs) h.1)
    ∙ ap (λ a. unused a (parts_for (Some c) whole a)) (sym (at_clock t p past beside (omega (arith, h.0, os.0)))))
    (at_append outputs last (q - length t.routers) s here))
    (at_append routers (outputs ++ last) q s here))
    (at_append (map (λ (w : WireView). w.seat) wires) (routers ++ (outputs ++ last)) p s there)

sum-none : {X : Type 0} (f : X → ℕ) (xs : List X) → ((p : ℕ) (x : X) → slice_get xs p ≡ Some x → f x ≡ 0) → sum_by f xs ≡ 0
sum-none f [] none = refl
sum-none f (x ∷ xs) none = let a = none 0 x refl in let b = sum-none f xs (λ p y e. none (suc p) y e) in sum_by-cons f x xs ∙ omega (arith, a, b)

pub new_each : (certified : Option Certified) (c : Certified) (whole : ℕ) (board : TableId × List ℕ) (wires : List WireView) (routers outputs : List SeatView) (clock : Option SeatView) → certified ≡ Some c → others certified < whole
    → AreNewWires board wires (length (tables_of c).buses) → AreNewSeats Router routers (length (tables_of c).routers) → AreNewSeats Output outputs (length (tables_of c).outputs) → clock ≡ Some (unused Clock (parts_for certified whole Clock))
    → AreOneEach (tables_of c) (all_seats wires routers outputs clock) × (parts_in (all_seats wires routers outputs clock) ≡ whole) × (receipts_in (all_seats wires routers outputs clock) ≡ 0)
new_each certified c whole board wires routers outputs clock is some ws rs os clocked =
    subst (λ (o : Option SeatView). AreOneEach (tables_of c) (all_seats wires routers outputs o) × (parts_in (all_seats wires routers outputs o) ≡ whole) × (receipts_in (all_seats wires routers outputs o) ≡ 0))
    (sym (clocked ∙ ap (λ (o : Option Certified). Some (unused Clock (parts_for o whole Clock))) is))
    ((all, λ p s there. ap (λ (x : SeatView). x.actor) (at p s there)), sum, sum-none (λ (s : SeatView). length s.receipts) seats (λ p s there. ap (λ (x : SeatView). length x.receipts) (at p s there)))
  where
    seats : List SeatView
    seats = all_seats wires routers outputs (Some (unused Clock (parts_for (Some c) whole Clock)))

    at : (p : ℕ) (s : SeatView) → slice_get seats p ≡ Some s → s ≡ unused (actor_at (tables_of c) p) (parts_for (Some c) whole (actor_at (tables_of c) p))
    at = new_at c whole board wires routers outputs ws rs os

    all : length seats ≡ actor_count (tables_of c)
    all =
        let a = length-append (map (λ (w : WireView). w.seat) wires) (routers ++ (outputs ++ unused Clock (parts_for (Some c) whole Clock) ∷ [])) in
        let b = length-append routers (outputs ++ unused Clock (parts_for (Some c) whole Clock) ∷ []) in
        let d = length-append outputs (unused Clock (parts_for (Some c) whole Clock) ∷ []) in
        let m = length-map wires (λ (w : WireView). w.seat) in
        omega (arith, a, b, d, m, ws.0, rs.0, os.0)

    sum : parts_in seats ≡ whole
    sum =
        let h : others (Some c) < whole = subst (λ (o : Option Certified). others o < whole) is some in
        let s = sum-ones (λ (s : SeatView). s.parts) (whole - others (Some c)) (others (Some c)) seats all
        (λ p s there below. ap (λ (x : SeatView). x.parts) (at p s there) ∙ part_at c whole p below)
        (λ s there. ap (λ (x : SeatView). x.parts) (at (others (Some c)) s there) ∙ part_last c whole) in
        s ∙ omega (arith, h)
