-- Pieces put one after another.
use Rattle.std.proofs.Common.{◌≡◌, ℕ, ◌+◌, ◌≤◌, List, ◌++◌, length, take, refl, sym, ap, ◌∙◌, arith}
use Rattle.std.proofs.lemmas.List.{length-take-le, take-take, take_all}
use Rattle.std.proofs.Math.Seq.{take-append-add}

-- more is copied than counts
pub part_put : (old new part self : List ℕ) (len n count : ℕ) → len ≤ length old → count ≤ n → take (len + n) new ≡ take len old ++ take n part → take len old ≡ self
    → take (len + count) new ≡ self ++ take count part
part_put old new part self len n count p q e view =
    let a : take (len + count) (take (len + n) new) ≡ take (len + count) new = take-take (len + count) (len + n) new (omega arith) in
    let b : take (len + count) (take len old ++ take n part) ≡ take len old ++ take count (take n part) =
    rw (length-take-le len old p) at (take-append-add (take len old) (take n part) count) in
    sym a ∙ ap (take (len + count)) e ∙ b ∙ ap (λ (x : List ℕ). take len old ++ x) (take-take count n part q) ∙ ap (λ (x : List ℕ). x ++ take count part) view

-- a whole room is copied, and a front of it counts
pub room_copied : (old new room self : List ℕ) (at n len : ℕ) → length room ≡ n → at ≤ length old → len ≤ n → take (at + n) new ≡ take at old ++ room → take len room ≡ self
    → take (at + length self) new ≡ take at old ++ self
room_copied old new room self at n len size p q e is =
    let whole : take (at + n) new ≡ take at old ++ take n room = e ∙ ap (λ (x : List ℕ). take at old ++ x) (sym (take_all n room (omega (arith, size)))) in
    let so : take (at + len) new ≡ take at old ++ take len room = part_put old new room (take at old) at n len p q whole refl in
    let count : length self ≡ len = sym (ap length is) ∙ length-take-le len room (omega (arith, size, q)) in
    ap (λ k. take (at + k) new) count ∙ so ∙ ap (λ (x : List ℕ). take at old ++ x) is
