-- What has come to a queue without end, and what it has handed on.
use Rattle.std.proofs.Common.{◌≡◌, ℕ, ◌+◌, ◌≤◌, List, [], ◌∷◌, ◌++◌, length, refl, ap, arith, zero-add, ◌∙◌}
use Rattle.dc_bound.specs.Run.{ticks, picks, stamped}
use Rattle.dc_bound.specs.Window.{ticks_of}
use Rattle.dc_bound.specs.lemmas.Steps.{stamped-append, ticks_of-append}
use Rattle.dc_bound.specs.Moves.{Move, move_ends, tag_of, visit_of, ticks_in, visit_ticks, visits, ins, passed}
use Rattle.dc_bound.specs.Moves.Move.{Tick, In, Visit}
use Rattle.dc_bound.specs.lemmas.Segments.{picks-append}
use Rattle.dc_bound.specs.lemmas.Least.{served_in-le, le-served_in}

pub ins-append : (a b : List Move) → ins (a ++ b) ≡ ins a ++ ins b
unfolding ins
ins-append [] b = refl
ins-append (Tick ∷ a) b = ins-append a b
ins-append (In x ∷ a) b = ap (λ r. x ∷ r) (ins-append a b)
ins-append (Visit ∷ a) b = ins-append a b

pub ins-count : (ms : List Move) → length (ins ms) ≡ picks tag_of ms
unfolding ins picks
ins-count [] = refl
ins-count (Tick ∷ ms) = omega (arith, ins-count ms)
ins-count (In x ∷ ms) = omega (arith, ins-count ms)
ins-count (Visit ∷ ms) = omega (arith, ins-count ms)

pub visits-append : (a b : List Move) → visits (a ++ b) ≡ visits a + visits b
visits-append a b = picks-append move_ends visit_of a b

-- what was handed on is at most what came by any place and the visits after it
pub passed-le : (a b : List Move) → passed (a ++ b) ≤ length (ins a) + visits b
unfolding passed
passed-le a b = omega (arith, served_in-le (λ past. length (ins past)) visits a b, visits-append a b)

pub le-passed : (ms : List Move) (n : ℕ) → ((a b : List Move) → ms ≡ a ++ b → n ≤ length (ins a) + visits b) → n ≤ passed ms
unfolding passed
le-passed ms n h =
    le-served_in (λ past. length (ins past)) visits ms n
    (λ a b e. omega (arith, h a b e, ap visits e, visits-append a b))

-- ---- more moves at the end

pub visit_ticks-push : (ms more : List Move) → visit_ticks (ms ++ more) ≡ visit_ticks ms ++ ticks_of (stamped move_ends visit_of (ticks_in ms) more)
visit_ticks-push ms more =
    ap ticks_of (stamped-append move_ends visit_of 0 ms more) ∙ ticks_of-append (stamped move_ends visit_of 0 ms) (stamped move_ends visit_of (0 + ticks move_ends ms) more)
    ∙ ap (λ k. ticks_of (stamped move_ends visit_of 0 ms) ++ ticks_of (stamped move_ends visit_of k more)) (zero-add (ticks move_ends ms))
