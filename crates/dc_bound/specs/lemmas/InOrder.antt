-- The ticks of what is picked from a run never fall.
use Rattle.std.proofs.Common.{ℕ, ◌+◌, ◌≤◌, List, [], ◌∷◌, Option, Some, None, arith}
use Rattle.dc_bound.specs.Window.{ticks_of}
use Rattle.dc_bound.specs.Run.{stamp, stamped}
use Rattle.dc_bound.specs.Moves.{Move, move_ends, tag_of, entries}
use Rattle.dc_bound.specs.Turns.{NeverFall}
use Rattle.dc_bound.specs.lemmas.Visited.{never_fall_tail}

lower : (t u : ℕ) (ts : List ℕ) → t ≤ u → NeverFall (u ∷ ts) → NeverFall (t ∷ ts)
unfolding NeverFall
lower t u [] h k = tt
lower t u (s ∷ ts) h k = (omega (arith, k.0), k.1)

picked_front : (t u : ℕ) (o : Option ℕ) (rest : List (ℕ × ℕ)) → t ≤ u → NeverFall (u ∷ ticks_of rest) → NeverFall (t ∷ ticks_of (stamp t o rest))
unfolding NeverFall
picked_front t u None rest h k = lower t u (ticks_of rest) h k
picked_front t u (Some x) rest h k = (omega arith, lower t u (ticks_of rest) h k)

from_tick : {E : Type 0} (f : E → ℕ) (pick : E → Option ℕ) (t : ℕ) (es : List E) → NeverFall (t ∷ ticks_of (stamped f pick t es))
unfolding stamped NeverFall
from_tick f pick t [] = tt
from_tick f pick t (e ∷ es) = picked_front t (t + f e) (pick e) (stamped f pick (t + f e) es) (omega arith) (from_tick f pick (t + f e) es)

pub picked_in_order : {E : Type 0} (f : E → ℕ) (pick : E → Option ℕ) (t : ℕ) (es : List E) → NeverFall (ticks_of (stamped f pick t es))
picked_in_order f pick t es = never_fall_tail t (ticks_of (stamped f pick t es)) (from_tick f pick t es)

-- so do the ticks of the entries of a queue
pub entries_in_order : (ms : List Move) → NeverFall (ticks_of (entries ms))
entries_in_order ms = picked_in_order move_ends tag_of 0 ms
