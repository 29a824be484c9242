use Rattle.std.proofs.Common.{◌≡◌, ◌+◌, ◌≤◌, ◌++◌, vec_len, vec_capacity}
use Rattle.std.specs.Prelude.{All, IfErr}
use Rattle.dc_drive.specs.Played.{AreSame, out_with}
use Rattle.dc_drive.specs.Refusals.{HaltsAs, MayStickAt}
use Rattle.dc_drive.proofs.threads.join_all.Given as goal

abbrev pub invariant-loop-child : goal.invariant-loop-child
invariant-loop-child g l =
    AreSame g.S.Player.seat (l.fn.seats.items ++ out_with (λ h. h.promise.seat.value) l.fn.children.items) (l.seats.items ++ out_with (λ h. h.promise.seat.value) l.children.items)
    × All (g.S.Player.is_of_hub l.hub) l.seats.items
    × All (λ h. (h.promise.hub.value ≡ l.hub) × (h.promise.gate.value ≡ l.gate)) l.children.items
    × (vec_len l.seats + vec_len l.children ≤ vec_capacity l.seats)
    × IfErr l.end (HaltsAs g.L.Charter.certified g.L.Charter.limit (MayStickAt (g.G.Gate.may_stick l.gate)))

abbrev pub decreases-loop-child : goal.decreases-loop-child
decreases-loop-child g l = goal.left-loop-child g l
