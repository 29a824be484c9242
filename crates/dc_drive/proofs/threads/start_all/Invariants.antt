use Rattle.std.proofs.Common.{◌≡◌, ◌+◌, ◌≤◌, ◌++◌, vec_len, vec_capacity}
use Rattle.std.specs.Prelude.{All}
use Rattle.dc_drive.specs.Played.{out_with}
use Rattle.dc_drive.proofs.threads.start_all.Given as goal

abbrev pub invariant-loop-seat : goal.invariant-loop-seat
invariant-loop-seat g l =
    (l.fn.seats.items ≡ l.seats.items ++ out_with (λ h. h.promise.seat.value) l.children.items)
    × All (g.S.Player.is_of_hub l.stage.hub.now) l.seats.items
    × All (λ h. (h.promise.hub.value ≡ l.stage.hub.now) × (h.promise.gate.value ≡ l.stage.gate.now)) l.children.items
    × (vec_len l.seats + vec_len l.children ≡ vec_len l.fn.seats)
    × (vec_len l.fn.seats ≤ vec_capacity l.children)
    × (vec_capacity l.seats ≡ vec_capacity l.fn.seats)

abbrev pub decreases-loop-seat : goal.decreases-loop-seat
decreases-loop-seat g l = vec_len l.seats
