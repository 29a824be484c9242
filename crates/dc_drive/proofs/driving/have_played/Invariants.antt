use Rattle.std.proofs.Common.{◌≡◌, ℕ, ◌<◌, Some}
use Rattle.std.specs.Prelude.{slice_get}
use Rattle.dc_drive.specs.Played.{HasPlayed}
use Rattle.dc_drive.proofs.driving.have_played.Given as goal

abbrev pub invariant-loop-k : goal.invariant-loop-k
invariant-loop-k g l = (j n : ℕ) (x : _) → j < l.k → slice_get l.before.items j ≡ Some n → slice_get l.seats.items j ≡ Some x → HasPlayed l.tables l.script n (g.S.Player.seat x)
