use Rattle.std.proofs.Common.{◌≡◌, ℕ, ◌<◌, ◌≤◌, length, slice_index_or}
use Rattle.dc_core.specs.States.{no_router, router_turned}
use Rattle.dc_core.proofs.machine.turn_routers.Given as goal

abbrev pub invariant-loop-i : goal.invariant-loop-i
invariant-loop-i l = record {
  len : length l.routers.items ≡ length l.fn.routers.items;
  done : (k : ℕ) → k < l.i → slice_index_or l.routers.items k no_router ≡ router_turned (slice_index_or l.fn.routers.items k no_router);
  left : (k : ℕ) → l.i ≤ k → slice_index_or l.routers.items k no_router ≡ slice_index_or l.fn.routers.items k no_router;
}
