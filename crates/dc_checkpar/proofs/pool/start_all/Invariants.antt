use Rattle.std.proofs.Common.{◌≡◌, ◌≤◌, true, [], vec_len, vec_capacity}
use Rattle.dc_checkpar.specs.Reports.{ArePromised}
use Rattle.dc_checkpar.proofs.pool.start_all.Given as goal

abbrev pub invariant-loop : goal.invariant-loop
invariant-loop g l =
    (l.leader.0 ≡ l.shared.source.now.0) × (l.leader.1.jobs ≡ l.shared.source.now.1) × (l.leader.1.leads ≡ true) × (l.leader.1.drawn ≡ [])
    × (l.leader.1.splits ≡ l.counter) × (vec_len l.children ≡ l.counter) × (l.others ≤ vec_capacity l.children)
    × ArePromised l.shared.jobs.now l.shared.gate.now (λ h. h.promise.jobs.value) (λ h. h.promise.gate.value) l.children.items
