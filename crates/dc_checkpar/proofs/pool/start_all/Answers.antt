use Rattle.std.proofs.Common.{sym, ap, subst, ◌∙◌, arith}
use Rattle.dc_checkpar.proofs.Joined.{promised-one}
use Rattle.dc_checkpar.specs.Reports.{ArePromised}
use Rattle.dc_checkpar.proofs.pool.start_all.Goals as goal

pub loop-preserved : goal.loop-preserved
loop-preserved g c =
    let left = c.split-drawer.ensures.left in
    let before = c.loop.invariant in
    let pushed = c.push_reserved.ensures in (
      left.0 ∙ before.0,
      ap (λ v. v.jobs) left.1 ∙ before.1,
      ap (λ v. v.leads) left.1 ∙ before.2,
      ap (λ v. v.drawn) left.1 ∙ before.3,
      omega (arith, ap (λ v. v.splits) left.1, before.4),
      omega (arith, pushed.len, before.5),
      omega (arith, pushed.capacity, before.6),
      subst (λ hs. ArePromised c.args.shared.now.jobs.now c.args.shared.now.gate.now (λ h. h.promise.jobs.value) (λ h. h.promise.gate.value) hs) (sym pushed.items)
          (promised-one c.loop.children.items c.in-Ok.child c.args.shared.now.jobs.now c.args.shared.now.gate.now (λ h. h.promise.jobs.value) (λ h. h.promise.gate.value) before.7 c.in-Ok.ensures.ok),
    )
