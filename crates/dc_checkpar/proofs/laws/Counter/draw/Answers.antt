use Rattle.std.proofs.Common.{◌≡◌, rules, ap, ◌∙◌}
use Rattle.dc_checkpar.proofs.Draws.{draws}
use Rattle.dc_checkpar.specs.Drawing.{past}
use Rattle.dc_checkpar.proofs.laws.Counter.draw.Goals as goal

pub fetch_add-requires : goal.fetch_add-requires
fetch_add-requires c =
    let is : c.self.inside.jobs ≡ c.args.self.now.1 = ap (λ b. b.1) c.self.view_is in
    let fresh : past c.self.inside.jobs c.drawer.inside.seat.me.0.drawn ≡ 0 =
    ap (λ k. past k c.drawer.inside.seat.me.0.drawn) is ∙ ap (past c.args.self.now.1) (ap (λ s. s.1.drawn) c.drawer.view_is) ∙ c.requires.none_past in
    (search rules, search rules, rw c.self.invariant.0 (draws c.self.inside.jobs _ _ _ c.self.invariant.2 fresh))
