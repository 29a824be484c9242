use Rattle.std.proofs.Common.{◌≡◌, rules, ap}
use Rattle.dc_checkpar.proofs.Draws.{parts}
use Rattle.dc_checkpar.proofs.laws.Counter.split.Goals as goal

pub split_seat-requires : goal.split_seat-requires
split_seat-requires c =
    let is : c.self.inside.jobs ≡ c.args.self.now.1 = ap (λ b. b.1) c.self.view_is in
    let v = ap (λ s. s.1) c.drawer.view_is in
    (search rules, search rules, rw c.self.invariant.0 (parts c.self.inside.jobs _ _ (rw (is, ap (λ u. u.jobs) v) c.requires.drawer.1) (rw (ap (λ u. u.leads) v) c.requires.leads.0) (rw (ap (λ u. u.splits) v) c.requires.leads.1)))
