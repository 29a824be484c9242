use Rattle.std.proofs.Common.{◌≡◌, ℕ, ◌+◌, ◌-◌, length, arith, subst}
use Rattle.dc_transmit.specs.Gaps.{first_off}
use Rattle.dc_transmit.specs.Schedule.{off, is_of_label}
use Rattle.dc_transmit.proofs.Scan.{Scanned, scan_all}
use Rattle.dc_transmit.proofs.schedule.gaps.Goals as goal

pub returns-clause-least : goal.returns-clause-least
returns-clause-least c =
    let e : length c.args.entries.now - c.loop-k.k ≡ 0 = omega arith in
    let P : ℕ → Type 0 = λ n. Scanned c.args.label (c.args.frame + first_off off (is_of_label c.args.label) c.args.entries.now 0) c.args.frame c.args.entries.now n c.loop-k.next c.loop-k.least c.loop-k.greatest in
    (scan_all c.args.label c.args.frame c.loop-k.next c.loop-k.least c.loop-k.greatest c.args.entries.now (subst P e c.loop-k.invariant)).0

pub returns-clause-greatest : goal.returns-clause-greatest
returns-clause-greatest c =
    let e : length c.args.entries.now - c.loop-k.k ≡ 0 = omega arith in
    let P : ℕ → Type 0 = λ n. Scanned c.args.label (c.args.frame + first_off off (is_of_label c.args.label) c.args.entries.now 0) c.args.frame c.args.entries.now n c.loop-k.next c.loop-k.least c.loop-k.greatest in
    (scan_all c.args.label c.args.frame c.loop-k.next c.loop-k.least c.loop-k.greatest c.args.entries.now (subst P e c.loop-k.invariant)).1
