use Rattle.std.proofs.Common.{◌≡◌, ◌-◌, ◌<◌, ◌≤◌, ap, ◌∙◌, arith}
use Rattle.std.specs.Int.{div_ceil}
use Rattle.std.specs.List.{range_with_len}
use Rattle.dc_busy.specs.BusyWindow.{BacklogAt, DelayAt}
use Rattle.rayon.proofs.Reducing.{Reduces-elim}
use Rattle.rayon.proofs.ToStd.{nat_range-All}
use Rattle.rayon.specs.Numbers.{nat_range}
use Rattle.dc_checkpar.proofs.Pieces.{IsFirstOfBoth, both-one, both-join, few-pieces, found-least}
use Rattle.dc_checkpar.proofs.long.first_failures.Goals as goal

pub reduce-requires-clause-ready : goal.reduce-requires-clause-ready
reduce-requires-clause-ready g c κs within =
    let ends = c.into_par_iter.ensures in
    let few = few-pieces c.args.window c.requires.most in
    let inside = nat_range-All (λ i. (i < 100000) × (c.args.window ≤ 100000) × (c.args.delay ≤ 100000)) 0 c.div_ceil-pieces.result
    (λ i low high. (omega (arith, few, c.div_ceil-pieces.ensures), c.requires.most, c.requires.short)) in
    rw (c.map.ensures.base, c.map.ensures.f, c.with_min_len.ensures.base, ends.0, ends.1) (λ k d lt. (inside k d lt, λ y p. tt))

pub returns-clause-backlog : goal.returns-clause-backlog
returns-clause-backlog g c =
    let ends = c.into_par_iter.ensures in
    let done = c.reduce.ensures in
    let chain = rw (c.map.ensures.base, c.map.ensures.f, c.with_min_len.ensures.base) at done.1 in
    let whole : c.div_ceil-pieces.result - 0 ≡ div_ceil c.args.window 2048 = omega (arith, c.div_ceil-pieces.ensures) in
    let places = chain.1 ∙ (λ i. nat_range (ends.0 i) (ends.1 i)) ∙ ap (range_with_len 0) whole in
    let both = Reduces-elim _ _ IsFirstOfBoth (λ e none. none) (λ xs a x r h step. both-join xs _ a x r h (both-one x) step) both-join done.0 c.reduce.result done.2 in
    found-least (BacklogAt (g.A.ArrivalBound.cap c.args.arrivals.now) (g.S.ServiceBound.floor c.args.service.now) c.args.backlog) c.args.window _ (λ x. x.0) (λ k x q. q.0) chain.0 done.0 places chain.2 c.reduce.result.0 both.0

pub returns-clause-delay : goal.returns-clause-delay
returns-clause-delay g c =
    let ends = c.into_par_iter.ensures in
    let done = c.reduce.ensures in
    let chain = rw (c.map.ensures.base, c.map.ensures.f, c.with_min_len.ensures.base) at done.1 in
    let whole : c.div_ceil-pieces.result - 0 ≡ div_ceil c.args.window 2048 = omega (arith, c.div_ceil-pieces.ensures) in
    let places = chain.1 ∙ (λ i. nat_range (ends.0 i) (ends.1 i)) ∙ ap (range_with_len 0) whole in
    let both = Reduces-elim _ _ IsFirstOfBoth (λ e none. none) (λ xs a x r h step. both-join xs _ a x r h (both-one x) step) both-join done.0 c.reduce.result done.2 in
    found-least (DelayAt (g.A.ArrivalBound.cap c.args.arrivals.now) (g.S.ServiceBound.floor c.args.service.now) c.args.delay) c.args.window _ (λ x. x.1) (λ k x q. q.1) chain.0 done.0 places chain.2 c.reduce.result.1 both.1
