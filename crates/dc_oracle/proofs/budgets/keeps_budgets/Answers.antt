use Rattle.std.proofs.Common.{◌≡◌, Bool, take, subst, arith}
use Rattle.std.proofs.lemmas.List.{length-take, take_all}
use Rattle.dc_event.specs.Admissible.{KeepsBudgets}
use Rattle.dc_event.specs.lemmas.Beginnings.{KeepsBudgets-beginning}
use Rattle.dc_oracle.specs.Budgets.{Seen}
use Rattle.dc_oracle.proofs.Places.{never-breaks, breaks-at, ticks-le, next-place}
use Rattle.dc_oracle.proofs.budgets.keeps_budgets.Goals as goal

pub see-requires-clause-early : goal.see-requires-clause-early
see-requires-clause-early c = omega (arith, c.loop-i.invariant.watches.clock, ticks-le (take c.loop-i.i c.args.run.now), length-take c.loop-i.i c.args.run.now, c.loop-i-test.true)

pub returns-then-not-see : goal.returns-then-not-see
returns-then-not-see c =
    let P : Bool → Type 0 = λ b. Seen c.args.tables.now c.see.new.self (take c.loop-i.i c.args.run.now) c.index-run-i.result b in
    breaks-at (KeepsBudgets c.args.tables.now) (KeepsBudgets-beginning c.args.tables.now) c.args.run.now c.loop-i.i c.index-run-i.result (omega (arith, c.loop-i-test.true))
    (next-place c.args.run.now c.loop-i.i c.index-run-i.result (omega (arith, c.loop-i-test.true)) c.index-run-i.is) c.loop-i.invariant.watches.kept
    (subst P c.if-not-see.true (c.see.ensures.seen (take c.loop-i.i c.args.run.now) c.loop-i.invariant.watches))

pub returns : goal.returns
returns c =
    let all : take c.loop-i.i c.args.run.now ≡ c.args.run.now = take_all c.loop-i.i c.args.run.now (omega (arith, c.loop-i-test.false)) in
    never-breaks (KeepsBudgets c.args.tables.now) (KeepsBudgets-beginning c.args.tables.now) c.args.run.now
    (subst (KeepsBudgets c.args.tables.now) all c.loop-i.invariant.watches.kept)
