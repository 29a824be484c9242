use Rattle.std.proofs.Common.{◌≡◌, ℕ, length, get_or, subst, arith, inl, inr}
use Rattle.std.proofs.lemmas.Bool.{cases_lt}
use Rattle.std.proofs.lemmas.List.{get_or_past}
use Rattle.dc_network.specs.Networks.{greatest_below}
use Rattle.dc_ways.specs.Members.{connection_at, way_by}
use Rattle.dc_ways.specs.lemmas.Steps.{small-to}
use Rattle.dc_ways.proofs.longest.ways_to.Goals as goal

pub returns-clause-bound : goal.returns-clause-bound
returns-clause-bound c = λ s. elim (cases_lt s (length c.loop-link.before.items)) [
  | inr past ↦ omega (arith, get_or_past c.loop-link.before.items s 0 past)
  | inl there ↦
      let end : c.loop-link.link-index ≡ length c.args.connections.now = omega (arith, c.loop-link-test.false, c.loop-link.auto.link-index-end) in
      let P : ℕ → Type 0 = λ m. get_or c.loop-link.before.items s 0 ≡ greatest_below (λ k. way_by c.args.members.now (connection_at c.args.connections.now k) c.args.rows.now c.args.i s) m in
      let is = subst P end (c.loop-link.invariant.value s there) in
      omega (arith, is, small-to c.args.members.now c.args.connections.now c.args.rows.now c.args.i s 2000000000000 c.requires.connections c.requires.small)
]
