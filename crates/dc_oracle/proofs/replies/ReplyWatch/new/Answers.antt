use Rattle.std.proofs.Common.{ℕ, None, refl, subst}
use Rattle.dc_oracle.specs.Fresh.{AllMade}
use Rattle.dc_oracle.proofs.Replying.{holds-new}
use Rattle.dc_oracle.proofs.replies.ReplyWatch.new.Goals as goal

pub returns-clause-holds : goal.returns-clause-holds
returns-clause-holds c =
    let Q : ℕ → Type 0 = λ n. AllMade (λ _. None) None n c.in_ok-all_of.field-0.items in
    let R : ℕ → Type 0 = λ n. AllMade (λ _. 0) 0 n c.in_ok-all_of-2.field-0.items in
    let S : ℕ → Type 0 = λ n. AllMade (λ _. 0) 0 n c.in_ok-all_of-3.field-0.items in
    holds-new c.args.tables.now _ refl c.in_ok-no_logs.ensures (subst Q c.stream_count.ensures c.in_ok-all_of.ensures) (subst R c.router_count.ensures c.in_ok-all_of-2.ensures) (subst S c.output_count.ensures c.in_ok-all_of-3.ensures)
