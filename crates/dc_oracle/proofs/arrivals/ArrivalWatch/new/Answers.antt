use Rattle.std.proofs.Common.{ℕ, None, [], subst}
use Rattle.dc_oracle.specs.Fresh.{AllMade}
use Rattle.dc_oracle.specs.Life.{no_life}
use Rattle.dc_oracle.proofs.Arriving.{follows-new}
use Rattle.dc_oracle.proofs.arrivals.ArrivalWatch.new.Goals as goal

pub returns-clause-follows : goal.returns-clause-follows
returns-clause-follows c =
    let P : ℕ → Type 0 = λ n. AllMade (λ _. no_life) no_life n c.in_ok-no_lives.field-0.items in
    let R : ℕ → Type 0 = λ n. AllMade (λ _. None) None n c.in_ok-all_of.field-0.items in
    follows-new c.args.tables.now _ (subst P c.stream_count.ensures c.in_ok-no_lives.ensures) (subst R c.stream_count-2.ensures c.in_ok-all_of.ensures)
