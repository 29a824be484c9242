use Rattle.std.proofs.Common.{map, sym, ◌∙◌, arith}
use Rattle.std.proofs.lemmas.List.{length-map}
use Rattle.dc_toml.proofs.Known.{keyed_full}
use Rattle.dc_toml.proofs.keys.keyed.Goals as goal

pub returns-then-len-keys : goal.returns-then-len-keys
returns-then-len-keys c =
    keyed_full c.args.place (map (λ k. k.now) c.args.keys.now) c.args.table.now.entries c.in_ok-known.field-0 c.len.ensures.ordered
    (omega (arith, length-map c.args.keys.now (λ k. k.now), c.if-len-keys.true, c.len.ensures.len))
    (sym c.in_ok-known.was ∙ c.known.ensures)
