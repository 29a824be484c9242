use Rattle.std.proofs.Common.{ap, sym, ◌∙◌}
use Rattle.toml.specs.View.{table_view}
use Rattle.dc_toml.specs.Keys.{keyed}
use Rattle.dc_toml.specs.Reading.{stream_keys}
use Rattle.dc_toml.proofs.keys.stream_keyed.Goals as goal

pub returns-in-One : goal.returns-in-One
returns-in-One c = c.keyed.ensures ∙ ap (λ v. keyed c.args.place (stream_keys v) (table_view c.args.table.now)) (sym c.in-One.is)

pub returns-in-Two : goal.returns-in-Two
returns-in-Two c = c.keyed-in-Two.ensures ∙ ap (λ v. keyed c.args.place (stream_keys v) (table_view c.args.table.now)) (sym c.in-Two.is)
