use Rattle.std.proofs.Common.{ap, sym, ◌∙◌}
use Rattle.toml.specs.View.{table_view}
use Rattle.dc_toml.specs.Keys.{keyed}
use Rattle.dc_toml.specs.Reading.{bus_keys}
use Rattle.dc_toml.proofs.keys.bus_keyed.Goals as goal

pub returns-in-Two : goal.returns-in-Two
returns-in-Two c = c.keyed-in-Two.ensures ∙ ap (λ v. keyed c.args.place (bus_keys v) (table_view c.args.table.now)) (sym c.in-Two.is)
