use Rattle.std.proofs.Common.{◌≡◌, length}
use Rattle.dc_script.specs.Script.{turns}
use Rattle.dc_tables.specs.TableRows.{bus_row}
use Rattle.dc_script.proofs.bench.Writing.write_tick.Given as goal

abbrev pub invariant-loop-k : goal.invariant-loop-k
invariant-loop-k l = (l.self ≡ turns l.tables l.bus l.tick l.k l.fn.self) × (length l.self.lasts ≡ (bus_row l.tables l.bus).streams)
