use Rattle.std.proofs.Common.{◌≡◌, length}
use Rattle.dc_script.specs.Script.{written}
use Rattle.dc_tables.specs.TableRows.{bus_row}
use Rattle.dc_script.proofs.bench.words_of.Given as goal

abbrev pub invariant-loop-tick : goal.invariant-loop-tick
invariant-loop-tick l = (l.writing ≡ written l.tables l.bus l.tick) × (length l.writing.lasts ≡ (bus_row l.tables l.bus).streams)
