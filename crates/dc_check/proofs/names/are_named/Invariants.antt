use Rattle.std.proofs.Common.{map}
use Rattle.dc_check.proofs.Naming.{AreSame}
use Rattle.dc_check.specs.Names.{names_of}
use Rattle.dc_document.specs.Names.{text_of}
use Rattle.dc_check.proofs.names.are_named.Given as goal

abbrev pub invariant-loop-number : goal.invariant-loop-number
invariant-loop-number g l = AreSame (map (λ row. text_of (g.T.Row.name row)) l.rows) (names_of l.tables l.list) l.number
