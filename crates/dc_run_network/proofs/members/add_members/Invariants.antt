use Rattle.std.proofs.Common.{◌≡◌, length}
use Rattle.dc_run_network.specs.Members.{AreMembersTo}
use Rattle.dc_run_network.proofs.members.add_members.Given as goal

-- those so far are accepted
abbrev pub invariant-loop-concentrator : goal.invariant-loop-concentrator
invariant-loop-concentrator g l = record {
  same : g.F.Shelf.holds l.shelf ≡ g.F.Shelf.holds l.fn.shelf;
  keeps : g.F.Shelf.keeps l.fn.shelf l.shelf;
  each : length l.members.items ≡ l.concentrator-index;
  are : AreMembersTo (g.F.Shelf.holds l.fn.shelf) l.folder l.concentrators l.members.items l.concentrator-index;
}
