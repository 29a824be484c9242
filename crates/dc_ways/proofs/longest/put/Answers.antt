use Rattle.std.proofs.Common.{ℕ, List, subst}
use Rattle.dc_ways.specs.Members.{AreWaysOf, AreBounded}
use Rattle.dc_ways.specs.lemmas.Steps.{step-put}
use Rattle.dc_ways.proofs.longest.put.Goals as goal

pub returns : goal.returns
returns c =
    let r = c.requires in
    let P : List (List ℕ) → Type 0 = λ z. AreWaysOf c.args.members.now c.args.connections.now z c.args.i c.in_ok-row.row in
    let Q : List (List ℕ) → Type 0 = λ z. AreBounded c.args.members.now c.args.connections.now z c.args.i c.in_ok-row.row in
    step-put c.args.members.now c.args.connections.now c.args.places.now c.args.level c.args.i c.args.rows.now.items c.in_ok-row.row r.connections r.places r.there r.so_far r.place (subst P c.as_slice.ensures.value c.in_ok-row.ensures.ways) (subst Q c.as_slice.ensures.value c.in_ok-row.ensures.bounded)
