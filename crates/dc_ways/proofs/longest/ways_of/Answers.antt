use Rattle.std.proofs.Common.{◌≡◌, ◌+◌, ◌<◌, ℕ, List, length, get_or, sym, ap, ◌∙◌, subst, arith}
use Rattle.dc_tables.specs.TableRows.{TableRows}
use Rattle.dc_network.specs.Networks.{way_of, way_to}
use Rattle.dc_ways.specs.Members.{MemberRows, member_of, network_of, rows_of, ways_in}
use Rattle.dc_ways.specs.lemmas.Steps.{from-to, are-bounded, row-more}
use Rattle.dc_ways.proofs.longest.ways_of.Goals as goal

pub loop-label-preserved : goal.loop-label-preserved
loop-label-preserved c =
    let n = network_of c.args.members.now c.args.connections.now in
    let w : ℕ → ℕ → ℕ = ways_in c.args.rows.now in
    let l = c.loop-label.invariant in
    let m = c.member-member.result.now in
    let P : List ℕ → Type 0 = λ z. (s : ℕ) → s < length z → get_or z s 0 ≡ way_to (network_of c.args.members.now c.args.connections.now) (ways_in c.args.rows.now) c.args.i s in
    let S : List ℕ → Type 0 = λ z. length z ≡ length (rows_of c.args.members.now c.args.i).streams in
    let before = subst P (sym c.deref.ensures.value) (λ s there. c.in_ok-before.ensures.value s (omega (arith, there, c.in_ok-before.before.ok.0))) in
    let sized = subst S (sym c.deref.ensures.value) (omega (arith, c.in_ok-before.ensures.each, c.in_ok-before.before.ok.0)) in
    let streams : length (rows_of c.args.members.now c.args.i).streams ≡ length c.member-member.result.now.written.tables.streams = ap (λ (m : MemberRows). length m.written.tables.streams) (sym c.member-member.ensures) in
    let inside : c.loop-label.label < length c.member-member.result.now.written.tables.labels = omega (arith, c.loop-label-test.true, c.label_count-label-end.ensures, ap (λ (t : TableRows). length t.labels) c.tables.ensures) in
    let own = from-to c.args.members.now c.args.connections.now (ways_in c.args.rows.now) c.args.i c.loop-label.label c.member-member.result.now (λ s. get_or c.deref.result.now s 0) (ap member_of c.member-member.ensures) c.judged.ensures inside
    (λ s there. before s (omega (arith, there, sized, streams))) in
    let more = row-more c.loop-label.row c.loop-label.label c.way_of.result (λ x. way_of (network_of c.args.members.now c.args.connections.now) (ways_in c.args.rows.now) c.args.i x) l.0 l.1 (c.way_of.ensures ∙ own) in
    let Q : List ℕ → Type 0 = λ z. (length z ≡ c.loop-label.label + 1) × ((x : ℕ) → x < c.loop-label.label + 1 → get_or z x 0 ≡ way_of (network_of c.args.members.now c.args.connections.now) (ways_in c.args.rows.now) c.args.i x) in
    subst Q (sym c.in_ok-push.ensures) more

pub returns-clause-bounded : goal.returns-clause-bounded
returns-clause-bounded c =
    let l = c.loop-label.invariant in
    let labels : length c.tables.result.now.labels ≡ length (rows_of c.args.members.now c.args.i).labels = ap (λ (t : TableRows). length t.labels) (c.tables.ensures ∙ ap (λ (m : MemberRows). m.written.tables) c.member-member.ensures) in
    let end : length (rows_of c.args.members.now c.args.i).labels ≡ c.loop-label.label = omega (arith, c.loop-label-test.false, c.loop-label.auto.label-end, c.label_count-label-end.ensures, labels) in
    are-bounded c.args.members.now c.args.connections.now c.args.rows.now c.args.i c.loop-label.row c.member-member.result.now (ap member_of c.member-member.ensures) c.judged.ensures c.requires.connections
    (l.0 ∙ sym end)
    (λ x there. l.1 x (omega (arith, there, end)))
