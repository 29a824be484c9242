use Rattle.std.proofs.Common.{rules}
use Rattle.dc_same_tables.proofs.Pairing.{not_so, one_head, send_same, take_same, written_same}
use Rattle.dc_same_tables.proofs.same.say_the_same.Goals as goal

pub returns-then-not-have_one_head : goal.returns-then-not-have_one_head
returns-then-not-have_one_head c = not_so c.have_one_head.result c.have_one_head.ensures (search rules) (one_head c.args.one.now c.args.other.now)

pub returns-then-not-take_the_same : goal.returns-then-not-take_the_same
returns-then-not-take_the_same c = not_so c.take_the_same.result c.take_the_same.ensures (search rules) (take_same c.args.one.now c.args.other.now)

pub returns : goal.returns
returns c =
    let d = c.args.one.now in
    let e = c.args.other.now in (
      λ sent. written_same d e (c.have_one_head.ensures.0 (search rules)) (c.take_the_same.ensures.0 (search rules)) (c.send_the_same.ensures.0 sent),
      λ same. c.send_the_same.ensures.1 (send_same d e same),
    )
