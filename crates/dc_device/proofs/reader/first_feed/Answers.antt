use Rattle.std.proofs.Common.{◌≡◌, arith, length, min, subst, take}
use Rattle.dc_device.specs.Lines.{NoFeed}
use Rattle.dc_device.specs.lemmas.LineLemmas.{NoFeed-first, NoFeed-take}
use Rattle.dc_device.proofs.reader.first_feed.Goals as goal

pub loop-i-preserved : goal.loop-i-preserved
loop-i-preserved c =
    NoFeed-take c.args.bytes.now c.loop-i.i (omega (arith, c.min-most.ensures)) c.if-bytes-i-eq10.false c.loop-i.invariant

pub returns : goal.returns
returns c =
    let all : c.loop-i.i ≡ min (length c.args.bytes.now) 65 = omega arith in
    NoFeed-first 65 c.args.bytes.now (subst (λ n. NoFeed (take n c.args.bytes.now)) all c.loop-i.invariant)
