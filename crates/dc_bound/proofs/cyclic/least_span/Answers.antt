use Rattle.std.proofs.Common.{◌/◌, ◌%◌, length}
use Rattle.std.proofs.Math.Nat.{div-add-mod'}
use Rattle.dc_bound.specs.lemmas.Spans.{span_rounds}
use Rattle.dc_bound.proofs.cyclic.least_span.Goals as goal

pub returns : goal.returns
returns c =
    span_rounds c.args.frame c.args.offsets.now c.requires.framed c.args.k (c.args.k / length c.args.offsets.now) (c.args.k % length c.args.offsets.now) (length c.args.offsets.now) c.least_span_in_rest.result
    (div-add-mod' c.args.k (length c.args.offsets.now))
    c.least_span_in_rest.ensures.span
