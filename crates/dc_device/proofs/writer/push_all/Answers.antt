use Rattle.std.proofs.Common.{rules}
use Rattle.dc_device.specs.lemmas.Known.{push_more}
use Rattle.dc_device.proofs.writer.push_all.Goals as goal

pub loop-rest-preserved : goal.loop-rest-preserved
loop-rest-preserved g c =
    let (front, whole, before) = c.loop-rest.invariant.written in
    record {
      written =
          rw c.split_at.ensures.back (push_more _ _ _ front _ _ c.in_ok-n.n whole before c.in_ok-n.ensures.bytes.0);
      failed = search rules;
      answered = search rules;
    }
