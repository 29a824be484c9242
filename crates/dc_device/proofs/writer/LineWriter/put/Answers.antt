use Rattle.std.proofs.lemmas.Result.{err_from_is_err_and}
use Rattle.dc_device.specs.lemmas.Known.{given_up, pushed_then_pushed}
use Rattle.dc_device.proofs.writer.LineWriter.put.Goals as goal

pub returns-in_err-flush-clause-bytes : goal.returns-in_err-flush-clause-bytes
returns-in_err-flush-clause-bytes g c =
    let p = err_from_is_err_and c.from_residual.result c.from_residual.ensures.1 in
    given_up _ _ _ _ _ _ _ p.0 p.1 c.if-hold.ensures c.in_err-flush.ensures.bytes c.in_err-flush.ensures.empty

pub returns-clause-bytes : goal.returns-clause-bytes
returns-clause-bytes g c =
    pushed_then_pushed _ _ _ _ _ _ _ _ _ c.if-hold.ensures c.in_ok-flush.ensures.bytes c.push_all.ensures.bytes c.in_ok-flush.ensures.empty
    c.if-hold-2.ensures
