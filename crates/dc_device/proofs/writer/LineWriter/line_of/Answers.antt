use Rattle.std.proofs.lemmas.Result.{err_from_is_err_and}
use Rattle.dc_device.specs.lemmas.Known.{gathers_after, first_failed}
use Rattle.dc_device.proofs.writer.LineWriter.line_of.Goals as goal

pub returns-in_err-put-clause-bytes : goal.returns-in_err-put-clause-bytes
returns-in_err-put-clause-bytes g c =
    let p = err_from_is_err_and c.from_residual.result c.from_residual.ensures.1 in
    first_failed _ _ c.args.self.now _ c.args.front.now _ _ p.0 p.1 c.in_err-put.ensures.bytes

pub returns-clause-bytes : goal.returns-clause-bytes
returns-clause-bytes g c = gathers_after _ _ _ _ _ _ _ _ _ c.in_ok-put.ensures.bytes c.line.ensures.bytes
