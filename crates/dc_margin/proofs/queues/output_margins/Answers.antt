use Rattle.std.proofs.Common.{◌<◌, length, sym, ◌∙◌, arith}
use Rattle.dc_check.specs.lemmas.CertificateReads.{outputs-count, output-read}
use Rattle.dc_margin.proofs.Few.{output-few}
use Rattle.dc_margin.proofs.Told.{output-same}
use Rattle.dc_margin.proofs.queues.output_margins.Goals as goal

pub output_margins_by-requires : goal.output_margins_by-requires
output_margins_by-requires c = record { few = λ d short. omega (arith, c.output_service.ensures d, output-few c.args.fitted.now.tables.now c.valid.ensures c.args.output c.requires.there d short) }

pub returns : goal.returns
returns c =
    let there : c.args.output < length c.args.fitted.now.certificate.now.outputs.items = omega (arith, c.requires.there, c.args.fitted.now.sized.outputs, outputs-count c.args.fitted.now.certificate.now) in
    c.output_margins_by.ensures
    ∙ output-same _ _ c.output_bound.ensures _ _ c.output_service.ensures _ _ (sym (output-read c.args.fitted.now.certificate.now c.args.output c.index-row.result.now there c.index-row.ensures))
