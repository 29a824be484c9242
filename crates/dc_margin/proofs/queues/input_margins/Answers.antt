use Rattle.std.proofs.Common.{◌<◌, length, sym, ◌∙◌, arith}
use Rattle.dc_check.specs.lemmas.CertificateReads.{inputs-count, input-read}
use Rattle.dc_margin.proofs.Few.{bus-few}
use Rattle.dc_margin.proofs.Told.{input-same}
use Rattle.dc_margin.proofs.queues.input_margins.Goals as goal

pub input_margins_by-requires : goal.input_margins_by-requires
input_margins_by-requires c = record { few = λ d short. omega (arith, c.bus_service.ensures d, bus-few c.args.fitted.now.tables.now c.valid.ensures c.args.bus c.requires.there d short) }

pub returns : goal.returns
returns c =
    let there : c.args.bus < length c.args.fitted.now.certificate.now.inputs.items = omega (arith, c.requires.there, c.args.fitted.now.sized.inputs, inputs-count c.args.fitted.now.certificate.now) in
    c.input_margins_by.ensures
    ∙ input-same _ _ c.bus_bound.ensures _ _ c.bus_service.ensures _ _ c.queue.ensures _ _ (sym (input-read c.args.fitted.now.certificate.now c.args.bus c.index-row.result.now there c.index-row.ensures))
