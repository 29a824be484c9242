use Rattle.std.proofs.Common.{List, [], length, map, refl, ap, sym, ◌∙◌}
use Rattle.dc_check.proofs.Naming.{map-map}
use Rattle.dc_cert.specs.NamedRows.{NamedInput, NamedOutput, NamedLabel, named_rows, named_input, named_output, named_label}
use Rattle.dc_cert.specs.declared.certificate.InputRow.{InputRow}
use Rattle.dc_cert.specs.declared.certificate.OutputRow.{OutputRow}
use Rattle.dc_cert.specs.declared.certificate.LabelRow.{LabelRow}
use Rattle.dc_check.specs.lemmas.Exact.{sized-answer}
use Rattle.dc_check.specs.lemmas.Firsts.{rule-same, rules-same}
use Rattle.dc_check.specs.Verdict.{first_of, is_named}
use Rattle.dc_check.proofs.names.misnamed.Goals as goal

pub returns : goal.returns
returns c =
    let t = c.args.tables.now in
    let own = c.args.certificate.now in
    let buses = rule-same _ _ _ _ _ c.fault_unless.ensures
    (c.are_named.ensures
    ∙ ap (λ ns. is_named (length t.buses) ns t.names.buses) (sym (map-map (λ (i : NamedInput). i.bus) named_input c.deref.result.now))
    ∙ ap (λ (xs : List InputRow). is_named (length t.buses) (map (λ (i : NamedInput). i.bus) (map named_input xs)) t.names.buses) c.deref.ensures.value) c.fault.ensures in
    let outputs = rule-same _ _ _ _ _ c.fault_unless-2.ensures
    (c.are_named-2.ensures
    ∙ ap (λ ns. is_named (length t.outputs) ns t.names.outputs) (sym (map-map (λ (o : NamedOutput). o.output) named_output c.deref-2.result.now))
    ∙ ap (λ (xs : List OutputRow). is_named (length t.outputs) (map (λ (o : NamedOutput). o.output) (map named_output xs)) t.names.outputs) c.deref-2.ensures.value) c.fault-2.ensures in
    let labels = rule-same _ _ _ _ _ c.fault_unless-3.ensures
    (c.are_named-3.ensures
    ∙ ap (λ ns. is_named (length t.labels) ns t.names.labels) (sym (map-map (λ (l : NamedLabel). l.label) named_label c.deref-3.result.now))
    ∙ ap (λ (xs : List LabelRow). is_named (length t.labels) (map (λ (l : NamedLabel). l.label) (map named_label xs)) t.names.labels) c.deref-3.ensures.value) c.fault-3.ensures in
    let exact = c.first_fault.ensures ∙ ap first_of (rules-same _ _ _ _ buses (rules-same _ _ _ _ outputs (rules-same _ _ [] [] labels refl))) in
    record { exact = exact; sized = sized-answer t (named_rows own) c.first_fault.result exact }
