use Rattle.std.proofs.Common.{◌≡◌, Ok, rules}
use Rattle.dc_document.specs.Document.{Document}
use Rattle.dc_rules.specs.Rules.{Verdict, reported, then_reported, fault_in, doubled_name, bus_names, stream_names, router_names, output_names, label_names}
use Rattle.dc_document.specs.declared.fault.TableRule.TheVariants.{NameDoubled}
use Rattle.dc_document.specs.declared.fault.Section.TheVariants.{Bus, Stream, Router, Output, Label}
use Rattle.dc_rules.proofs.Telling.{tells_later}
use Rattle.dc_rules.proofs.judge.index_names.Goals as goal

pub returns-clause-rule : goal.returns-clause-rule
returns-clause-rule c =
    let d : Document = c.args.parts.now in
    let buses : Verdict = reported NameDoubled Bus (doubled_name (bus_names d)) in
    let streams : Verdict = reported NameDoubled Stream (doubled_name (stream_names d)) in
    let routers : Verdict = reported NameDoubled Router (doubled_name (router_names d)) in
    let outputs : Verdict = reported NameDoubled Output (doubled_name (output_names d)) in
    let labels : Verdict = reported NameDoubled Label (doubled_name (label_names d)) in
    let b : buses ≡ Ok tt = search rules in
    let s : streams ≡ Ok tt = search rules in
    let r : routers ≡ Ok tt = search rules in
    let o : outputs ≡ Ok tt = search rules in
    let fault = fault_in c.with_labels.result in
    tells_later buses (then_reported streams (then_reported routers (then_reported outputs labels))) fault b
    (tells_later streams (then_reported routers (then_reported outputs labels)) fault s
    (tells_later routers (then_reported outputs labels) fault r
    (tells_later outputs labels fault o c.with_labels.ensures.rule)))
