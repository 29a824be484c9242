use Rattle.std.proofs.Common.{◌≡◌, ℕ, ◌≤◌, map, max, sym, ap, ◌∙◌, arith, below_more, rules}
use Rattle.std.specs.Prelude.{slice_index}
use Rattle.std.proofs.lemmas.List.{length-map}
use Rattle.dc_cert.specs.Bounds.{input_bound}
use Rattle.dc_cert.specs.NamedRows.{named_input}
use Rattle.dc_check.specs.Accepts.{source_delay}
use Rattle.dc_find.proofs.Claimed.{delay-read, delay-short, age-least}
use Rattle.dc_find.specs.Rows.{inputs_alone}
use Rattle.dc_find.proofs.rows.least_age.Goals as goal

pub loop-stream-preserved : goal.loop-stream-preserved
loop-stream-preserved c =
    let i : ℕ = c.loop-stream.stream-index in
    let read : source_delay c.args.tables.now (inputs_alone (map named_input c.args.inputs.now)) (slice_index c.as_slice-sources.result.now c.loop-stream.stream-index) ≡ c.index-inputs-bus.result.delay =
    ap (λ b. (input_bound (inputs_alone (map named_input c.args.inputs.now)) b).delay) (sym c.bus_of-bus.ensures.bus)
    ∙ delay-read c.args.inputs.now c.bus_of-bus.result c.index-inputs-bus.result (omega (arith, c.bus_of-bus.ensures.there, c.requires.inputs.count, length-map c.args.inputs.now named_input)) c.index-inputs-bus.is in
    let short = delay-short c.args.inputs.now c.bus_of-bus.result c.index-inputs-bus.result (omega (arith, c.bus_of-bus.ensures.there, c.requires.inputs.count, length-map c.args.inputs.now named_input)) c.index-inputs-bus.is c.requires.inputs.each in
    let most : c.max-delay.result ≡ max c.loop-stream.delay c.index-inputs-bus.result.delay = search rules in
    record {
      short = omega (arith, most, c.loop-stream.invariant.short, short);
      covers = below_more (λ k. source_delay c.args.tables.now (inputs_alone (map named_input c.args.inputs.now)) (slice_index c.as_slice-sources.result.now k) ≤ c.max-delay.result) c.loop-stream.stream-index
          (λ k l. omega (arith, c.loop-stream.invariant.covers k l, most)) (omega (arith, read, most));
      least = λ n each. omega (arith, most, c.loop-stream.invariant.least n (λ k l. each k (omega arith)), each c.loop-stream.stream-index (omega arith), read);
    }

pub returns : goal.returns
returns c =
    age-least c.args.tables.now c.args.label (inputs_alone (map named_input c.args.inputs.now)) c.as_slice-sources.result.now
    (c.as_slice-sources.ensures ∙ ap (λ r. r.sources) c.label-row.ensures) (c.valid.ensures.sources_some c.args.label c.requires.there)
    c.loop-stream.stream-index c.loop-stream.delay c.label-row.result.now.stale c.loop-stream-test.false c.loop-stream.auto.stream-index-end
    c.loop-stream.invariant.covers c.loop-stream.invariant.least (ap (λ r. r.stale) c.label-row.ensures)
