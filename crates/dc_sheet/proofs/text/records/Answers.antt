use Rattle.std.proofs.Common.{Bor, List, ℕ, ◌≡◌, ◌∙◌, sym, refl, rules, inl, inr, true, map, Some, ◌∷◌, ◌++◌, [], ap}
use Rattle.std.specs.Result.{is_ok}
use Rattle.csv.specs.Reading.{Reached, strip_bom}
use Rattle.csv.specs.Records.{fields_of, trimmed}
use Rattle.csv.specs.declared.parser.Config.{Config}
use Rattle.csv.specs.declared.parser.State.TheVariants as st
use Rattle.csv.proofs.ReadFacts.{rows-end, rows-more}
use Rattle.dc_sheet.specs.Texts.{sheet_config}
use Rattle.dc_sheet.proofs.Steps.{held, pushed}
use Rattle.dc_sheet.proofs.text.records.Goals as goal

pub loop-row-init : goal.loop-row-init
unfolding Reached
loop-row-init c =
    let fr = c.from_reader-rdr.ensures in
    let e1 = c.has_headers.ensures in
    let e2 = c.flexible.ensures in
    let e3 = c.delimiter.ensures in
    let start = c.into_iter-row-iterator.ensures.into_iter_gives ∙ refl in
    let rdr = c.into_byte_records-row-items.ensures.rdr in
    let left = c.into_byte_records-row-items.ensures.left in
    rw (start, rdr, c.new-rows.ensures.items) (
      rw (e3, e2, e1) at fr.trim ∙ c.new.ensures.trim,
      inr (inr (rw (e3, e2, e1) at fr.has_headers, fr.headers)),
      left,
      rw (e3, e2, e1) at fr.config ∙ ap (λ (k : Config). record k { delimiter = c.args.separator }) c.new.ensures.config,
      strip_bom c.args.text.now,
      [],
      fr.source,
      (sym fr.state, refl),
      refl,
    )

pub loop-row-preserved : goal.loop-row-preserved
loop-row-preserved c =
    let inv = c.loop-row.invariant in
    let s = rw (c.in-Some.is, c.in_ok-row.was) at ((c.next.ensures.steps inv.2 inv.0).0 inv.1) in
    let good : is_ok c.push.result ≡ true = search rules in
    let items = rw good at c.push.ensures.items in
    let well : is_ok c.trim.result ≡ true = search rules in
    let short = held (fields_of c.trim.new.self ≡ map trimmed (fields_of c.in_ok-row.row)) c.trim.result well c.trim.ensures.fields in
    let m = rows-more (λ (s : Bor (List ℕ)). Some s.now) c.loop-row.row-iterator.rdr c.next.new.self.rdr (fields_of c.in_ok-row.row) (sheet_config c.args.separator) st.StartRecord (strip_bom c.args.text.now) inv.4 inv.5 inv.3 inv.6 inv.7 s.0 in (
      s.0.3 ∙ inv.0,
      inl s.1,
      s.2,
      s.0.2 ∙ inv.3,
      m.0,
      inv.5 ++ fields_of c.in_ok-row.row ∷ [],
      m.1,
      m.2,
      pushed c.loop-row.rows.items c.push.new.self.items _ inv.5 (fields_of c.in_ok-row.row) items inv.8 short,
    )

pub returns : goal.returns
returns c =
    let inv = c.loop-row.invariant in
    let s = rw c.in-None.is at ((c.next.ensures.steps inv.2 inv.0).0 inv.1) in
    (inv.5, (c.loop-row.row-iterator.rdr.state, inv.4, inv.7, rows-end (λ (s : Bor (List ℕ)). Some s.now) c.loop-row.row-iterator.rdr c.next.new.self.rdr [] (sheet_config c.args.separator) inv.4 inv.3 inv.6 s), inv.8)
