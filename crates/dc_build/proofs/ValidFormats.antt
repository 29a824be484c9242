-- The sources of a label have its format, in tables that break no rule.
use Rattle.std.proofs.Common.{◌≡◌, ℕ, ◌<◌, true, false, not, ◌==◌, Option, Some, None, is_none, List, [], length, get_or, refl, sym, ap, ◌∙◌, arith}
use Rattle.std.specs.Prelude.{option_and_then}
use Rattle.std.specs.List.{slice_get}
use Rattle.std.specs.Option.{option_map_or}
use Rattle.std.proofs.lemmas.List.{length-map, get_or-map}
use Rattle.std.proofs.lemmas.Option.{slice_get-get_or}
use Rattle.dc_word.specs.declared.format.Format.{Format}
use Rattle.dc_word.specs.declared.format.Format.TheVariants.{Bnr, Bcd, Disc}
use Rattle.dc_document.specs.Document.{Document}
use Rattle.dc_rules.specs.Obeys.{ReferencesObey, SchedulesObey}
use Rattle.dc_rules.specs.Rules.{parameter_of, has_unknown, stream_names, format_number, same_format, source_parameter, differs}
use Rattle.dc_document.specs.Keys.{stream_key, label_key}
use Rattle.dc_document.specs.Names.{number_of}
use Rattle.dc_dict.specs.declared.parameter.Parameter.{Parameter as ParameterPart}
use Rattle.dc_document.specs.declared.parts.StreamPart.{StreamPart}
use Rattle.dc_rules.specs.lemmas.Picks.{each_fails, any_fails, not_false}
use Rattle.dc_build.specs.RowsOf.{number_in, AreRows}
use Rattle.dc_tables.specs.TableRows.{TableRows, stream_row, label_row}
use Rattle.dc_tables.specs.declared.rows.Stream.{Stream}
use Rattle.dc_build.proofs.ValidApart.{stream_at, item, number_below}
use Rattle.dc_build.proofs.ValidVisits.{some_is}
use Rattle.dc_build.proofs.ValidLabels.{each_label}

-- the format of a parameter, that of BNR where there is none
abbrev format_of : Option ParameterPart → Format
format_of p = option_map_or (λ q. q.format) p Bnr

one_format : (a b : Format) → (format_number a == format_number b) ≡ true → a ≡ b
one_format Bnr Bnr h = refl
one_format Bnr Bcd h = absurd (cc h)
one_format Bnr Disc h = absurd (cc h)
one_format Bcd Bnr h = absurd (cc h)
one_format Bcd Bcd h = refl
one_format Bcd Disc h = absurd (cc h)
one_format Disc Bnr h = absurd (cc h)
one_format Disc Bcd h = absurd (cc h)
one_format Disc Disc h = refl

same_is : (a b : Option ParameterPart) → same_format a b ≡ true → format_of b ≡ format_of a
same_is None b h = absurd (cc h)
same_is (Some p) None h = absurd (cc h)
same_is (Some p) (Some q) h = sym (one_format p.format q.format h)

module _ (d : Document) (t : TableRows) (rows : AreRows d t) where
  -- the format of a source is that of the parameter of the stream of its number
  source_is : (wanted : List (List ℕ)) → has_unknown (stream_names d) wanted ≡ false → (k : ℕ) → k < length wanted
      → (stream_row t (number_in (stream_names d) (get_or wanted k []))).format ≡ format_of (source_parameter d.parameters d.streams (stream_names d) (get_or wanted k []))
  source_is wanted known k l =
      let names = stream_names d in
      let w = get_or wanted k [] in
      let n = number_in names w in
      let there : length names ≡ length d.streams = length-map d.streams (λ (s : StreamPart). s.name) in
      let below : n < length d.streams = omega (arith, there, number_below names wanted known k l) in
      let x : StreamPart = item d.streams n below in
      let at : number_of names w ≡ Some n = some_is (number_of names w) (any_fails (λ v. is_none (number_of names v)) wanted known k [] l) in
      ap (λ (r : Stream). r.format) (stream_at d t rows n x below)
      ∙ ap (λ r. format_of (option_and_then (λ s. parameter_of d.parameters (stream_key s)) r)) (sym (slice_get-get_or d.streams n x below))
      ∙ ap (λ r. format_of (option_and_then (λ s. parameter_of d.parameters (stream_key s)) (option_and_then (slice_get d.streams) r))) (sym at)

  pub sources_alike : ReferencesObey d → SchedulesObey d → (x k : ℕ) → x < length t.labels → k < length (label_row t x).sources → (stream_row t (get_or (label_row t x).sources k 0)).format ≡ (label_row t x).format
  sources_alike refs schedules x k h = each_label d t rows (λ r. k < length r.sources → (stream_row t (get_or r.sources k 0)).format ≡ r.format) (λ j y l m.
      let own = get_or d.labels j y in
      let wanted = own.sources.items in
      let names = stream_names d in
      let known = each_fails (λ w. has_unknown names w.sources.items) d.labels refs.sources j y l in
      let there : k < length wanted = omega (arith, m, length-map wanted (number_in names)) in
      let alike = not_false (same_format (parameter_of d.parameters (label_key own)) (source_parameter d.parameters d.streams names (get_or wanted k [])))
      (any_fails (λ n. not (same_format (parameter_of d.parameters (label_key own)) (source_parameter d.parameters d.streams names n))) wanted (each_fails (λ w. differs d.parameters d.streams names w) d.labels schedules.formats j y l) k [] there) in
      ap (λ n. (stream_row t n).format) (get_or-map (number_in names) wanted k [] 0 there)
      ∙ source_is wanted known k there
      ∙ same_is (parameter_of d.parameters (label_key own)) (source_parameter d.parameters d.streams names (get_or wanted k [])) alike) x h
